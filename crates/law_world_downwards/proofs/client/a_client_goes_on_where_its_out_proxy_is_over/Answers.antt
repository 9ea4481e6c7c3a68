use Rattle.rh_server.specs.Servers as server
use Rattle.law_moves.proofs.Vocabulary.{is_at_work}
use Rattle.law_node_history.proofs.Vocabulary.{all_noted, nothing}
use Rattle.law_node_begins.specs.ProxiesBegin.Pipes.{co}
use Rattle.law_node_traces.proofs.Traced.ByChanges.{lines_by_changes}
use Rattle.law_node_traces.proofs.Vocabulary.{deeds, rules}
use Rattle.law_world_order.proofs.Vocabulary.{numbers_of}
use Rattle.law_world_ways.specs.OnPaths.Ways.{server_node}
use Rattle.law_world_downwards.proofs.Downwards.{ClientLaws, client_goes}
use Rattle.law_world_downwards.proofs.ServerLeft.{either_way}
use Rattle.law_world_downwards.proofs.client.a_client_goes_on_where_its_out_proxy_is_over.Goals as goal

pub returns : goal.returns
returns g c = λ m w new ours ranges port v ends going last n some over.
    let h = all_noted rules m deeds w nothing ends.lines.leads.changes in
    let once = c.legs_of_roles_come_up_once.ensures m w.company w.cast ours in
    let by = lines_by_changes rules m deeds w v ends.lines in
    client_goes m w v ours ends.lines.leads
    (c.a_recording_of_roles_is_known.ensures.changes m w v new ours ends.lines.leads)
    (c.a_proxy_that_was_let_go_has_no_leg_up.ensures rules m deeds w v new once ends.lines.leads)
    (c.nothing_on_its_way_is_lost.ensures m w new ours ranges v by) going law n some over
    (c.what_comes_is_read.ensures.client m w new ours v by (co n))
    (λ rest. either_way (is_at_work server.rules (server_node (numbers_of ours) h).role)
    (λ work. c.an_out_proxy_is_over_behind_its_mark_while_the_server_works.ensures m w new ours
    ranges port v ends going work n rest)
    last)
  where
    law : ClientLaws
    law = record {
      unmarked_out = c.a_node_marks_only_what_was_lost.ensures;
      keeps_out = c.a_leg_of_use_is_kept.ensures.out_proxy;
      keeps_client = c.a_leg_of_use_is_kept.ensures.client;
      handed = c.an_out_proxy_handed_over_where_it_put_its_mark.ensures;
      client_leaves = c.a_client_leaves_what_was_handed_over.ensures.outs;
      client_loses = c.a_node_goes_on_where_it_may_lose_a_leg.ensures;
    }
