use Rattle.law_order.proofs.Vocabulary.{◌∙◌}
use Rattle.law_node_traces.proofs.Traced.ByChanges.{lines_by_changes}
use Rattle.law_node_traces.proofs.Vocabulary.{deeds, rules}
use Rattle.law_world_downwards.proofs.ServerLeft.{server_rests}
use Rattle.law_world_downwards.proofs.ServerOver.{ServerLaws}
use Rattle.law_world_downwards.proofs.out_proxy.an_out_proxy_goes_on_where_its_server_left.Goals as goal

pub returns : goal.returns
returns g c = λ m w new ours ranges port v ends going last n some rose over leg.
    let by = lines_by_changes rules m deeds w v ends.lines in
    let rest = server_rests law m w v ours ends.lines.leads
    (c.a_recording_of_roles_is_known.ensures.changes m w v new ours ends.lines.leads)
    (c.nothing_on_its_way_is_lost.ensures m w new ours ranges v by) going n over in
    let round = c.the_clean_end_went_round_where_a_client_is_done.ensures m w new ours ranges v by
    (last rest) in
    round.outs n some rose leg ∙ going.outs n
  where
    law : ServerLaws
    law = record {
      unmarked = c.an_end_marks_only_what_was_lost.ensures;
      keeps = c.a_leg_of_use_is_kept.ensures.server;
      uses = c.a_server_uses_an_os_leg_that_it_kept.ensures;
    }
