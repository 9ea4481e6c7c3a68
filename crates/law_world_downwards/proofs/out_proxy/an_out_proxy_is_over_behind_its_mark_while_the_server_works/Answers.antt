use Rattle.law_node_traces.proofs.Vocabulary.{deeds, rules}
use Rattle.law_world_downwards.proofs.OutKept.{OutLaws, over_behind_mark}
use Rattle.law_world_downwards.proofs.out_proxy.an_out_proxy_is_over_behind_its_mark_while_the_server_works.Goals as goal

pub returns : goal.returns
returns g c = λ m w new ours ranges port v ends going serves n.
    let once = c.legs_of_roles_come_up_once.ensures m w.company w.cast ours in
    over_behind_mark law m w ours
    (λ u leads. c.a_recording_of_roles_is_known.ensures.changes m w u new ours leads)
    (λ u leads. c.a_proxy_that_was_let_go_has_no_leg_up.ensures rules m deeds w u new once leads)
    (λ u by. c.nothing_on_its_way_is_lost.ensures m w new ours ranges u by)
    (λ u by k stream. c.no_head_that_comes_asks_for_an_echo.ensures.outs m w new ours ranges port u
    by k stream)
    ends.lines.leads.changes ends.lines.leads.allowed ends.lines.work ends.in_time going serves n
  where
    law : OutLaws
    law = record {
      serving = record {
        unmarked = c.an_end_marks_only_what_was_lost.ensures;
        keeps = c.a_leg_of_use_is_kept.ensures.server;
        uses = c.a_server_uses_an_os_leg_that_it_kept.ensures;
      };
      unmarked_out = c.a_node_marks_only_what_was_lost.ensures;
      keeps_out = c.a_leg_of_use_is_kept.ensures.out_proxy;
      stays_done = c.a_server_that_is_done_stays_done.ensures;
      over = c.an_out_proxy_that_kept_its_server_is_over_behind_its_mark.ensures;
      handed = c.an_out_proxy_handed_over_where_it_put_its_mark.ensures;
      for_good = c.an_out_proxy_hands_over_for_good.ensures;
    }
