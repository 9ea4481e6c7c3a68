use Rattle.law_node_history.proofs.Vocabulary.{all_noted, nothing}
use Rattle.law_node_traces.proofs.Traced.ByChanges.{lines_by_changes}
use Rattle.law_node_traces.proofs.Vocabulary.{deeds, rules}
use Rattle.law_world_order.proofs.Vocabulary.{numbers_of}
use Rattle.law_world_marks.proofs.OverUpwards.{MarksLaws, go_on}
use Rattle.law_world_marks.proofs.upwards.nodes_go_on_where_legs_are_over_upwards.Goals as goal

pub returns : goal.returns
returns g c = λ m w new ours ranges port v ends going.
    let h = all_noted rules m deeds w nothing ends.lines.leads.changes in
    let numbers = numbers_of ours in
    let over = c.what_is_lost_in_time_had_passed.ensures.over m w new ours ranges port v ends
    going in
    let directions = over.ways.directions in
    go_on law numbers v h going over.ways over.passed
    (c.what_goes_down_is_a_route.ensures numbers.client numbers.window numbers.outs h.client
    h.server h.outs directions.down) ranges.window
    (λ n. c.no_head_that_comes_asks_for_an_echo.ensures.ins m w new ours ranges port v
    (lines_by_changes rules m deeds w v ends.lines) n (directions.up.proxies n))
    (λ n. c.no_head_that_comes_asks_for_an_echo.ensures.outs m w new ours ranges port v
    (lines_by_changes rules m deeds w v ends.lines) n (directions.down.proxies n))
  where
    law : MarksLaws
    law = record {
      out_goes = c.no_end_closes_an_out_proxy_behind_its_mark.ensures;
      in_goes = c.no_end_of_a_ci_leg_closes_an_in_proxy_behind_a_mark.ensures;
      unput = c.an_in_proxy_puts_nothing_to_its_client.ensures;
      may_lose = c.a_node_goes_on_where_it_may_lose_a_leg.ensures;
      kept = c.an_out_proxy_that_kept_its_server_is_over_behind_its_mark.ensures;
      handed = c.no_end_of_a_leg_that_it_handed_over_closes_a_server.ensures;
      was_handed = c.no_end_of_a_leg_that_was_handed_over_closes_a_server.ensures;
      was_ended = c.no_end_of_a_leg_that_is_over_closes_a_server.ensures;
    }
