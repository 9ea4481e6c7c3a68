use Rattle.rh_client.specs.Client as client
use Rattle.law_order.proofs.Vocabulary.{subst}
use Rattle.law_moves.proofs.Vocabulary.{Shell}
use Rattle.law_role_client.proofs.Vocabulary.{ClientRole}
use Rattle.law_node_history.proofs.Vocabulary.{AreAcceptedAtEnd}
use Rattle.law_node_traces.proofs.Vocabulary.{history_at}
use Rattle.law_world_order.proofs.Vocabulary.{numbers_of}
use Rattle.law_world_marks.proofs.EndRound.{RoundLaws, went_round}
use Rattle.law_world_marks.proofs.done.the_clean_end_went_round_where_a_client_is_done.Goals as goal

pub returns : goal.returns
returns g c = λ m w new ours ranges v by done.
    let h = history_at m w v by.leads in
    let numbers = numbers_of ours in
    let directions = c.directions_are_joined.ensures m w new ours ranges v by in
    let moment = c.replacements_of_a_world_go_round.ensures m w new ours ranges v by in
    let known = c.a_recording_of_roles_is_known.ensures.changes m w v new ours by.leads in
    went_round law numbers v h moment.0.flows moment.1 directions
    (c.what_goes_down_is_a_route.ensures numbers.client numbers.window numbers.outs h.client
    h.server h.outs directions.down)
    (λ leg. c.a_leg_that_came_up_is_known.ensures.client numbers.client h.client leg
    (subst (λ (s : Shell ClientRole). AreAcceptedAtEnd client.rules client.acts s h.client)
    ours.client known.traced.accepted.client)) done
  where
    law : RoundLaws
    law = record {
      order = c.a_client_takes_in_order.ensures;
      replaces = c.a_client_replaces_out_channels_one_by_one.ensures;
      replaced = c.a_server_replaces_out_channels_one_by_one.ensures.counts;
      may_lose = c.a_node_goes_on_where_it_may_lose_a_leg.ensures;
      out_goes = c.no_end_closes_an_out_proxy_behind_its_mark.ensures;
    }
