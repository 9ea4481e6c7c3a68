use Rattle.law_order.proofs.Vocabulary.{refl, All-nil}
use Rattle.rh_client.specs.Client as client
use Rattle.rh_client.specs.State as client_state
use Rattle.law_moves.proofs.Vocabulary.{IsHeld}
use Rattle.law_role_client.proofs.Vocabulary.{came_log, client_moved, giver_of, has_leg, put_log, taker_of}
use Rattle.law_node_ends.proofs.Stops.ClientStays.{said, client_stays}
use Rattle.law_node_traces.proofs.Traced.Remembering.{comes_up_once_at_end}
use Rattle.law_node_begins.specs.EndsBegin.{client_reads}
use Rattle.law_node_order.proofs.Closing.{is_told}
use Rattle.law_node_order.proofs.Feeding.{gives_out}
use Rattle.law_node_order.proofs.Joining.{at_end}
use Rattle.law_node_order.proofs.Sides.{client_gives, client_knows, client_sees}
use Rattle.law_node_order.specs.Sides.{client_feed}
use Rattle.law_node_order.proofs.ends.a_clients_streams_keep_order.Goals as goal

pub returns : goal.returns
returns c config events =
    let first = client_state.first config in
    at_end client.rules client.acts first client.rooms client_reads put_log client_feed came_log
    client_sees (λ s. s.is_closing) (λ moves s. has_leg)
    (λ moves allowed.
    let p = client_moved config moves in
    record {
      gives = gives_out (giver_of p.given p.passage.role) (put_log p.passage.put)
          (c.a_client_gives_in_order.ensures config moves allowed);
      shelves = (taker_of p.taken p.passage.role).shelves;
      takes = c.a_client_takes_in_order.ensures config moves allowed;
    })
    (λ some accepted turn.
    c.an_ends_stream.ensures first client.rooms client_reads some
    c.an_end_never_refuses.ensures.client_pipes c.an_end_never_refuses.ensures.client
    (c.a_leg_that_a_client_left_stays_unused.ensures.calls config)
    (comes_up_once_at_end client.rules (client.first_client config) (λ role leg e. e) client.acts
    (c.a_clients_leg_comes_up_once.ensures.comes config)
    (c.a_clients_leg_comes_up_once.ensures.once config))
    accepted turn)
    (λ some accepted st.
    client_knows (client.first_client config) some
    (c.a_clients_leg_comes_up_once.ensures.numbers config) accepted)
    (λ all.
    is_told client.rules client.acts said client_stays client_gives
    c.roles_move_by_their_rules.ensures.event first client.rooms all (All-nil IsHeld) refl)
    events
