use Rattle.law_order.proofs.Vocabulary.{refl, All-nil}
use Rattle.rh_server.specs.Servers as server
use Rattle.law_moves.proofs.Vocabulary.{IsHeld, InServer, all_end_moved, end_started}
use Rattle.law_role_server.proofs.Vocabulary.{giver_of, has_leg, in_items, is_closing, items_on, taker_of}
use Rattle.law_node_ends.proofs.Stops.ServerStays.{said, server_stays}
use Rattle.law_node_traces.proofs.Traced.Remembering.{comes_up_once_at_end}
use Rattle.law_node_begins.specs.EndsBegin.{server_reads}
use Rattle.law_node_order.proofs.Closing.{is_told}
use Rattle.law_node_order.proofs.Feeding.{gives_out}
use Rattle.law_node_order.proofs.Joining.{at_end}
use Rattle.law_node_order.proofs.Sides.{server_gives, server_knows, server_sees}
use Rattle.law_node_order.specs.Sides.{server_feed, server_put}
use Rattle.law_node_order.proofs.ends.a_servers_streams_keep_order.Goals as goal

pub returns : goal.returns
returns c window events =
    let first = server.first window in
    at_end server.rules server.acts first server.rooms server_reads server_put server_feed
    (λ came n. items_on in_items InServer came n) server_sees (λ s. is_closing s.giving) has_leg
    (λ moves allowed.
    let p = all_end_moved server.rules server.acts (end_started first) moves in
    record {
      gives = gives_out (giver_of p.given p.passage.role) (server_put p.passage.put)
          (c.a_server_gives_in_order.ensures window moves);
      shelves = (taker_of p.taken p.passage.role).shelves;
      takes = c.a_server_takes_in_order.ensures window moves allowed;
    })
    (λ some accepted turn.
    c.an_ends_stream.ensures first server.rooms server_reads some
    c.an_end_never_refuses.ensures.server_pipes c.an_end_never_refuses.ensures.server
    (c.a_leg_that_a_server_left_stays_unused.ensures.calls window)
    (comes_up_once_at_end server.rules (server.new_server window) (λ role leg e. absurd cc)
    server.acts
    (c.a_servers_leg_comes_up_once.ensures.comes window)
    (c.a_servers_leg_comes_up_once.ensures.once window))
    accepted turn)
    (λ some accepted st.
    server_knows window some st)
    (λ all.
    is_told server.rules server.acts said server_stays server_gives
    c.roles_move_by_their_rules.ensures.event first server.rooms all (All-nil IsHeld) refl)
    events
