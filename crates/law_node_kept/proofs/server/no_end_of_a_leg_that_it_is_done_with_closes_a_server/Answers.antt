use Rattle.rh_server.specs.Servers.{acts, new_server, rules}
use Rattle.rh_line.specs.declared.leg.LegKind.TheVariants.{InServer}
use Rattle.law_moves.proofs.Vocabulary.{after_end_events}
use Rattle.law_role_server.proofs.Vocabulary.{leg_at}
use Rattle.law_node_kept.proofs.ServerEvents.{may_lose, run_kept}
use Rattle.law_node_kept.proofs.server.no_end_of_a_leg_that_it_is_done_with_closes_a_server.Goals as goal

pub returns : goal.returns
returns c = λ window events n kept done.
    let node = after_end_events rules acts (new_server window) events in
    c.a_node_goes_on_where_it_may_lose_a_leg.ensures node (leg_at InServer n)
    (may_lose n node
    (run_kept n c.ends_move_by_their_rules.ensures.event window events kept
    (c.a_servers_leg_comes_up_once.ensures.new window events)) done)
