use Rattle.rh_server.specs.Servers.{acts, first, new_server, rooms, rules}
use Rattle.law_moves.proofs.Vocabulary.{after_end_events}
use Rattle.law_node_uses.proofs.ServerDone.{stays_done}
use Rattle.law_node_uses.proofs.server.a_server_that_is_done_stays_done.Goals as goal

pub returns : goal.returns
returns c = λ window events more rest.
    stays_done c.ends_move_by_their_rules.ensures.event
    (after_end_events rules acts (new_server window) events)
    (c.ends_move_by_their_rules.ensures.run (first window) rooms events).held rest more
