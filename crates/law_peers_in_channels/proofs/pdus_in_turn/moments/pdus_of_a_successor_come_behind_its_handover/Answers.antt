use Rattle.law_peers_in_channels.proofs.PdusInTurn.Ahead.{come_behind}
use Rattle.law_peers_in_channels.proofs.pdus_in_turn.moments.pdus_of_a_successor_come_behind_its_handover.Goals as goal

pub returns : goal.returns
returns c numbers reader moves made joined =
    come_behind numbers reader moves made joined
    (λ m. c.an_in_proxy_sends_where_it_was_told.ensures (numbers.ins m) (moves.ins m) (made.ins m))
    (c.a_server_tells_a_window_behind_handovers.ensures numbers.window moves.server made.server)
