use Rattle.law_node_ends.proofs.Passed.ServerPassed.{server_done}
use Rattle.law_node_ends.proofs.passing.server.a_server_is_done_behind_a_mark.Goals as goal

pub returns : goal.returns
returns c = λ window moves.
    server_done window (c.a_server_takes_in_order.ensures window) moves
