use Rattle.law_role_server_edges.proofs.TellsPuts.{tells_in}
use Rattle.law_role_server_edges.proofs.windows.a_server_told_what_its_window_told.Goals as goal

pub returns : goal.returns
returns c = λ window moves. tells_in window moves (c.a_server_copies_what_came.ensures window moves)
