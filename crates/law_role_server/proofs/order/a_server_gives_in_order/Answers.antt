use Rattle.law_moves.proofs.Vocabulary.{end_started}
use Rattle.law_role_server.proofs.Vocabulary.{first}
use Rattle.law_role_server.proofs.Gives.{all_gives, gives_first}
use Rattle.law_role_server.proofs.order.a_server_gives_in_order.Goals as goal

pub returns : goal.returns
returns c = λ window moves. all_gives moves (end_started (first window)) (gives_first window)
