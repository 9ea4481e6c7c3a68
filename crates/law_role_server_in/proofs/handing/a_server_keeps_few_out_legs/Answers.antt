use Rattle.law_order.proofs.Vocabulary.{arith}
use Rattle.law_moves.proofs.Vocabulary.{end_started}
use Rattle.law_role_server.proofs.Vocabulary.{first}
use Rattle.law_role_server_in.proofs.OutLegs.{moves_few}
use Rattle.law_role_server_in.proofs.handing.a_server_keeps_few_out_legs.Goals as goal

pub returns : goal.returns
returns c = λ window moves. moves_few (end_started (first window)) moves (omega arith)
