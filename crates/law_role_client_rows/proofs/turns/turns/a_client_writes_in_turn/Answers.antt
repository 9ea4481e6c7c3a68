use Rattle.law_role_client_rows.proofs.InTurn.Laws.{in_turn}
use Rattle.law_role_client_rows.proofs.turns.turns.a_client_writes_in_turn.Goals as goal

pub returns : goal.returns
returns c = in_turn
