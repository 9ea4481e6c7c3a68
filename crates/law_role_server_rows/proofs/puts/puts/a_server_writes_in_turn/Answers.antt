use Rattle.law_role_server_rows.proofs.Putting.Writing.{in_turn}
use Rattle.law_role_server_rows.proofs.puts.puts.a_server_writes_in_turn.Goals as goal

pub returns : goal.returns
returns c = in_turn
