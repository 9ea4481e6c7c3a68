use Rattle.law_role_server_rows.proofs.Putting.GreetsIn.{greets_first}
use Rattle.law_role_server_rows.proofs.puts.puts.a_server_greets_first.Goals as goal

pub returns : goal.returns
returns c = greets_first
