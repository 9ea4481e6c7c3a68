use Rattle.law_role_server_rows.proofs.Putting.CopiedPuts.{copies_what_came}
use Rattle.law_role_server_rows.proofs.puts.puts.a_server_copies_what_came.Goals as goal

pub returns : goal.returns
returns c = copies_what_came
