use Rattle.law_role_client_rows.proofs.Putting.Laws.{switches}
use Rattle.law_role_client_rows.proofs.puts.a_client_switches_in_order.Goals as goal

pub returns : goal.returns
returns c = switches
