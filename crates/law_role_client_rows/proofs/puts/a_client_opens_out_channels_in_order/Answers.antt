use Rattle.law_role_client_rows.proofs.Putting.Laws.{opens_out}
use Rattle.law_role_client_rows.proofs.puts.a_client_opens_out_channels_in_order.Goals as goal

pub returns : goal.returns
returns c = opens_out
