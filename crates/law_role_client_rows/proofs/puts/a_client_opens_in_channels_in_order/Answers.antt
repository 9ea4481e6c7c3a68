use Rattle.law_role_client_rows.proofs.Putting.Laws.{opens_in}
use Rattle.law_role_client_rows.proofs.puts.a_client_opens_in_channels_in_order.Goals as goal

pub returns : goal.returns
returns c = opens_in
