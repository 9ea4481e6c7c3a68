use Rattle.law_role_outproxy.proofs.Putting.ToClient.{opens_in_order}
use Rattle.law_role_outproxy.proofs.puts.an_out_proxy_opens_to_its_client_in_order.Goals as goal

pub returns : goal.returns
returns c = opens_in_order
