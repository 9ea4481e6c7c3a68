use Rattle.law_role_outproxy.proofs.Putting.ToServer.{opens_first}
use Rattle.law_role_outproxy.proofs.puts.an_out_proxy_opens_to_the_server_first.Goals as goal

pub returns : goal.returns
returns c = opens_first
