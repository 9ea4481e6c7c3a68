use Rattle.law_role_edges.proofs.OutKnows.{out_knows}
use Rattle.law_role_edges.proofs.out_proxies.an_out_proxy_knows_what_its_client_told.Goals as goal

pub returns : goal.returns
returns c = out_knows
