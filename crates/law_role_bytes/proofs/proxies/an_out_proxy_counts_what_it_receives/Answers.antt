use Rattle.law_role_bytes.proofs.OutReceives.{out_proxy_received}
use Rattle.law_role_bytes.proofs.proxies.an_out_proxy_counts_what_it_receives.Goals as goal

pub returns : goal.returns
returns c = out_proxy_received
