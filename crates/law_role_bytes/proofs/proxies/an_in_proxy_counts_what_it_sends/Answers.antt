use Rattle.law_role_bytes.proofs.InSends.{in_proxy_sent}
use Rattle.law_role_bytes.proofs.proxies.an_in_proxy_counts_what_it_sends.Goals as goal

pub returns : goal.returns
returns c = in_proxy_sent
