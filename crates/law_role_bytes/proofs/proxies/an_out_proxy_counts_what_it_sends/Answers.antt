use Rattle.law_role_bytes.proofs.OutSends.{out_proxy_sent}
use Rattle.law_role_bytes.proofs.proxies.an_out_proxy_counts_what_it_sends.Goals as goal

pub returns : goal.returns
returns c = out_proxy_sent
