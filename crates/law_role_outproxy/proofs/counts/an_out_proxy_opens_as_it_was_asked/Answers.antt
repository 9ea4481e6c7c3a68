use Rattle.law_role_outproxy.proofs.Counted.OutProxyNames.{out_proxy_names}
use Rattle.law_role_outproxy.proofs.counts.an_out_proxy_opens_as_it_was_asked.Goals as goal

pub returns : goal.returns
returns c = out_proxy_names
