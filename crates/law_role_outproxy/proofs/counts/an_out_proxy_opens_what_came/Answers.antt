use Rattle.law_role_outproxy.proofs.Counted.OutProxyLaws.{out_proxy_opens}
use Rattle.law_role_outproxy.proofs.counts.an_out_proxy_opens_what_came.Goals as goal

pub returns : goal.returns
returns c = out_proxy_opens
