use Rattle.law_role_outproxy.proofs.Counted.OutProxyOnce.{out_proxy_once}
use Rattle.law_role_outproxy.proofs.counts.an_out_proxy_is_opened_once.Goals as goal

pub returns : goal.returns
returns c = out_proxy_once
