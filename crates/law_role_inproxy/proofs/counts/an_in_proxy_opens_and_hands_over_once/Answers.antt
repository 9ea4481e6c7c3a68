use Rattle.law_role_inproxy.proofs.Counted.InProxyLaws.{in_proxy_once}
use Rattle.law_role_inproxy.proofs.counts.an_in_proxy_opens_and_hands_over_once.Goals as goal

pub returns : goal.returns
returns c = in_proxy_once
