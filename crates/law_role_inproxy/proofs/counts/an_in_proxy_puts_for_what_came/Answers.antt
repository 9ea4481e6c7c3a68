use Rattle.law_role_inproxy.proofs.Counted.InProxyLaws.{in_proxy_puts}
use Rattle.law_role_inproxy.proofs.counts.an_in_proxy_puts_for_what_came.Goals as goal

pub returns : goal.returns
returns c = in_proxy_puts
