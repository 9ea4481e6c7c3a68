use Rattle.law_peers_expects.proofs.OutProxyExpects.InGreeting.{puts_quietly}
use Rattle.law_peers_expects.proofs.out_proxy_expects.in_proxies.an_in_proxy_puts_quietly.Goals as goal

pub returns : goal.returns
returns c = puts_quietly
