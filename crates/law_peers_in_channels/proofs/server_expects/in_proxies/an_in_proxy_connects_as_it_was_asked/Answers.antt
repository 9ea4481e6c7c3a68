use Rattle.law_peers_in_channels.proofs.ServerExpects.InProxies.{in_proxy_connects}
use Rattle.law_peers_in_channels.proofs.server_expects.in_proxies.an_in_proxy_connects_as_it_was_asked.Goals as goal

pub returns : goal.returns
returns c = in_proxy_connects
