use Rattle.law_world_windows.proofs.InProxySends.{in_proxy_sends}
use Rattle.law_world_windows.proofs.in_proxy.an_in_proxy_sends_within_the_servers_window.Goals as goal

pub returns : goal.returns
returns c = in_proxy_sends
