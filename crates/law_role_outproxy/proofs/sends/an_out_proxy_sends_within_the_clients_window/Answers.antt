use Rattle.law_role_outproxy.proofs.Sending.OutProxySends.{out_proxy_sends}
use Rattle.law_role_outproxy.proofs.sends.an_out_proxy_sends_within_the_clients_window.Goals as goal

pub returns : goal.returns
returns c = out_proxy_sends
