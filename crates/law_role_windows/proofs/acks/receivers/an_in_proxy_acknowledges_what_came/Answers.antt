use Rattle.law_role_windows.proofs.Acknowledging.InProxyTells.{in_proxy_tells}
use Rattle.law_role_windows.proofs.acks.receivers.an_in_proxy_acknowledges_what_came.Goals as goal

pub returns : goal.returns
returns c = in_proxy_tells
