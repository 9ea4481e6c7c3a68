use Rattle.law_role_windows.proofs.Acknowledging.InProxyTells.{in_proxy_receives}
use Rattle.law_role_windows.proofs.acks.receivers.an_in_proxy_receives_within_its_window.Goals as goal

pub returns : goal.returns
returns c = λ config moves n is. in_proxy_receives config moves is n
