use Rattle.law_role_bytes.proofs.InSends.{in_proxy_told}
use Rattle.law_role_bytes.proofs.proxies.an_in_proxy_knows_of_a_window_that_was_told.Goals as goal

pub returns : goal.returns
returns c = in_proxy_told
