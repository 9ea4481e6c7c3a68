use Rattle.law_peers_expects.proofs.InProxyExpects.Announces.{announces_what_came}
use Rattle.law_peers_expects.proofs.in_proxy_expects.announcing.an_in_proxy_announces_what_came.Goals as goal

pub returns : goal.returns
returns c = announces_what_came
