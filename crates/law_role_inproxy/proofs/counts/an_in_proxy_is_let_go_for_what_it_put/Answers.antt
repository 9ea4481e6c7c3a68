use Rattle.law_role_inproxy.proofs.Counted.InProxyLeaves.{in_proxy_leaves}
use Rattle.law_role_inproxy.proofs.counts.an_in_proxy_is_let_go_for_what_it_put.Goals as goal

pub returns : goal.returns
returns c = in_proxy_leaves
