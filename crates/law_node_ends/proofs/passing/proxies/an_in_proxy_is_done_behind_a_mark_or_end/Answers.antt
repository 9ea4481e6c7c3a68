use Rattle.law_node_ends.proofs.Passed.InProxyPassed.{in_proxy_done}
use Rattle.law_node_ends.proofs.passing.proxies.an_in_proxy_is_done_behind_a_mark_or_end.Goals as goal

pub returns : goal.returns
returns c = λ config moves allowed.
    in_proxy_done config moves (c.an_in_proxy_keeps_order.ensures config moves allowed) allowed
