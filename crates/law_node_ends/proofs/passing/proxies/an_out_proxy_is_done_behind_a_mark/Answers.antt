use Rattle.law_node_ends.proofs.Passed.OutProxyPassed.{out_proxy_done}
use Rattle.law_node_ends.proofs.passing.proxies.an_out_proxy_is_done_behind_a_mark.Goals as goal

pub returns : goal.returns
returns c = λ config moves allowed.
    out_proxy_done config moves (c.an_out_proxy_keeps_order.ensures config moves allowed) allowed
