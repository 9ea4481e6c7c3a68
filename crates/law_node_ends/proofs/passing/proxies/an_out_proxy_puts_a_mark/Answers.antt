use Rattle.law_node_ends.proofs.Passed.OutProxyPassed.{out_proxy_put}
use Rattle.law_node_ends.proofs.passing.proxies.an_out_proxy_puts_a_mark.Goals as goal

pub returns : goal.returns
returns c = λ config moves allowed.
    out_proxy_put config moves (c.an_out_proxy_keeps_order.ensures config moves allowed) allowed
