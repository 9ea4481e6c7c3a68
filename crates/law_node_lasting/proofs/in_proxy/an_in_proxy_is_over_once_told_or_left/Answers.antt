use Rattle.law_node_lasting.proofs.InProxyLasts.{over_by_logs}
use Rattle.law_node_lasting.proofs.in_proxy.an_in_proxy_is_over_once_told_or_left.Goals as goal

pub returns : goal.returns
returns c = λ config moves may asks.
    over_by_logs config moves may asks (c.an_in_proxy_keeps_order.ensures config moves may)
