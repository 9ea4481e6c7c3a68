use Rattle.law_node_marks.proofs.InProxyOver.{over_behind_mark}
use Rattle.law_node_marks.proofs.in_proxy.an_in_proxy_is_over_behind_its_mark.Goals as goal

pub returns : goal.returns
returns c = λ config moves may asks.
    over_behind_mark config moves may asks (c.an_in_proxy_keeps_order.ensures config)
