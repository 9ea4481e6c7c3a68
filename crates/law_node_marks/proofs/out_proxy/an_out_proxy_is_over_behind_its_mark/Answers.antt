use Rattle.law_node_marks.proofs.OutProxyOver.{over_behind_mark}
use Rattle.law_node_marks.proofs.out_proxy.an_out_proxy_is_over_behind_its_mark.Goals as goal

pub returns : goal.returns
returns c = λ config moves may asks.
    over_behind_mark config moves may asks (c.an_out_proxy_keeps_order.ensures config)
