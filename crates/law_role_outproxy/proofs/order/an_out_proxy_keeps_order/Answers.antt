use Rattle.law_role_outproxy.proofs.OrderKept.{order_kept}
use Rattle.law_role_outproxy.proofs.order.an_out_proxy_keeps_order.Goals as goal

pub returns : goal.returns
returns c = order_kept
