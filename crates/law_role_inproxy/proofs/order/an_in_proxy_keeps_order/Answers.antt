use Rattle.law_role_inproxy.proofs.OrderMoves.{order_is_kept}
use Rattle.law_role_inproxy.proofs.order.an_in_proxy_keeps_order.Goals as goal

pub returns : goal.returns
returns c = λ config moves allowed. order_is_kept config moves
