use Rattle.law_role_inproxy.proofs.Putting.Laws.{puts_in_order}
use Rattle.law_role_inproxy.proofs.puts.an_in_proxy_puts_in_order.Goals as goal

pub returns : goal.returns
returns c = puts_in_order
