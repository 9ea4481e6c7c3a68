use Rattle.law_role_client.proofs.TakesInOrder.{takes_in_order}
use Rattle.law_role_client.proofs.order.a_client_takes_in_order.Goals as goal

pub returns : goal.returns
returns c = takes_in_order
