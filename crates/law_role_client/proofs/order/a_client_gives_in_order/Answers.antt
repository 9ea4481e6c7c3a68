use Rattle.law_role_client.proofs.GivesInOrder.{gives_in_order}
use Rattle.law_role_client.proofs.order.a_client_gives_in_order.Goals as goal

pub returns : goal.returns
returns c = λ config moves allowed. gives_in_order config moves
