use Rattle.law_role_server.proofs.Takes.{takes_in_order}
use Rattle.law_role_server.proofs.order.a_server_takes_in_order.Goals as goal

pub returns : goal.returns
returns c = takes_in_order
