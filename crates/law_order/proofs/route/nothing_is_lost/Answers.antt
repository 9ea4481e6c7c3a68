use Rattle.law_order.proofs.OnTheWay.{exact}
use Rattle.law_order.proofs.route.nothing_is_lost.Goals as goal

pub returns : goal.returns
returns c = exact
