use Rattle.law_order.proofs.ExampleIsRoute.{is_route}
use Rattle.law_order.proofs.route.a_route_can_end.Goals as goal

pub returns-clause-route : goal.returns-clause-route
returns-clause-route c = is_route
