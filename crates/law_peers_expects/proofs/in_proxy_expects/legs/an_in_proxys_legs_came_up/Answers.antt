use Rattle.law_peers_expects.proofs.InProxyExpects.Raised.{came_up_by_moves}
use Rattle.law_peers_expects.proofs.in_proxy_expects.legs.an_in_proxys_legs_came_up.Goals as goal

pub returns : goal.returns
returns c = came_up_by_moves
