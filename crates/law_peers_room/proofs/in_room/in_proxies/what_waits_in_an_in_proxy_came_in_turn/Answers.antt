use Rattle.law_peers_room.proofs.InRoom.InProxy.{waits_in_turn}
use Rattle.law_peers_room.proofs.in_room.in_proxies.what_waits_in_an_in_proxy_came_in_turn.Goals as goal

pub returns : goal.returns
returns c = waits_in_turn
