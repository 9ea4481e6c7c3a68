use Rattle.law_peers_room.proofs.ServerRoom.Kept.{acknowledges_in_order}
use Rattle.law_peers_room.proofs.server_room.acks.an_in_proxy_acknowledges_in_order.Goals as goal

pub returns : goal.returns
returns c = acknowledges_in_order
