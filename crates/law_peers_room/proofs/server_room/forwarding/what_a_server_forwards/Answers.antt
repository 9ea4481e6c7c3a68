use Rattle.law_peers_room.proofs.ServerRoom.Forwarded.{forwards_acks}
use Rattle.law_peers_room.proofs.server_room.forwarding.what_a_server_forwards.Goals as goal

pub returns : goal.returns
returns c = forwards_acks
