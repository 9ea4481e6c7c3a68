use Rattle.law_peers_room.proofs.ServerRoom.OwnCounts.{have_legs}
use Rattle.law_peers_room.proofs.server_room.owning.acknowledgements_have_their_legs.Goals as goal

pub returns : goal.returns
returns c = have_legs
