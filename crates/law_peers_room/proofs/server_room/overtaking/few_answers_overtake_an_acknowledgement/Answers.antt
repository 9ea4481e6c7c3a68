use Rattle.law_peers_room.proofs.ServerRoom.Overtaken.{few_overtake}
use Rattle.law_peers_room.proofs.server_room.overtaking.few_answers_overtake_an_acknowledgement.Goals as goal

pub returns : goal.returns
returns c = few_overtake
