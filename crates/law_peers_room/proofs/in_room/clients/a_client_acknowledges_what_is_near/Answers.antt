use Rattle.law_moves.proofs.Vocabulary.{HasComeUp}
use Rattle.law_role_client.proofs.Vocabulary.{client_moved}
use Rattle.law_role_client_rows.specs.InTurn.Turns.{first_turn}
use Rattle.law_peers_room.proofs.InRoom.Client.{acks_near}
use Rattle.law_peers_room.proofs.InRoom.OnEach.{each_of_all}
use Rattle.law_peers_room.proofs.in_room.clients.a_client_acknowledges_what_is_near.Goals as goal

pub returns : goal.returns
returns c config moves allowed =
    each_of_all (HasComeUp moves) first_turn (client_moved config moves).passage.put
    (c.a_client_writes_in_turn.ensures config moves) (acks_near config moves allowed)
