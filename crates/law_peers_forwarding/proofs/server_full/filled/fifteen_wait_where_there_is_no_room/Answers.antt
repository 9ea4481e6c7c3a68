use Rattle.law_role_server_in.specs.Handovers.{passed}
use Rattle.law_peers_room.proofs.ServerRoom.KeptLegs.{owns}
use Rattle.law_peers_room.proofs.ServerRoom.Overtaken.{legs_sorted}
use Rattle.law_peers_forwarding.proofs.ServerFull.Filling.{fills_first}
use Rattle.law_peers_forwarding.proofs.server_full.filled.fifteen_wait_where_there_is_no_room.Goals as goal

pub returns : goal.returns
returns c window moves =
    fills_first (passed window moves).role (c.what_a_server_forwards.ensures window moves)
    (c.acknowledgements_have_their_legs.ensures window moves)
    (c.a_server_keeps_few_out_legs.ensures window moves) (legs_sorted window moves)
    (owns window moves).room
