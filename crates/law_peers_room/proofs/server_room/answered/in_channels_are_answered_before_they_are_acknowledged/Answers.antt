use Rattle.law_peers_room.proofs.ServerRoom.AckedLegs.{answered_first}
use Rattle.law_peers_room.proofs.server_room.answered.in_channels_are_answered_before_they_are_acknowledged.Goals as goal

pub returns : goal.returns
returns c = λ numbers reader moves joined.
    let made = joined.made in
    answered_first numbers reader moves joined
    (c.a_client_writes_in_turn.ensures numbers.client moves.client)
    (c.a_client_replaces_in_channels_one_by_one.ensures numbers.client moves.client made.client)
    (c.replacements_go_round.ensures numbers reader moves made joined.joined)
    (λ m. c.an_in_proxy_acknowledges_in_order.ensures (numbers.ins m) (moves.ins m))
