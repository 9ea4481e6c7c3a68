use Rattle.law_peers_room.proofs.InRoom.Moment.{few_wait, has_room, of_each}
use Rattle.law_peers_room.proofs.in_room.room.an_in_proxy_has_room.Goals as goal

pub returns-clause-few : goal.returns-clause-few
returns-clause-few c numbers reader moves moment =
    few_wait numbers reader moves moment.now
    (of_each numbers moves moment.now.made c.what_waits_in_an_in_proxy_came_in_turn.ensures)
    (c.a_client_acknowledges_what_is_near.ensures numbers.client moves.client
    moment.now.made.client)
    (c.replacements_go_round.ensures numbers reader moves moment.now.made moment.now.joined)

pub returns-clause-room : goal.returns-clause-room
returns-clause-room c numbers reader moves moment =
    has_room numbers reader moves moment.now
    (of_each numbers moves moment.now.made c.what_waits_in_an_in_proxy_came_in_turn.ensures)
    (c.a_client_acknowledges_what_is_near.ensures numbers.client moves.client
    moment.now.made.client)
    (c.replacements_go_round.ensures numbers reader moves moment.now.made moment.now.joined)
