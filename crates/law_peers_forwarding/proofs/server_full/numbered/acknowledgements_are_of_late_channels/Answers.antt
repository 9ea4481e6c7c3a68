use Rattle.law_peers_forwarding.proofs.ServerFull.Late.{are_late}
use Rattle.law_peers_forwarding.proofs.server_full.numbered.acknowledgements_are_of_late_channels.Goals as goal

pub returns : goal.returns
returns c numbers reader moves joined front later e =
    are_late numbers reader moves joined
    (c.in_channels_are_answered_before_they_are_acknowledged.ensures numbers reader moves joined)
    (λ m. c.an_in_proxy_in_turn_puts_in_order.ensures (numbers.ins m) (moves.ins m)
    (joined.made.ins m) (joined.made.ins_turn m)) front later e
