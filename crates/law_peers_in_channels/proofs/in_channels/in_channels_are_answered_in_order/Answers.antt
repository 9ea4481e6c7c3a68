use Rattle.law_peers_in_channels.proofs.InChannels.Answered.{are_answered}
use Rattle.law_peers_in_channels.proofs.in_channels.in_channels_are_answered_in_order.Goals as goal

pub returns : goal.returns
returns c numbers =
    are_answered numbers
    (λ reader moves joined.
    c.replacements_go_round.ensures numbers reader moves joined.made joined.joined)
    (c.a_server_answers_each_in_channel_once.ensures.answers numbers.window)
