use Rattle.law_peers_forwarding.proofs.Channels.{few_are_late}
use Rattle.law_peers_forwarding.proofs.late.few_channels_are_late.Goals as goal

pub returns : goal.returns
returns c numbers reader moves moment =
    few_are_late numbers reader moves moment
    (record {
      order = c.in_channels_are_announced_in_order.ensures.fronts numbers reader moves moment;
      answered = c.a_server_answers_each_in_channel_once.ensures.answers numbers.window;
      opens = c.a_server_opens_once.ensures numbers.window;
      round = c.replacements_go_round.ensures numbers;
      two = c.handovers_make_room_for_answers.ensures.two numbers.window;
    })
