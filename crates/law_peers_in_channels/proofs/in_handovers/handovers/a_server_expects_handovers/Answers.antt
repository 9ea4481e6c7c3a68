use Rattle.law_peers_in_channels.proofs.InHandovers.Expects.{expects_handovers}
use Rattle.law_peers_in_channels.proofs.in_handovers.handovers.a_server_expects_handovers.Goals as goal

pub returns : goal.returns
returns c numbers reader moves moment =
    let made = moment.now.made in
    expects_handovers numbers reader moves moment
    (record {
      order = c.in_channels_are_announced_in_order.ensures.fronts numbers reader moves moment;
      answered = c.in_channels_are_answered_in_order.ensures numbers reader moves moment;
      answers = c.a_server_answers_each_in_channel_once.ensures.answers numbers.window;
      opens = c.a_server_opens_once.ensures numbers.window;
      round = c.replacements_go_round.ensures numbers;
    })
    (record {
      refuses = c.what_a_server_refuses_of_in_channels.ensures.handovers numbers.window
          moves.server made.server;
      names = c.a_client_names_its_in_channels.ensures numbers.client moves.client made.client;
      replaces = c.a_client_replaces_in_channels_one_by_one.ensures numbers.client moves.client
          made.client;
      puts = λ m.
          c.an_in_proxy_in_turn_puts_in_order.ensures (numbers.ins m) (moves.ins m) (made.ins m)
          (made.ins_turn m);
      number = made.in_number;
    })
