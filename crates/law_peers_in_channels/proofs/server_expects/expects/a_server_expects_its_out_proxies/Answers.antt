use Rattle.law_peers_in_channels.proofs.ServerExpects.Ahead.{expects}
use Rattle.law_peers_in_channels.proofs.server_expects.expects.a_server_expects_its_out_proxies.Goals as goal

pub returns : goal.returns
returns c numbers reader moves moment =
    let made = moment.now.made in
    expects numbers reader moves moment.now.joined
    (record {
      client = c.a_client_opens_out_channels_in_order.ensures numbers.client moves.client
          made.client;
      outs = λ n.
          c.an_out_proxy_opens_to_the_server_first.ensures (numbers.outs n) (moves.outs n)
          (made.outs n) (made.outs_counted n) (made.outs_turn n);
      number = made.out_number;
    })
    (record {
      client = c.a_client_names_its_in_channels.ensures numbers.client moves.client made.client;
      ins = λ m. c.an_in_proxy_connects_as_it_was_asked.ensures (numbers.ins m) (moves.ins m);
    })
    (record {
      refuses = c.what_a_server_refuses.ensures numbers.window moves.server made.server;
      in_turn = c.a_server_replaces_out_channels_one_by_one.ensures.order numbers.window
          moves.server;
      on_legs = c.a_server_replaces_out_channels_one_by_one.ensures.legs numbers.window
          moves.server;
      asks = c.a_client_replaces_out_channels_one_by_one.ensures numbers.client moves.client
          made.client;
      round = c.replacements_go_round.ensures numbers reader moves made moment.now.joined;
      cookies = moment.now.cookies;
      late = c.no_client_is_opened_early.ensures.outs numbers reader moves moment;
    })
