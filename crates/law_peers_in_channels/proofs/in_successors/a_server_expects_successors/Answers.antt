use Rattle.law_order.proofs.Vocabulary.{ℕ, subst}
use Rattle.law_moves.proofs.Vocabulary.{end_started}
use Rattle.law_role_client.proofs.Vocabulary.{acts as client_acts, rules as client_rules, ci, first as first_client}
use Rattle.law_role_server.proofs.Vocabulary.{acts as server_acts, first as first_server, rules as server_rules, Server}
use Rattle.law_node_causes.proofs.ClientLegs.{first_is as first_numbered}
use Rattle.law_node_causes.specs.Numbers.{ClientIsNumbered}
use Rattle.law_role_outproxy.proofs.Vocabulary.{ForwardsWhatCame}
use Rattle.law_peers_moments.specs.Moments.{out_behind}
use Rattle.law_peers_in_channels.proofs.InSuccessors.Expects.{expects}
use Rattle.law_peers_in_channels.proofs.InSuccessors.Ups.{held, up_once, was_up}
use Rattle.law_peers_in_channels.proofs.in_successors.a_server_expects_successors.Goals as goal

pub returns : goal.returns
returns c numbers reader moves moment connected =
    let made = moment.now.made in
    expects numbers reader moves moment
    (record {
      announced = c.in_channels_are_announced_in_order.ensures.order numbers reader moves moment;
      next = c.in_channels_are_announced_in_order.ensures.next numbers reader moves moment;
      refuses = c.what_a_server_refuses.ensures numbers.window moves.server made.server;
      refuses_in = c.what_a_server_refuses_of_in_channels.ensures.refuses numbers.window
          moves.server made.server;
      given = c.what_a_server_refuses_of_in_channels.ensures.numbers numbers.window moves.server;
      kept = c.what_a_server_refuses_of_in_channels.ensures.legs numbers.window moves.server;
      up_once = λ n.
          up_once server_rules server_acts (λ (s : Server). Unit {0})
          c.a_servers_leg_comes_up_once.ensures.moves c.a_servers_leg_comes_up_once.ensures.calls n
          (end_started (first_server numbers.window)) moves.server tt made.server;
      answered = c.a_server_answers_each_in_channel_once.ensures.answers numbers.window
          moves.server;
      connected = connected;
      in_order = λ m.
          c.an_in_proxy_in_turn_puts_in_order.ensures (numbers.ins m) (moves.ins m) (made.ins m)
          (made.ins_turn m);
      outs = λ n.
          c.an_out_proxy_opens_to_the_server_first.ensures (numbers.outs n) (moves.outs n)
          (made.outs n) (made.outs_counted n) (made.outs_turn n);
      channels_begin = c.a_client_opens_in_channels_in_order.ensures numbers.client moves.client
          made.client;
      late = c.no_client_is_opened_early.ensures.ins numbers reader moves moment;
      names = (c.a_client_names_its_out_channels.ensures numbers.client moves.client
          made.client).names;
      replaces = c.a_client_replaces_in_channels_one_by_one.ensures numbers.client moves.client
          made.client;
      numbered = held client_rules client_acts ClientIsNumbered
          c.a_clients_leg_comes_up_once.ensures.calls (end_started (first_client numbers.client))
          moves.client (first_numbered numbers.client) made.client;
      was_up = λ n cookie.
          was_up client_rules client_acts ClientIsNumbered
          c.a_clients_leg_comes_up_once.ensures.moves c.a_clients_leg_comes_up_once.ensures.calls
          (ci n) cookie (end_started (first_client numbers.client)) moves.client
          (first_numbered numbers.client) made.client;
      opens = record {
        client = c.a_client_opens_once.ensures numbers.client moves.client made.client;
        server = c.a_server_opens_once.ensures numbers.window moves.server;
        outs = λ n.
            subst (λ (k : ℕ). ForwardsWhatCame k (out_behind numbers moves n)) (made.out_number n)
            (c.an_out_proxy_forwards_what_came.ensures (numbers.outs n) (moves.outs n));
      };
      round = (c.replacements_go_round.ensures numbers reader moves made moment.now.joined).ins;
    })
