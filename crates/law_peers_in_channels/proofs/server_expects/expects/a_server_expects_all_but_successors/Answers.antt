use Rattle.law_order.proofs.Vocabulary.{ℕ, subst}
use Rattle.law_role_inproxy.proofs.Vocabulary.{PutsForWhatCame}
use Rattle.law_role_outproxy.proofs.Vocabulary.{ForwardsWhatCame}
use Rattle.law_peers_moments.specs.Moments.{AreMade, Moves, Numbers, in_behind, out_behind}
use Rattle.law_peers_in_channels.proofs.ServerExpects.Confirmed.{Confirming}
use Rattle.law_peers_in_channels.proofs.ServerExpects.Connections.{Connecting}
use Rattle.law_peers_in_channels.proofs.ServerExpects.InAhead.{ExpectingIns, expects_pdus, expects_those}
use Rattle.law_peers_in_channels.proofs.ServerExpects.Moment.{OpensOuts}
use Rattle.law_peers_in_channels.proofs.server_expects.expects.a_server_expects_all_but_successors.Goals as goal

pub returns : goal.returns
returns c = record {
  packets = λ numbers reader moves moment.
      let made = moment.now.made in
      expects_those numbers reader moves moment (opens numbers moves made)
      (connecting numbers moves made) (confirming numbers) (expecting numbers moves made);
  pdus = λ numbers reader moves moment.
      let made = moment.now.made in
      expects_pdus numbers reader moves moment (opens numbers moves made)
      (connecting numbers moves made) (confirming numbers) (expecting numbers moves made);
}
  where
    opens : (numbers : Numbers) (moves : Moves) → AreMade numbers moves → OpensOuts numbers moves
    opens numbers moves made = record {
      client = c.a_client_opens_out_channels_in_order.ensures numbers.client moves.client
          made.client;
      outs = λ n.
          c.an_out_proxy_opens_to_the_server_first.ensures (numbers.outs n) (moves.outs n)
          (made.outs n) (made.outs_counted n) (made.outs_turn n);
      number = made.out_number;
    }

    connecting : (numbers : Numbers) (moves : Moves) → AreMade numbers moves
        → Connecting numbers moves
    connecting numbers moves made = record {
      client = c.a_client_names_its_in_channels.ensures numbers.client moves.client made.client;
      ins = λ m. c.an_in_proxy_connects_as_it_was_asked.ensures (numbers.ins m) (moves.ins m);
    }

    confirming : (numbers : Numbers) → Confirming numbers
    confirming numbers = record {
      paid = λ these are m.
          subst (λ k. PutsForWhatCame k (in_behind numbers these m)) (are.in_number m)
          (c.an_in_proxy_puts_for_what_came.ensures (numbers.ins m) (these.ins m));
      switches = λ these are.
          c.a_client_switches_in_order.ensures numbers.client these.client are.client;
      turns = c.a_server_replaces_out_channels_one_by_one.ensures.order numbers.window;
      round = c.replacements_go_round.ensures numbers;
    }

    expecting : (numbers : Numbers) (moves : Moves) → AreMade numbers moves
        → ExpectingIns numbers moves
    expecting numbers moves made = record {
      refuses = c.what_a_server_refuses.ensures numbers.window moves.server made.server;
      refuses_in = c.what_a_server_refuses_of_in_channels.ensures.refuses numbers.window
          moves.server made.server;
      puts = λ m.
          c.an_in_proxy_in_turn_puts_in_order.ensures (numbers.ins m) (moves.ins m) (made.ins m)
          (made.ins_turn m);
      sends = λ m.
          c.an_in_proxy_sends_where_it_was_told.ensures (numbers.ins m) (moves.ins m)
          (made.ins m);
      ends = λ m. c.an_in_proxy_ends_last.ensures (numbers.ins m) (moves.ins m) (made.ins m);
      number = made.in_number;
      opens = record {
        client = c.a_client_opens_once.ensures numbers.client moves.client made.client;
        server = c.a_server_opens_once.ensures numbers.window moves.server;
        outs = λ n.
            subst (λ (k : ℕ). ForwardsWhatCame k (out_behind numbers moves n))
            (made.out_number n)
            (c.an_out_proxy_forwards_what_came.ensures (numbers.outs n) (moves.outs n));
      };
    }
