use Rattle.law_order.proofs.Vocabulary.{ℕ, subst}
use Rattle.law_role_inproxy.proofs.Vocabulary.{PutsForWhatCame}
use Rattle.law_role_outproxy.proofs.Vocabulary.{ForwardsWhatCame, OpensWhatCame}
use Rattle.law_peers_moments.proofs.GoingRound.Rounding.{AreCounted, go_round}
use Rattle.law_peers_moments.proofs.rounds.replacements_go_round.Goals as goal
use Rattle.law_peers_moments.specs.Moments.{AreMade, Moves, Numbers, in_behind, out_behind, passages}

pub returns : goal.returns
returns c numbers reader moves made joined =
    go_round reader (passages numbers moves) joined (counted numbers moves made)
  where
    counted : (numbers : Numbers) (moves : Moves) → AreMade numbers moves
        → AreCounted (passages numbers moves)
    counted numbers moves made = record {
      client_ins = c.a_client_replaces_in_channels_one_by_one.ensures numbers.client moves.client
          made.client;
      client_outs = c.a_client_replaces_out_channels_one_by_one.ensures numbers.client
          moves.client made.client;
      client_asks = c.a_client_asks_where_a_successor_is_wanted.ensures numbers.client
          moves.client made.client;
      server_ins = c.a_server_answers_each_in_channel_once.ensures.answers numbers.window
          moves.server;
      server_outs = c.a_server_replaces_out_channels_one_by_one.ensures.order numbers.window
          moves.server;
      ins = λ m.
          subst (λ (k : ℕ). PutsForWhatCame k (in_behind numbers moves m)) (made.in_number m)
          (c.an_in_proxy_puts_for_what_came.ensures (numbers.ins m) (moves.ins m));
      outs = λ n.
          subst (λ (k : ℕ). ForwardsWhatCame k (out_behind numbers moves n)) (made.out_number n)
          (c.an_out_proxy_forwards_what_came.ensures (numbers.outs n) (moves.outs n));
      opens = λ n.
          subst (λ (k : ℕ). OpensWhatCame k (out_behind numbers moves n)) (made.out_number n)
          (c.an_out_proxy_opens_what_came.ensures (numbers.outs n) (moves.outs n)
          (made.outs n));
    }
