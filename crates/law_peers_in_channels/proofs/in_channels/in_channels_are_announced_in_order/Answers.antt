use Rattle.law_order.proofs.Vocabulary.{ℕ, subst}
use Rattle.law_role_outproxy.proofs.Vocabulary.{ForwardsWhatCame}
use Rattle.law_peers_moments.specs.Moments.{IsJoined, Moves, Numbers, out_behind}
use Rattle.law_peers_in_channels.proofs.InChannels.InOrder.{announce_next, announced_front, are_announced}
use Rattle.law_peers_in_channels.proofs.InChannels.Told.{Laws}
use Rattle.law_peers_in_channels.proofs.in_channels.in_channels_are_announced_in_order.Goals as goal

pub returns : goal.returns
returns c = record {
  order = λ numbers. are_announced numbers (laws numbers);
  next = λ numbers. announce_next numbers (laws numbers);
  fronts = λ numbers. announced_front numbers (laws numbers);
}
  where
    laws : (numbers : Numbers) (reader : ℕ → ℕ) (moves : Moves) → IsJoined numbers reader moves
        → Laws numbers moves
    laws numbers reader moves joined =
        let made = joined.made in
        record {
          names = c.a_client_names_its_in_channels.ensures numbers.client moves.client made.client;
          asks = c.a_client_replaces_in_channels_one_by_one.ensures numbers.client moves.client
              made.client;
          client_opens = c.a_client_opens_once.ensures numbers.client moves.client made.client;
          server_opens = c.a_server_opens_once.ensures numbers.window moves.server;
          forwards = λ n.
              subst (λ (k : ℕ). ForwardsWhatCame k (out_behind numbers moves n))
              (made.out_number n)
              (c.an_out_proxy_forwards_what_came.ensures (numbers.outs n) (moves.outs n));
          puts = λ m.
              c.an_in_proxy_in_turn_puts_in_order.ensures (numbers.ins m) (moves.ins m)
              (made.ins m) (made.ins_turn m);
          number = made.in_number;
          round = c.replacements_go_round.ensures numbers reader moves made joined.joined;
        }
