use Rattle.law_order.proofs.Vocabulary.{ℕ, subst}
use Rattle.law_role_inproxy.proofs.Vocabulary.{PutsForWhatCame}
use Rattle.law_role_outproxy.proofs.Vocabulary.{ForwardsWhatCame, OpensWhatCame}
use Rattle.law_peers_moments.specs.Moments.{AreMade, Moves, Numbers, in_behind, out_behind}
use Rattle.law_peers_expects.proofs.InProxyExpects.Early.{Laws, no_early_in, no_early_out}
use Rattle.law_peers_expects.proofs.in_proxy_expects.opening.no_client_is_opened_early.Goals as goal

pub returns : goal.returns
returns c = record {
  ins = λ numbers. no_early_in numbers (laws numbers);
  outs = λ numbers. no_early_out numbers (laws numbers);
}
  where
    laws : (numbers : Numbers) (moves : Moves) → AreMade numbers moves → Laws numbers moves
    laws numbers moves made = record {
      names_ins = c.a_client_names_its_in_channels.ensures numbers.client moves.client made.client;
      names_outs = c.a_client_names_its_out_channels.ensures numbers.client moves.client
          made.client;
      opens_once = c.a_server_opens_once.ensures numbers.window moves.server;
      puts = λ m.
          subst (λ (k : ℕ). PutsForWhatCame k (in_behind numbers moves m)) (made.in_number m)
          (c.an_in_proxy_puts_for_what_came.ensures (numbers.ins m) (moves.ins m));
      forwards = λ n.
          subst (λ (k : ℕ). ForwardsWhatCame k (out_behind numbers moves n)) (made.out_number n)
          (c.an_out_proxy_forwards_what_came.ensures (numbers.outs n) (moves.outs n));
      opens = λ n.
          subst (λ (k : ℕ). OpensWhatCame k (out_behind numbers moves n)) (made.out_number n)
          (c.an_out_proxy_opens_what_came.ensures (numbers.outs n) (moves.outs n) (made.outs n));
    }
