use Rattle.law_order.proofs.Vocabulary.{◌≡◌, ◌⊎◌, ℕ, suc, List, Some, inl, inr, refl, sym, ◌∙◌, subst}
use Rattle.rh_line.specs.declared.leg.LegKind.{LegKind}
use Rattle.rh_audit.specs.declared.packet.Met.{Met}
use Rattle.rh_audit.specs.Streams.{first_among}
use Rattle.law_moves.proofs.Vocabulary.{Cookie, ClientOut, OutServer, ClientIn, InServer}
use Rattle.law_role_outproxy.proofs.Vocabulary.{ForwardsWhatCame}
use Rattle.law_audit.specs.Chains.Successors.{AreSuccessors}
use Rattle.law_peers_moments.specs.Moments.{IsMoment, Moves, Numbers, out_behind}
use Rattle.law_peers_chains.specs.Shown.{AreShown}
use Rattle.law_peers_chains.specs.Turns.{BeginInTurn, HasBefore, HaveOwn, leg_for}
use Rattle.law_peers_chains.proofs.InLegs.{client_in, in_server}
use Rattle.law_peers_chains.proofs.Known.{Knows}
use Rattle.law_peers_chains.proofs.Numbered.{AreFollowing, IsBehind}
use Rattle.law_peers_chains.proofs.OutLegs.{client_out, out_server}
use Rattle.law_peers_chains.proofs.succession.each_leg_replaces_the_one_before_it.Goals as goal

-- what is said of the legs of a kind
record AreInOrder (kind : LegKind) (reader : ℕ → ℕ) (mets : ℕ → List Met) : Type 0 where
  successors : AreSuccessors mets
  turns : BeginInTurn kind reader mets
  own : HaveOwn kind reader mets

in_order : (kind : LegKind) (reader : ℕ → ℕ) (Comes : ℕ → Cookie → Type 0) (own : ℕ → ℕ)
    (mets : ℕ → List Met) (last : ℕ → ℕ) → ((n : ℕ) → own n ≡ leg_for kind reader n)
    → AreFollowing Comes own mets last → AreInOrder kind reader mets
in_order kind reader Comes own mets last same following = record {
  successors = following.successors;
  turns = λ n begun met. by n (following.turns n begun met);
  own = λ n begun met. sym (same n) ∙ following.own n begun met;
}
  where
    by : (n : ℕ) → (n ≡ 1) ⊎ ((cookie : Cookie) × IsBehind Comes own mets last n cookie)
        → (n ≡ 1) ⊎ HasBefore kind reader mets n
    by n (inl one) = inl one
    by n (inr (cookie, behind)) = inr (record {
      below = behind.below;
      number = behind.number;
      begun = behind.begun;
      met = subst (λ (k : ℕ). first_among (mets k) ≡ Some behind.begun)
          (same (suc behind.below)) behind.met;
    })

each_kind : (numbers : Numbers) (reader : ℕ → ℕ) (moves : Moves)
    → (moment : IsMoment numbers reader moves) → Knows numbers reader moves → (kind : LegKind)
    (mets : ℕ → List Met) → AreShown numbers reader moves kind mets
    → AreInOrder kind reader mets
each_kind numbers reader moves moment know ClientIn mets shown =
    in_order ClientIn reader _ (λ k. k) mets (λ k. k) (λ n. refl)
    (client_in numbers reader moves moment know mets shown)
each_kind numbers reader moves moment know InServer mets shown =
    in_order InServer reader _ reader mets _ (λ n. refl)
    (in_server numbers reader moves moment know mets shown)
each_kind numbers reader moves moment know ClientOut mets shown =
    in_order ClientOut reader _ (λ k. k) mets (λ k. k) (λ n. refl)
    (client_out numbers reader moves moment know mets shown)
each_kind numbers reader moves moment know OutServer mets shown =
    in_order OutServer reader _ (λ k. k) mets (λ k. k) (λ n. refl)
    (out_server numbers reader moves moment know mets shown)

pub returns : goal.returns
returns c = record {
  successors = λ numbers reader moves moment kind mets shown.
      (each_kind numbers reader moves moment (know numbers reader moves moment) kind mets
      shown).successors;
  turns = λ numbers reader moves moment kind mets shown.
      (each_kind numbers reader moves moment (know numbers reader moves moment) kind mets
      shown).turns;
  own = λ numbers reader moves moment kind mets shown.
      (each_kind numbers reader moves moment (know numbers reader moves moment) kind mets
      shown).own;
}
  where
    know : (numbers : Numbers) (reader : ℕ → ℕ) (moves : Moves)
        → IsMoment numbers reader moves → Knows numbers reader moves
    know numbers reader moves moment =
        let made = moment.now.made in
        record {
          in_channels = c.a_client_opens_in_channels_in_order.ensures numbers.client moves.client
              made.client;
          out_channels = c.a_client_opens_out_channels_in_order.ensures numbers.client moves.client
              made.client;
          late_in = c.no_client_is_opened_early.ensures.ins numbers reader moves moment;
          late_out = c.no_client_is_opened_early.ensures.outs numbers reader moves moment;
          replaces_ins = c.a_client_replaces_in_channels_one_by_one.ensures numbers.client
              moves.client made.client;
          replaces_outs = c.a_client_replaces_out_channels_one_by_one.ensures numbers.client
              moves.client made.client;
          names = c.a_client_names_its_in_channels.ensures numbers.client moves.client made.client;
          in_order = λ m.
              c.an_in_proxy_in_turn_puts_in_order.ensures (numbers.ins m) (moves.ins m) (made.ins m)
              (made.ins_turn m);
          outs = λ n.
              c.an_out_proxy_opens_to_the_server_first.ensures (numbers.outs n) (moves.outs n)
              (made.outs n) (made.outs_counted n) (made.outs_turn n);
          announced = c.in_channels_are_announced_in_order.ensures.order numbers reader moves moment;
          put_in_turn = c.a_server_replaces_out_channels_one_by_one.ensures.legs numbers.window
              moves.server;
          opens = record {
            client = c.a_client_opens_once.ensures numbers.client moves.client made.client;
            server = c.a_server_opens_once.ensures numbers.window moves.server;
            outs = λ n.
                subst (λ (k : ℕ). ForwardsWhatCame k (out_behind numbers moves n)) (made.out_number n)
                (c.an_out_proxy_forwards_what_came.ensures (numbers.outs n) (moves.outs n));
          };
          round = c.replacements_go_round.ensures numbers reader moves made moment.now.joined;
        }
