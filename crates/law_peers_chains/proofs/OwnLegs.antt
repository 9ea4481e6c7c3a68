-- legs that have a channel each: of the client, and of out proxies to the server
use Rattle.law_order.proofs.Vocabulary.{◌≡◌, ℕ, suc, ◌≤◌, List, Some, None, inl, inr, refl, sym, ◌∙◌, subst, arith}
use Rattle.rh_audit.specs.declared.packet.First.{First}
use Rattle.rh_audit.specs.declared.packet.Met.{Met}
use Rattle.rh_audit.specs.Streams.{first_among}
use Rattle.law_moves.proofs.Vocabulary.{Cookie, Message, HasOne}
use Rattle.law_peers_chains.specs.Shown.{IsShown}
use Rattle.law_peers_chains.proofs.Channels.{IsOne}
use Rattle.law_peers_chains.proofs.Fronts.{Begins, IsAny, IsInR2A2, Starts, begins_put, came_met, newest_own}
use Rattle.law_peers_chains.proofs.Numbered.{AreRead, IsBehind, Tells}

module _ (Comes : ℕ → Cookie → Type 0) (put came : ℕ → List Message) (mets : ℕ → List Met)
    (shown : (n : ℕ) → IsShown (put n) (came n) (mets n)) (starts : (n : ℕ) → Starts (put n))
    (is : (n : ℕ) (begun : First) → HasOne (Begins begun) (put n) → IsOne Comes n begun)
    (none : (n : ℕ) → HasOne IsInR2A2 (put n) → ⊥)
    (before : (below : ℕ) (begun : First) → HasOne (Begins begun) (put (suc (suc below)))
    → HasOne IsAny (came (suc below))) where
  own_is : (n : ℕ) (begun : First) → IsOne Comes n begun → Comes n begun.own × (1 ≤ n)
  own_is n begun (inl new) = let number = new.number in (new.own, omega (arith, number))
  own_is n begun (inr next) = let number = next.number in (next.own, omega (arith, number))

  tells : (n : ℕ) (begun : First) → first_among (mets n) ≡ Some begun
      → Tells Comes (λ k. k) mets (λ k. k) n begun
  tells n begun met =
      let own = own_is n begun (is n begun (begins_put (put n) (came n) (mets n) (shown n) begun met))
      in record {
        names = subst (Comes n)
            (sym (newest_own (put n) (came n) (mets n) (shown n) begun (none n))) own.0;
        reads = refl;
        own = refl;
        positive = own.1;
      }

  first_is : (n : ℕ) (begun : First) → begun.predecessor ≡ None → IsOne Comes n begun → n ≡ 1
  first_is n begun no' (inl new) = new.number
  first_is n begun no' (inr next) = absurd (let both = sym no' ∙ next.some in cc)

  behind : (n : ℕ) (begun : First) (cookie : Cookie) → first_among (mets n) ≡ Some begun
      → begun.predecessor ≡ Some cookie → IsBehind Comes (λ k. k) mets (λ k. k) n cookie
  behind n begun cookie met some = by (is n begun has)
    where
      has : HasOne (Begins begun) (put n)
      has = begins_put (put n) (came n) (mets n) (shown n) begun met

      same : (a b : Cookie) → Some a ≡ Some b → a ≡ b
      same a b e = cc

      by : IsOne Comes n begun → IsBehind Comes (λ k. k) mets (λ k. k) n cookie
      by (inl new) = absurd (let both = sym new.none ∙ some in cc)
      by (inr next) =
          let one = suc next.below in
          let seen = came_met (put one) (came one) (mets one) (shown one) (starts one) IsAny
          (before next.below begun
          (subst (λ (k : ℕ). HasOne (Begins begun) (put k)) next.number has)) in
          record {
            below = next.below;
            number = next.number;
            names = subst (Comes (suc next.below)) (same next.before cookie (sym next.some ∙ some))
                next.follows;
            begun = seen.0;
            met = seen.1;
            least = omega arith;
          }

  pub read : AreRead Comes (λ k. k) mets (λ k. k)
  read = record {
    tells = tells;
    first = λ n begun met no'.
        first_is n begun no'
        (is n begun (begins_put (put n) (came n) (mets n) (shown n) begun met));
    behind = behind;
  }
