-- the first silent leg
use Rattle.law_order.proofs.Vocabulary.{◌≡◌, ℕ, zero, suc, ◌-◌, List, [], ◌∷◌, cond, Bool, true, false, Some, None, refl, sym, subst, not, slice_get, Option, leb-true, le-leb}
use Rattle.law_moves.proofs.Vocabulary.{Leg, NearEnd, is_finished, Rules, is_before, is_silent_by, is_silent, earlier, silent_one, first_silent}
use Rattle.law_moves.proofs.Lemmas.{both}
use Rattle.law_node_causes.proofs.Sorts.{not_so, before_trans, before_self}
use Rattle.law_node_causes.specs.Reasons.{WasSilent, StandsIn, IsFirstSilent}

module _ {S : Type 0} (rules : Rules S) (role : S) (now : ℕ) where
  -- ---- the test is what it says

  silent_so : (end : NearEnd) → is_silent rules role now end ≡ true → WasSilent rules role now end
  silent_so end h =
      let parts = both (not (is_finished rules role end))
      (is_silent_by (rules.silence role end.leg) end.since now) h in
      by (rules.silence role end.leg) refl parts.1
    where
      unfinished : is_finished rules role end ≡ false
      unfinished = not_so (is_finished rules role end)
          (both (not (is_finished rules role end))
          (is_silent_by (rules.silence role end.leg) end.since now) h).0

      by : (o : Option ℕ) → rules.silence role end.leg ≡ o → is_silent_by o end.since now ≡ true
          → WasSilent rules role now end
      by None e t = absurd cc
      by (Some limit) e t = record {
        unfinished = unfinished;
        limit = limit;
        watched = e;
        long = leb-true limit (now - end.since) t;
      }

  so_silent : (end : NearEnd) → WasSilent rules role now end → is_silent rules role now end ≡ true
  so_silent end h = rw (h.unfinished, h.watched) (le-leb h.limit (now - end.since) h.long)

  -- ---- the one that is found is one of them

  record IsBest (P : NearEnd → Type 0) (one : Leg × ℕ) : Type 0 where
    end : NearEnd
    there : P end
    silent : WasSilent rules role now end
    leg : end.leg ≡ one.0
    since : end.since ≡ one.1

  abbrev AreBest : (NearEnd → Type 0) → Option (Leg × ℕ) → Type 0
  AreBest P None = Unit {0}
  AreBest P (Some one) = IsBest P one

  module _ (P : NearEnd → Type 0) where
    itself : (end : NearEnd) → P end → is_silent rules role now end ≡ true
        → IsBest P (end.leg, end.since)
    itself end there e = record {
      end = end;
      there = there;
      silent = silent_so end e;
      leg = refl;
      since = refl;
    }

    earlier_best : (end : NearEnd) (first : Option (Leg × ℕ)) → P end
        → is_silent rules role now end ≡ true → AreBest P first
        → AreBest P (earlier first (end.leg, end.since))
    earlier_best end None there e best = itself end there e
    earlier_best end (Some other) there e best = by (is_before end.leg other.0)
      where
        by : (t : Bool) → AreBest P (Some (cond t (end.leg, end.since) other))
        by true = itself end there e
        by false = best

    one_best : (end : NearEnd) (first : Option (Leg × ℕ)) → P end → AreBest P first
        → AreBest P (silent_one rules role now end first)
    one_best end first there best = by (is_silent rules role now end) refl
      where
        by : (t : Bool) → is_silent rules role now end ≡ t
            → AreBest P (cond t (earlier first (end.leg, end.since)) first)
        by true e = earlier_best end first there e best
        by false e = best

    all_best : (ends : List NearEnd) (first : Option (Leg × ℕ))
        → ((i : ℕ) (end : NearEnd) → slice_get ends i ≡ Some end → P end) → AreBest P first
        → AreBest P (first_silent rules role now ends first)
    all_best [] first all best = best
    all_best (end ∷ ends) first all best =
        all_best ends (silent_one rules role now end first) (λ i other at. all (suc i) other at)
        (one_best end first (all 0 end refl) best)

  -- ---- and none of them is before it

  abbrev NotBefore : Leg → Option (Leg × ℕ) → Type 0
  NotBefore leg None = ⊥
  NotBefore leg (Some one) = is_before leg one.0 ≡ false

  -- what is not before one is not before what is before that
  not_before : (leg new other : Leg) → is_before new other ≡ true → is_before leg other ≡ false
      → is_before leg new ≡ false
  not_before leg new other e h = by (is_before leg new) refl
    where
      by : (t : Bool) → is_before leg new ≡ t → t ≡ false
      by true b = let more = before_trans leg new other b e in absurd cc
      by false b = refl

  one_kept : (end : NearEnd) (leg : Leg) (first : Option (Leg × ℕ)) → NotBefore leg first
      → NotBefore leg (silent_one rules role now end first)
  one_kept end leg None h = absurd h
  one_kept end leg (Some other) h = by (is_silent rules role now end)
    where
      which : (t : Bool) → is_before end.leg other.0 ≡ t
          → NotBefore leg (Some (cond t (end.leg, end.since) other))
      which true e = not_before leg end.leg other.0 e h
      which false e = h

      by : (t : Bool)
          → NotBefore leg (cond t (earlier (Some other) (end.leg, end.since)) (Some other))
      by true = which (is_before end.leg other.0) refl
      by false = h

  kept : (ends : List NearEnd) (leg : Leg) (first : Option (Leg × ℕ)) → NotBefore leg first
      → NotBefore leg (first_silent rules role now ends first)
  kept [] leg first h = h
  kept (end ∷ ends) leg first h =
      kept ends leg (silent_one rules role now end first) (one_kept end leg first h)

  here : (end : NearEnd) (first : Option (Leg × ℕ)) → is_silent rules role now end ≡ true
      → NotBefore end.leg (silent_one rules role now end first)
  here end first e = rw e (by first)
    where
      which : (other : Leg × ℕ) (t : Bool) → is_before end.leg other.0 ≡ t
          → NotBefore end.leg (Some (cond t (end.leg, end.since) other))
      which other true b = before_self end.leg
      which other false b = b

      by : (o : Option (Leg × ℕ)) → NotBefore end.leg (earlier o (end.leg, end.since))
      by None = before_self end.leg
      by (Some other) = which other (is_before end.leg other.0) refl

  least : (ends : List NearEnd) (first : Option (Leg × ℕ)) (i : ℕ) (end : NearEnd)
      → slice_get ends i ≡ Some end → is_silent rules role now end ≡ true
      → NotBefore end.leg (first_silent rules role now ends first)
  least [] first i end at e = absurd cc
  least (x ∷ xs) first zero end at e =
      let same : x ≡ end = cc in
      kept xs end.leg (silent_one rules role now x first)
      (subst (λ (y : NearEnd). NotBefore end.leg (silent_one rules role now y first)) (sym same)
      (here end first e))
  least (x ∷ xs) first (suc i) end at e =
      least xs (silent_one rules role now x first) i end at e

  -- ---- so it is the first

  -- the end of the leg and the moment that were found
  pub record IsFound (legs : List NearEnd) (one : Leg × ℕ) : Type 0 where
    pub end : NearEnd
    pub first : IsFirstSilent rules role now legs end
    pub leg : end.leg ≡ one.0
    pub since : end.since ≡ one.1

  pub silent_first : (legs : List NearEnd) (one : Leg × ℕ)
      → first_silent rules role now legs None ≡ Some one → IsFound legs one
  silent_first legs one is =
      let best : IsBest (StandsIn legs) one =
      subst (AreBest (StandsIn legs)) is
      (all_best (StandsIn legs) legs None (λ i end at. record { place = i; at = at }) tt) in
      record {
        end = best.end;
        first = record {
          there = best.there;
          silent = best.silent;
          first = λ other there silent.
              subst (λ (l : Leg). is_before other.leg l ≡ false) (sym best.leg)
              (subst (NotBefore other.leg) is
              (least legs None there.place other there.at (so_silent other silent)));
        };
        leg = best.leg;
        since = best.since;
      }
