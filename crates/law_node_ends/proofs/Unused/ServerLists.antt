-- which legs of a server are done, by the lists of those that it keeps
use Rattle.law_order.proofs.Vocabulary.{◌≡◌, ℕ, ◌==◌, ◌&&◌, ◌||◌, cond, List, [], ◌∷◌, Bool, true, false, not, Some, refl, sym, ap, ◌∙◌, subst, find, list_any}
use Rattle.law_moves.proofs.Vocabulary.{same_number}
use Rattle.law_role_server.proofs.Vocabulary.{InLeg, OutLeg, has_left, is_lost, in_leg, out_place, is_some, in_is_done}
use Rattle.law_role_server.proofs.InSpots.{in_found}
use Rattle.law_node_ends.proofs.Unused.Places.{none_weaker, has_place, has, AreDistinct}

abbrev pub in_number : InLeg → ℕ
in_number leg = leg.number

abbrev pub out_number : OutLeg → ℕ
out_number leg = leg.number

abbrev pub is_gone : InLeg → Bool
is_gone leg = has_left leg.leaving || is_lost leg.leaving

-- a leg of that number that is not gone
abbrev pub is_used : ℕ → InLeg → Bool
is_used n leg = (leg.number == n) && not (is_gone leg)

-- ---- is legs that are done

not_used : (n : ℕ) (leg : InLeg) → (leg.number == n) ≡ false → is_used n leg ≡ false
not_used n leg e = rw e refl

done_unused : (n : ℕ) (legs : List InLeg) → AreDistinct in_number legs
    → in_is_done (find (has in_number n) legs) ≡ true → list_any (is_used n) legs ≡ false
done_unused n [] d h = refl
done_unused n (leg ∷ legs) d h =
    by (leg.number == n) (is_gone leg) refl h (done_unused n legs d.1)
  where
    by : (same gone : Bool) → (leg.number == n) ≡ same
        → in_is_done (cond same (Some leg) (find (has in_number n) legs)) ≡ true
        → (in_is_done (find (has in_number n) legs) ≡ true → list_any (is_used n) legs ≡ false)
        → ((same && not (is_gone leg)) || list_any (is_used n) legs) ≡ false
    by true gone e h rest =
        rw h (none_weaker (is_used n) (has in_number n) (not_used n) legs
        (subst (λ k. list_any (has in_number k) legs ≡ false) (same_number leg.number n e) d.0))
    by false gone e h rest = rest h

unused_done : (n : ℕ) (legs : List InLeg) → list_any (is_used n) legs ≡ false
    → in_is_done (find (has in_number n) legs) ≡ true
unused_done n [] none = refl
unused_done n (leg ∷ legs) none =
    by (leg.number == n) (is_gone leg) refl none (unused_done n legs)
  where
    by : (same gone : Bool) → is_gone leg ≡ gone
        → ((same && not gone) || list_any (is_used n) legs) ≡ false
        → (list_any (is_used n) legs ≡ false → in_is_done (find (has in_number n) legs) ≡ true)
        → in_is_done (cond same (Some leg) (find (has in_number n) legs)) ≡ true
    by true true e h rest = e
    by true false e h rest = absurd cc
    by false gone e h rest = rest (falls gone h)
      where
        falls : (gone : Bool) → ((false && not gone) || list_any (is_used n) legs) ≡ false
            → list_any (is_used n) legs ≡ false
        falls gone h = h

pub in_unused : (n : ℕ) (legs : List InLeg) → AreDistinct in_number legs
    → in_is_done (in_leg n legs) ≡ true → list_any (is_used n) legs ≡ false
in_unused n legs d h =
    done_unused n legs d (sym (ap in_is_done (in_found (has in_number n) legs)) ∙ h)

pub in_done : (n : ℕ) (legs : List InLeg) → list_any (is_used n) legs ≡ false
    → in_is_done (in_leg n legs) ≡ true
in_done n legs none = ap in_is_done (in_found (has in_number n) legs) ∙ unused_done n legs none

-- ---- os legs that are done

pub out_absent : (n : ℕ) (legs : List OutLeg) → not (is_some (out_place n legs)) ≡ true
    → list_any (has out_number n) legs ≡ false
out_absent n legs h = by (list_any (has out_number n) legs)
    (sym (ap not (has_place (has out_number n) legs)) ∙ h)
  where
    by : (b : Bool) → not b ≡ true → b ≡ false
    by true h = absurd cc
    by false h = refl

pub out_done : (n : ℕ) (legs : List OutLeg) → list_any (has out_number n) legs ≡ false
    → not (is_some (out_place n legs)) ≡ true
out_done n legs none = ap not (has_place (has out_number n) legs ∙ none)
