-- how the legs that a server keeps may go on: their numbers stay distinct, none comes in use, and
-- there is no new one
use Rattle.law_order.proofs.Vocabulary.{◌≡◌, ℕ, ◌<◌, ◌≤◌, ◌==◌, ◌&&◌, List, Bool, true, false, not, Some, None, arith, refl, sym, ap, ◌∙◌, subst, slice_get, slice_set, list_any, Option, position-Some, slice_get-get_or, get_or}
use Rattle.law_moves.proofs.Vocabulary.{same_number}
use Rattle.law_role_server.proofs.Vocabulary.{InLeg, OutLeg, Server, in_at, in_place, set_at, out_at, goes}
use Rattle.law_node_ends.proofs.Unused.Places.{none_at, none_set, has, AreDistinct, distinct_set}
use Rattle.law_node_ends.proofs.Unused.ServerLists.{in_number, out_number, is_gone, is_used}

-- ---- what a server keeps of its legs

pub record Said : Type 0 where
  pub ins : List InLeg
  pub outs : List OutLeg
  pub newest : ℕ

abbrev pub said : Server → Said
said s = record { ins = s.ins; outs = s.outs; newest = s.newest_in }

abbrev pub Same : Server → Server → Type 0
Same s t = said t ≡ said s

abbrev pub has_in : ℕ → List InLeg → Bool
has_in n legs = list_any (has in_number n) legs

abbrev pub has_used : ℕ → List InLeg → Bool
has_used n legs = list_any (is_used n) legs

abbrev pub has_out : ℕ → List OutLeg → Bool
has_out n legs = list_any (has out_number n) legs

-- no leg comes in use, nor is there a new one
pub record Goes (x y : Said) : Type 0 where
  pub used : (n : ℕ) → has_used n x.ins ≡ false → has_used n y.ins ≡ false
  pub ins : (n : ℕ) → has_in n x.ins ≡ false → has_in n y.ins ≡ false
  pub outs : (n : ℕ) → has_out n x.outs ≡ false → has_out n y.outs ≡ false
  pub distinct : AreDistinct in_number x.ins → AreDistinct in_number y.ins
  pub newest : x.newest ≤ y.newest

abbrev pub GoesOn : Server → Server → Type 0
GoesOn s t = Goes (said s) (said t)

pub goes_self : (s : Server) → GoesOn s s
goes_self s = record {
  used = λ n h. h;
  ins = λ n h. h;
  outs = λ n h. h;
  distinct = λ d. d;
  newest = omega arith;
}

pub goes_same : (s t : Server) → Same s t → GoesOn s t
goes_same s t same = subst (Goes (said s)) (sym same) (goes_self s)

pub goes_then : (s t u : Server) → GoesOn s t → GoesOn t u → GoesOn s u
goes_then s t u p q = record {
  used = λ n h. q.used n (p.used n h);
  ins = λ n h. q.ins n (p.ins n h);
  outs = λ n h. q.outs n (p.outs n h);
  distinct = λ d. q.distinct (p.distinct d);
  newest = omega (arith, p.newest, q.newest);
}

-- its is legs have distinct numbers, none above the newest
pub record IsSound (s : Server) : Type 0 where
  pub distinct : AreDistinct in_number s.ins
  pub below : (n : ℕ) → s.newest_in < n → has_in n s.ins ≡ false

pub goes_sound : (s t : Server) → GoesOn s t → IsSound s → IsSound t
goes_sound s t goes sound = record {
  distinct = goes.distinct sound.distinct;
  below = λ n above. goes.ins n (sound.below n (omega (arith, goes.newest, above)));
}

-- ---- a leg has changed

-- it is one of those that are kept
abbrev pub IsAmong : {X : Type 0} → List X → X → Type 0
IsAmong {X} legs leg = (test : X → Bool) → list_any test legs ≡ false → test leg ≡ false

pub in_among : (legs : List InLeg) (place : Option ℕ) (leg : InLeg) → in_at legs place ≡ Some leg
    → IsAmong legs leg
in_among legs None leg e = absurd cc
in_among legs (Some place) leg e = λ test none. none_at test legs place leg e none

pub out_among : (legs : List OutLeg) (place : Option ℕ) (leg : OutLeg)
    → out_at legs place ≡ Some leg → IsAmong legs leg
out_among legs None leg e = absurd cc
out_among legs (Some place) leg e = λ test none. none_at test legs place leg e none

module _ (s : Server) (old leg : InLeg) (among : IsAmong s.ins old)
    (same : leg.number ≡ old.number) (gone : is_gone old ≡ true → is_gone leg ≡ true) where
  still_unused : (n : ℕ) → is_used n old ≡ false → is_used n leg ≡ false
  still_unused n h =
      ap (λ k. (k == n) && not (is_gone leg)) same
      ∙ by (old.number == n) (is_gone old) (is_gone leg) gone h
    where
      by : (at before behind : Bool) → (before ≡ true → behind ≡ true)
          → (at && not before) ≡ false → (at && not behind) ≡ false
      by true true behind gone h = rw (gone refl) refl
      by true false behind gone h = absurd cc
      by false before behind gone h = refl

  place_goes : (place : Option ℕ) → in_place leg.number s.ins ≡ place
      → Goes (said s) (record (said s) { ins = set_at s.ins leg place })
  place_goes None e = goes_self s
  place_goes (Some place) e =
      let found = position-Some (has in_number leg.number) s.ins place leg e in
      let there = get_or s.ins place leg in
      let is : slice_get s.ins place ≡ Some there =
      slice_get-get_or s.ins place leg found.0 in
      record {
        used = λ n h.
            none_set (is_used n) s.ins place leg (still_unused n (among (is_used n) h)) h;
        ins = λ n h.
            none_set (has in_number n) s.ins place leg
            (ap (λ k. k == n) same ∙ among (has in_number n) h) h;
        outs = λ n h. h;
        distinct = distinct_set in_number s.ins place there leg is
            (sym (same_number there.number leg.number found.1));
        newest = omega arith;
      }

  pub in_goes : Goes (said s)
      (record (said s) { ins = set_at s.ins leg (in_place leg.number s.ins) })
  in_goes = place_goes (in_place leg.number s.ins) refl

pub out_goes : (s : Server) (place : ℕ) (old leg : OutLeg) → IsAmong s.outs old
    → leg.number ≡ old.number
    → Goes (said s) (record (said s) { outs = slice_set s.outs place leg })
out_goes s place old leg among same = record {
  used = λ n h. h;
  ins = λ n h. h;
  outs = λ n h.
      none_set (has out_number n) s.outs place leg
      (ap (λ k. k == n) same ∙ among (has out_number n) h) h;
  distinct = λ d. d;
  newest = omega arith;
}
