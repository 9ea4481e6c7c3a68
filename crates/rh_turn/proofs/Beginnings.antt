-- Beginnings of one history.
use Rattle.std.proofs.Common.{◌≡◌, ◌≤◌, true, false, List, [], ◌∷◌, ◌++◌, length, refl, sym, ap, ◌∙◌, arith, append_assoc, length-append}
use Rattle.std.specs.Prelude.{nat_lt, if◌then◌else◌}
use Rattle.std.proofs.lemmas.Bool.Decides.{nat_tests}
use Rattle.std.proofs.lemmas.List.{append-nil, nil_from_length}
use mathlib.Core.List.{IsPrefix}
use Rattle.rh_turn.specs.History.{longer}

module _ {A : Type 0} where
  -- each list begins with itself
  pub begins_itself : (xs : List A) → IsPrefix xs xs
  begins_itself xs = ([], append-nil xs)

  pub begins_further : (xs ys zs : List A) → IsPrefix xs ys → IsPrefix ys zs → IsPrefix xs zs
  begins_further xs ys zs p q =
      (p.0 ++ q.0, sym (append_assoc xs p.0 q.0) ∙ (ap (λ w. w ++ q.0) p.1 ∙ q.1))

  pub begins_shorter : (xs ys : List A) → IsPrefix xs ys → length xs ≤ length ys
  begins_shorter xs ys p = omega (arith, sym (ap length p.1) ∙ length-append xs p.0)

  -- a beginning as long as the whole is the whole
  pub begins_whole : (xs ys : List A) → IsPrefix xs ys → length ys ≤ length xs → xs ≡ ys
  begins_whole xs ys p long =
      let sum = sym (ap length p.1) ∙ length-append xs p.0 in
      let none_left : p.0 ≡ [] = nil_from_length p.0 (omega arith) in
      sym (append-nil xs) ∙ (ap (λ more. xs ++ more) (sym none_left) ∙ p.1)

  -- of two beginnings of one list the shorter begins the longer
  begins_other : (xs ys zs : List A) → IsPrefix xs zs → IsPrefix ys zs → length xs ≤ length ys
      → IsPrefix xs ys
  begins_other [] ys zs p q le = (ys, refl)
  begins_other (x ∷ xs) [] zs p q le = absurd (omega arith)
  begins_other (x ∷ xs) (y ∷ ys) [] p q le = absurd (cc (p.1))
  begins_other (x ∷ xs) (y ∷ ys) (z ∷ zs) p q le =
      let heads : x ≡ y = cc (p.1, q.1) in
      let rest = begins_other xs ys zs (p.0, cc (p.1)) (q.0, cc (q.1)) (omega arith) in
      (rest.0, cc (heads, rest.1))

  -- the longer of two beginnings of one list is one, and both begin it
  pub longer_begins : (xs ys zs : List A) → IsPrefix xs zs → IsPrefix ys zs
      → IsPrefix (longer xs ys) zs × IsPrefix xs (longer xs ys) × IsPrefix ys (longer xs ys)
  longer_begins xs ys zs p q =
      elim (nat_lt (length xs) (length ys)) as (λ b. nat_lt (length xs) (length ys) ≡ b
      → let long = if b then ys else xs in
      IsPrefix long zs × IsPrefix xs long × IsPrefix ys long) [
        | true ↦ λ t. (q, begins_other xs ys zs p q (grind (arith, nat_tests)), begins_itself ys)
        | false ↦ λ t. (p, begins_itself xs, begins_other ys xs zs q p (grind (arith, nat_tests)))
      ] refl
