-- Replies of a history, and how many places are all of one.
use Rattle.std.proofs.Common.{◌≡◌, ℕ, zero, suc, ◌+◌, ◌<◌, true, false, List, [], ◌∷◌, ◌++◌, length, Some, refl, ap, ◌∙◌, arith}
use Rattle.std.specs.Prelude.{◌==◌, nat_lt, if◌then◌else◌, slice_get}
use Rattle.std.proofs.lemmas.Bool.Decides.{nat_tests}
use Rattle.std.proofs.lemmas.List.Sums.{sum_by-cons}
use mathlib.Core.List.{IsPrefix}
use Rattle.rh_turn.specs.History.{state_after, replies, times, one_if, AreAll}

module _ {S E R : Type 0} (next : S → E → S) (reply : S → E → R) where
  -- the reply at the last place is that of the state before it
  pub reply_last : (first : S) (before : List E) (event : E)
      → slice_get (replies next reply first (before ++ event ∷ [])) (length before)
      ≡ Some (reply (state_after next first before) event)
  reply_last first [] event = refl
  reply_last first (e ∷ before) event = reply_last (next first e) before event

  -- what is replied at a place is replied there in each history that goes on from it
  pub reply_stays : (first : S) (seen all : List E) (place : ℕ) (answer : R) → IsPrefix seen all
      → slice_get (replies next reply first seen) place ≡ Some answer
      → slice_get (replies next reply first all) place ≡ Some answer
  reply_stays first [] all place answer p was = absurd (cc was)
  reply_stays first (e ∷ seen) [] place answer p was = absurd (cc (p.1))
  reply_stays first (e ∷ seen) (f ∷ all) zero answer p was =
      ap (λ x. Some (reply first x)) (cc (p.1)) ∙ was
  reply_stays first (e ∷ seen) (f ∷ all) (suc place) answer p was =
      let same : f ≡ e = cc (p.1) in
      ap (λ x. slice_get (replies next reply (next first x) all) place) same
      ∙ reply_stays (next first e) seen all place answer (p.0, cc (p.1)) was

-- the list without the number n where it stands first
abbrev without : ℕ → List ℕ → List ℕ
without n [] = []
without n (p ∷ ps) = if p == n then ps else p ∷ without n ps

times-cons : (k p : ℕ) (ps : List ℕ) → times k (p ∷ ps) ≡ one_if (p == k) + times k ps
times-cons k p ps = sum_by-cons _ p ps

length-without : (n : ℕ) (ps : List ℕ) → 0 < times n ps → length (without n ps) + 1 ≡ length ps
length-without n [] some_time = absurd (omega arith)
length-without n (p ∷ ps) some_time = elim (p == n) as (λ b. (p == n) ≡ b
    → length (if b then ps else p ∷ without n ps) + 1 ≡ length (p ∷ ps)) [
      | true ↦ λ t. omega arith
      | false ↦ λ t.
          let more = times-cons n p ps in
          let rest = length-without n ps (grind (arith, nat_tests)) in
          omega arith
    ] refl

times-without : (k n : ℕ) (ps : List ℕ) → 0 < times n ps
    → times k (without n ps) + one_if (n == k) ≡ times k ps
times-without k n [] some_time = absurd (omega arith)
times-without k n (p ∷ ps) some_time = elim (p == n) as (λ b. (p == n) ≡ b
    → times k (if b then ps else p ∷ without n ps) + one_if (n == k) ≡ times k (p ∷ ps)) [
      | true ↦ λ t. let more = times-cons k p ps in grind (arith, nat_tests)
      | false ↦ λ t.
          let more = times-cons n p ps in
          let rest = times-without k n ps (grind (arith, nat_tests)) in
          let all = times-cons k p ps in
          let left = times-cons k p (without n ps) in
          omega arith
    ] refl

-- where each number below n stands once, there are n
count_below : (n : ℕ) (ps : List ℕ) → ((k : ℕ) → times k ps ≡ one_if (nat_lt k n)) → length ps ≡ n
count_below zero [] each = refl
count_below zero (p ∷ ps) each =
    absurd (let here = each p in let more = times-cons p p ps in grind (arith, nat_tests))
count_below (suc n) ps each =
    let here = each n in
    let some_time : 0 < times n ps = grind (arith, nat_tests) in
    let fewer = count_below n (without n ps) (λ k.
    let rest = times-without k n ps some_time in
    let was = each k in
    grind (arith, nat_tests)) in
    omega (arith, length-without n ps some_time)

pub all_are_as_many : {E : Type 0} (mine : List ℕ) (seen : List E) → AreAll mine seen
    → length mine ≡ length seen
all_are_as_many mine seen all = count_below (length seen) mine all
