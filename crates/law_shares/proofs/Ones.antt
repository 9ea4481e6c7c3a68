-- what one share alone has
use Rattle.std.proofs.Common.{◌≡◌, ℕ, zero, suc, ◌+◌, ◌<◌, true, false, List, [], ◌∷◌, ◌++◌, Some, ap, arith, length, refl, subst, sym, ◌∙◌}
use Rattle.std.specs.Prelude.{Bool, ◌==◌, slice_get, if◌then◌else◌}
use Rattle.std.proofs.lemmas.Bool.Decides.{nat_tests}
use Rattle.std.proofs.lemmas.List.{append_assoc}
use Rattle.std.proofs.lemmas.List.Sums.{sum_by-append, sum_by-cons}
use Rattle.rh_turn.specs.History.{one_if, times}
use Rattle.rh_runs.specs.Own.{AreFrom, HasThose, OwnAreThose, picked, those}
use Rattle.rh_runs.specs.Runs.{entries}
use Rattle.law_shares.specs.Shares.{AllStand, Fail, FailAll, IsDealt, Share, places_of}

times-on : (k : ℕ) (ps qs : List ℕ) → times k (ps ++ qs) ≡ times k ps + times k qs
times-on k ps qs = sum_by-append (λ q. one_if (q == k)) ps qs

times-both : (k p : ℕ) (ps : List ℕ) → times k (p ∷ ps) ≡ one_if (p == k) + times k ps
times-both k p ps = sum_by-cons (λ q. one_if (q == k)) p ps

-- none of rising places is before the first
none-before : (n k : ℕ) (ps : List ℕ) → AreFrom n ps → k < n → times k ps ≡ 0
none-before n k [] rise before = refl
none-before n k (p ∷ ps) rise before =
    let least = rise.0 in
    let rest = none-before (p + 1) k ps rise.1 (omega (arith, least, before)) in
    let more = times-both k p ps in grind (arith, nat_tests)

-- the place of an entry is none of those whose entries fail a test that it passes
none-there : {A : Type 0} (test : A → Bool) (n k : ℕ) (ps : List ℕ) (es : List A) (e : A)
    → AreFrom n ps → Fail test (picked n ps es) → slice_get es k ≡ Some e → test e ≡ true
    → times (n + k) ps ≡ 0
none-there test n k [] es e rise fail at holds = refl
none-there test n k (p ∷ ps) [] e rise fail at holds = absurd (cc at)
none-there test n zero (p ∷ ps) (x ∷ es) e rise fail at holds =
    elim (p == n) as (λ b. (p == n) ≡ b
    → Fail test (if b then x ∷ picked (n + 1) ps es else picked (n + 1) (p ∷ ps) es)
    → times (n + zero) (p ∷ ps) ≡ 0) [
      | true ↦ λ same fails. absurd (cc (fails.0, at, holds))
      | false ↦ λ other fails.
          let least = rise.0 in
          none-before (n + 1) (n + zero) (p ∷ ps) (grind (arith, nat_tests), rise.1) (omega arith)
    ] refl fail
none-there test n (suc k) (p ∷ ps) (x ∷ es) e rise fail at holds =
    elim (p == n) as (λ b. (p == n) ≡ b
    → Fail test (if b then x ∷ picked (n + 1) ps es else picked (n + 1) (p ∷ ps) es)
    → times (n + suc k) (p ∷ ps) ≡ 0) [
      | true ↦ λ same fails.
          let is : p ≡ n = grind (arith, nat_tests) in
          let rest = none-there test (n + 1) k ps es e
          (subst (λ m. AreFrom (m + 1) ps) is rise.1) fails.1 at holds in
          let moved : n + suc k ≡ n + 1 + k = omega arith in
          let more = times-both (n + 1 + k) p ps in
          let skip : one_if (p == n + 1 + k) ≡ 0 = grind (arith, nat_tests) in
          subst (λ m. times m (p ∷ ps) ≡ 0) (sym moved) (omega (arith, rest, more, skip))
      | false ↦ λ other fails.
          let least = rise.0 in
          let moved : n + suc k ≡ n + 1 + k = omega arith in
          subst (λ m. times m (p ∷ ps) ≡ 0) (sym moved)
          (none-there test (n + 1) k (p ∷ ps) es e (grind (arith, nat_tests), rise.1) fails at holds)
    ] refl fail

from-none : (k : ℕ) → 0 + k ≡ k
from-none k = omega arith

within : {A : Type 0} (es : List A) (k : ℕ) (e : A) → slice_get es k ≡ Some e → k < length es
within [] k e at = absurd (cc at)
within (x ∷ es) zero e at = omega arith
within (x ∷ es) (suc k) e at = let rest = within es k e at in omega (arith, rest)

module _ {S E R : Type 0} (next : S → E → S) (reply : S → E → R) where
  as-long : (first : S) (events : List E) → length (entries next reply first events) ≡ length events
  as-long first [] = refl
  as-long first (e ∷ events) = ap suc (as-long (next first e) events)

module _ {S E R : Type 0} (next : S → E → S) (reply : S → E → R) (first : S) (history : List E)
    (test : E × R → Bool) where
  none-of : (shares : List (Share E R)) (k : ℕ) (e : E × R)
      → AllStand next reply first history shares → FailAll test shares
      → slice_get (entries next reply first history) k ≡ Some e → test e ≡ true
      → times k (places_of shares) ≡ 0
  none-of [] k e stand fail at holds = refl
  none-of (share ∷ shares) k e stand fail at holds =
      let here : times k share.places ≡ 0 =
      subst (λ m. times m share.places ≡ 0) (from-none k)
      (none-there test 0 k share.places (entries next reply first history) e stand.0
      (subst (Fail test) (sym stand.1) fail.0) at holds) in
      let rest = none-of shares k e stand.2 fail.1 at holds in
      let on : times k (places_of (share ∷ shares))
      ≡ times k share.places + times k (places_of shares) =
      times-on k share.places (places_of shares) in
      omega (arith, here, rest, on)

  places-on : (before behind : List (Share E R))
      → places_of (before ++ behind) ≡ places_of before ++ places_of behind
  places-on [] behind = refl
  places-on (share ∷ before) behind =
      ap (λ ps. share.places ++ ps) (places-on before behind)
      ∙ sym (append_assoc share.places (places_of before) (places_of behind))

  front-stands : (before behind : List (Share E R))
      → AllStand next reply first history (before ++ behind)
      → AllStand next reply first history before × AllStand next reply first history behind
  front-stands [] behind stand = (tt, stand)
  front-stands (share ∷ before) behind stand =
      let rest = front-stands before behind stand.2 in ((stand.0, stand.1, rest.0), rest.1)

  pub ones-are-those : OwnAreThose (E × R) → (before : List (Share E R)) (own : Share E R)
      (behind : List (Share E R))
      → IsDealt next reply first history (before ++ own ∷ behind)
      → FailAll test before → FailAll test behind
      → those test (entries next reply first history) ≡ those test own.calls
  ones-are-those law before own behind dealt fail_before fail_behind =
      let es = entries next reply first history in
      let parts = front-stands before (own ∷ behind) dealt.stand in
      let has : HasThose test 0 own.places es = λ k e at holds.
      let b = none-of before k e parts.0 fail_before at holds in
      let a = none-of behind k e parts.1.2 fail_behind at holds in
      let all = dealt.all k in
      let split = ap (times k) (places-on before (own ∷ behind)) in
      let on = times-on k (places_of before) (places_of (own ∷ behind)) in
      let more : times k (places_of (own ∷ behind))
      ≡ times k own.places + times k (places_of behind) =
      times-on k own.places (places_of behind) in
      let less = within es k e at in
      let long = as-long next reply first history in
      let some_time : 0 < times k own.places = grind (arith, nat_tests) in
      subst (λ m. 0 < times m own.places) (sym (from-none k)) some_time in
      law test own.places es parts.1.0 has ∙ ap (those test) parts.1.1
