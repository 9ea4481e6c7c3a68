-- PDUs that are compared one by one
use Rattle.std.proofs.Common.{◌≡◌, ℕ, suc, ◌+◌, List, [], ◌∷◌, length, Bool, true, false, refl, sym, ap, ◌∙◌, arith}
use Rattle.std.specs.Prelude.{◌==◌, bytes_eq, if◌then◌else◌}
use Rattle.std.proofs.lemmas.Bool.Decides.{nat_tests}
use Rattle.rh_audit.specs.declared.prefixed.Prefixed.{Prefixed}
use Rattle.rh_audit.specs.declared.prefixed.Prefixed.TheVariants.{Yes, No}
use Rattle.rh_audit.specs.Audits.{common, prefixed}
use Rattle.rh_audit.specs.Walks.{prefixed_from}

abbrev told : Bool → ℕ → ℕ → ℕ → Prefixed
told all far near same = if all then Yes far near else No same

pub from_nothing : (far near : List (List ℕ)) → prefixed_from 0 far near ≡ prefixed far near
from_nothing far near =
    ap (λ n. told (common far near == length far) n (0 + length near) (0 + common far near))
    (omega arith)
    ∙ ap (λ n. told (common far near == length far) (length far) n (0 + common far near))
    (omega arith)
    ∙ ap (λ n. told (common far near == length far) (length far) (length near) n) (omega arith)

-- the far ones end
pub far_ends : (place : ℕ) (near : List (List ℕ))
    → prefixed_from place [] near ≡ Yes place (place + length near)
far_ends place near = ap (λ n. Yes n (place + length near)) (omega arith)

off_at : (place c far near : ℕ) → c ≡ 0
    → told (c == suc far) (place + suc far) near (place + c) ≡ No place
off_at place c far near is =
    let other : (c == suc far) ≡ false = grind (arith, nat_tests, is) in
    ap (λ t. told t (place + suc far) near (place + c)) other
    ∙ ap No (omega (arith, is))

-- the near ones end first
pub near_ends : (place : ℕ) (pdu : List ℕ) (far : List (List ℕ))
    → prefixed_from place (pdu ∷ far) [] ≡ No place
near_ends place pdu far = off_at place 0 (length far) (place + 0) refl

-- one is another
pub differs : (place : ℕ) (pdu other : List ℕ) (far near : List (List ℕ))
    → bytes_eq pdu other ≡ false
    → prefixed_from place (pdu ∷ far) (other ∷ near) ≡ No place
differs place pdu other far near h =
    off_at place (common (pdu ∷ far) (other ∷ near)) (length far) (place + suc (length near))
    (ap (λ t. if t then suc (common far near) else 0) h)

-- one is the same
pub goes_on : (place : ℕ) (pdu other : List ℕ) (far near : List (List ℕ))
    → bytes_eq pdu other ≡ true
    → prefixed_from place (pdu ∷ far) (other ∷ near) ≡ prefixed_from (place + 1) far near
goes_on place pdu other far near h =
    let same : (suc (common far near) == suc (length far)) ≡ (common far near == length far) =
    grind (arith, nat_tests) in
    let at : (n : ℕ) → place + suc n ≡ place + 1 + n = λ n. omega arith in
    ap (λ t. let c = if t then suc (common far near) else 0 in
    told (c == suc (length far)) (place + suc (length far)) (place + suc (length near)) (place + c)) h
    ∙ ap (λ t. told t (place + suc (length far)) (place + suc (length near))
    (place + suc (common far near))) same
    ∙ ap (λ n. told (common far near == length far) n (place + suc (length near))
    (place + suc (common far near))) (at (length far))
    ∙ ap (λ n. told (common far near == length far) (place + 1 + length far) n
    (place + suc (common far near))) (at (length near))
    ∙ ap (λ n. told (common far near == length far) (place + 1 + length far)
    (place + 1 + length near) n) (at (common far near))
