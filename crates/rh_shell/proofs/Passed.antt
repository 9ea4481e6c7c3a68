-- the first of a list that passes a test
use Rattle.std.proofs.Common.{◌≡◌, ◌||◌, ℕ, zero, suc, ◌+◌, ◌<◌, ◌≤◌, List, [], ◌∷◌, length, get_or, cond, Bool, true, false, not, Some, None, sym, ap, ◌∙◌, refl, arith}
use Rattle.std.specs.Prelude.{slice_set, position, find}
use Rattle.std.specs.List.{slice_get, position_or_len, list_any, remove}
use Rattle.std.proofs.lemmas.Grind.{common_steps}
use Rattle.std.proofs.lemmas.List.Quantifiers.{position-Some}
use Rattle.std.proofs.lemmas.List.Folds.{find_at, list_any_at}
use Rattle.std.specs.declared.option.Option.{Option}
use Rattle.rh_sig.specs.declared.named.Named.{Named}
use Rattle.rh_shell.specs.declared.due.Due.{Due}
use Rattle.rh_shell.specs.Waiting.{Waiting, takes, better, merged, without_first, with_due, taken}

-- the place that was found in a slice of them
pub found_in : (test : Due → Bool) {dues seen : List Due} {found place : Option ℕ} → seen ≡ dues
    → found ≡ position test seen → found ≡ place → position test dues ≡ place
found_in test same is found = ap (position test) (sym same) ∙ sym is ∙ found

placed : (test : Due → Bool) (dues : List Due) (i : ℕ) → position test dues ≡ Some i
    → position_or_len test dues ≡ i
placed test dues i is = grind (arith, common_steps)

unplaced : (test : Due → Bool) (dues : List Due) → position test dues ≡ None
    → length dues ≤ position_or_len test dues
unplaced test dues is = grind (arith, common_steps)

-- ---- merging

merged_place : (packet : Named) (dues : List Due) (d : Due)
    → merged dues packet ≡ slice_set dues (position_or_len (takes packet) dues)
    (better (get_or dues (position_or_len (takes packet) dues) d) packet)
merged_place packet [] d = refl
merged_place packet (due ∷ dues) d = by (takes packet due) (merged_place packet dues d)
  where
    n : ℕ
    n = position_or_len (takes packet) dues

    by : (b : Bool) → merged dues packet ≡ slice_set dues n (better (get_or dues n d) packet)
        → cond b (better due packet ∷ dues) (due ∷ merged dues packet)
        ≡ slice_set (due ∷ dues) (cond (not b) (1 + n) 0)
        (better (get_or (due ∷ dues) (cond (not b) (1 + n) 0) d) packet)
    by true rest = refl
    by false rest =
        ap (λ xs. due ∷ xs) rest
        ∙ ap (λ k. slice_set (due ∷ dues) k (better (get_or (due ∷ dues) k d) packet))
        {x = suc n} {y = 1 + n} (omega arith)

pub merged_at : (packet : Named) (dues : List Due) (i : ℕ) (d : Due)
    → position (takes packet) dues ≡ Some i
    → slice_set dues i (better (get_or dues i d) packet) ≡ merged dues packet
merged_at packet dues i d is =
    sym (merged_place packet dues d
    ∙ ap (λ k. slice_set dues k (better (get_or dues k d) packet))
    (placed (takes packet) dues i is))

pub any_at : (test : Due → Bool) (dues : List Due) (i : ℕ) (d : Due)
    → position test dues ≡ Some i → true ≡ list_any test dues
any_at test dues i d is =
    let at = position-Some test dues i d is in sym (list_any_at test dues i d at.0 at.1)

any_place : (test : Due → Bool) (dues : List Due)
    → length dues ≤ position_or_len test dues → list_any test dues ≡ false
any_place test [] past = refl
any_place test (due ∷ dues) past = by (test due) past (any_place test dues)
  where
    n : ℕ
    n = position_or_len test dues

    by : (b : Bool) → suc (length dues) ≤ cond (not b) (1 + n) 0
        → (length dues ≤ n → list_any test dues ≡ false) → (b || list_any test dues) ≡ false
    by true past rest = absurd (omega arith)
    by false past rest = rest (omega arith)

pub any_none : (test : Due → Bool) (dues : List Due) → position test dues ≡ None
    → false ≡ list_any test dues
any_none test dues is = sym (any_place test dues (unplaced test dues is))

-- ---- going

without_place : (test : Due → Bool) (dues : List Due)
    → without_first test dues ≡ remove dues (position_or_len test dues)
without_place test [] = refl
without_place test (due ∷ dues) = by (test due) (without_place test dues)
  where
    n : ℕ
    n = position_or_len test dues

    by : (b : Bool) → without_first test dues ≡ remove dues n
        → cond b dues (due ∷ without_first test dues) ≡ remove (due ∷ dues) (cond (not b) (1 + n) 0)
    by true rest = refl
    by false rest =
        ap (λ xs. due ∷ xs) rest
        ∙ ap (remove (due ∷ dues)) {x = suc n} {y = 1 + n} (omega arith)

pub without_at : (test : Due → Bool) (dues : List Due) (i : ℕ) → position test dues ≡ Some i
    → remove dues i ≡ without_first test dues
without_at test dues i is = sym (without_place test dues ∙ ap (remove dues) (placed test dues i is))

pub without_none : (test : Due → Bool) (dues : List Due) → position test dues ≡ None
    → dues ≡ without_first test dues
without_none test dues is =
    sym (without_place test dues
    ∙ grind (arith, common_steps, unplaced test dues is))

got_none : (dues : List Due) (n : ℕ) → length dues ≤ n → None ≡ slice_get dues n
got_none [] n past = refl
got_none (due ∷ dues) zero past = absurd (omega arith)
got_none (due ∷ dues) (suc n) past = got_none dues n (omega arith)

got : (dues : List Due) (n : ℕ) (d : Due) → n < length dues
    → Some (get_or dues n d) ≡ slice_get dues n
got [] n d below = absurd (omega arith)
got (due ∷ dues) zero d below = refl
got (due ∷ dues) (suc n) d below = got dues n d (omega arith)

pub find_none : (test : Due → Bool) (dues : List Due) → position test dues ≡ None
    → None ≡ find test dues
find_none test dues is =
    got_none dues (position_or_len test dues) (unplaced test dues is) ∙ sym (find_at test dues)

pub find_some : (test : Due → Bool) (dues : List Due) (i : ℕ) (d : Due)
    → position test dues ≡ Some i → Some (get_or dues i d) ≡ find test dues
find_some test dues i d is =
    let at = position-Some test dues i d is in
    got dues i d at.0 ∙ ap (slice_get dues) (sym (placed test dues i is)) ∙ sym (find_at test dues)

pub taken_none : (test : Due → Bool) (w : Waiting) → position test w.due ≡ None
    → (w, None) ≡ taken test w
taken_none test w is =
    ap (λ dues. (with_due w dues, None)) (without_none test w.due is)
    ∙ ap (λ o. (with_due w (without_first test w.due), o)) (find_none test w.due is)

pub taken_at : (test : Due → Bool) (w : Waiting) (i : ℕ) (due : Due)
    → position test w.due ≡ Some i → due ≡ get_or w.due i due
    → (with_due w (remove w.due i), Some due) ≡ taken test w
taken_at test w i due is at =
    ap (λ dues. (with_due w dues, Some due)) (without_at test w.due i is)
    ∙ ap (λ o. (with_due w (without_first test w.due), o))
    (ap Some at ∙ find_some test w.due i due is)
