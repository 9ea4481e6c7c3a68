-- what stays idle below an item that changes, and what the list then is, over plain variables
use Rattle.std.proofs.Common.{arith, ◌≡◌, ◌≤◌, ◌<◌, ℕ, List, Bool, false, IsTrue, get_or, slice_set, min, length, Ok, Err, ap, sym, subst, ◌∙◌}
use Rattle.std.specs.Prelude.{IfOk}
use Rattle.std.specs.declared.option.Option.{Option}
use Rattle.std.specs.declared.result.Result.{Result}
use Rattle.std.proofs.lemmas.List.{get_or-set_other}
use Rattle.std.proofs.lemmas.Option.{slice_get_past, slice_get_read}
use Rattle.rh_wires.specs.Numbered.{AreIdle, act, act_by, ask, ask_by, change, change_by}

-- all below it stay idle, and all below the first one that isn't
pub idle_set : {X : Type 0} (is_idle : X → Bool) (blank : X) (first at low : ℕ) (list : List X)
    (x : X) → low ≡ min first at → AreIdle is_idle blank first list
    → AreIdle is_idle blank low (slice_set list at x)
idle_set is_idle blank first at low list x e h = record {
  below = λ k lt.
      let same : get_or (slice_set list at x) k blank ≡ get_or list k blank
      = get_or-set_other list at k x blank (omega arith) in
      let was : IsTrue (is_idle (get_or list k blank)) = h.below k (omega arith) in
      grind (arith, same, was);
}

-- blank items more leave all idle that was
pub idle_grown : {X : Type 0} (is_idle : X → Bool) (blank : X) (first : ℕ) (list more : List X)
    → ((k : ℕ) → get_or more k blank ≡ get_or list k blank) → AreIdle is_idle blank first list
    → AreIdle is_idle blank first more
idle_grown {X} is_idle blank first list more same h = record {
  below = λ k lt. subst (λ (x : X). IsTrue (is_idle x)) (sym (same k)) (h.below k lt);
}

-- all below the mark stay idle, where it stands behind the end too
pub idle_below : {X : Type 0} (is_idle : X → Bool) (blank : X) (mark len low : ℕ)
    (list now : List X) → list ≡ now → low ≡ min mark len → AreIdle is_idle blank mark list
    → (k : ℕ) → k < low → IsTrue (is_idle (get_or now k blank))
idle_below {X} is_idle blank mark len low list now same lowest h k below =
    subst (λ (l : List X). IsTrue (is_idle (get_or l k blank))) same (h.below k (omega arith))

-- the item at the mark isn't idle, where it stands before the end
pub busy_at : {X : Type 0} (is_idle : X → Bool) (blank : X) (mark len low : ℕ)
    (list now : List X) → list ≡ now → len ≡ length list → low ≡ min mark len
    → (mark < length list → is_idle (get_or list mark blank) ≡ false)
    → low < length now → is_idle (get_or now low blank) ≡ false
busy_at {X} is_idle blank mark len low list now same count lowest stands below =
    let before : low < length list = subst (λ (l : List X). low < length l) (sym same) below in
    let here : mark ≡ low = omega arith in
    subst (λ (l : List X). is_idle (get_or l low blank) ≡ false) same
    (subst (λ (n : ℕ). is_idle (get_or list n blank) ≡ false) here (stands (omega arith)))

-- the item answers
pub ask_at : {X A : Type 0} (answers : X → A) (none : A) (list now : List X) (n len : ℕ)
    (item : X) (answer : A) → list ≡ now → len ≡ length list → n < len → item ≡ get_or list n item
    → answer ≡ answers item → answer ≡ ask answers none now n
ask_at {X} answers none list now n len item answer same count below read told =
    told
    ∙ sym (ap (λ (o : Option X). ask_by answers none o)
    (slice_get_read list len n item count below read))
    ∙ ap (λ (l : List X). ask answers none l n) same

-- behind the end no item answers
pub ask_past : {X A : Type 0} (answers : X → A) (none : A) (list now : List X) (n len : ℕ)
    → list ≡ now → len ≡ length list → len ≤ n → none ≡ ask answers none now n
ask_past {X} answers none list now n len same count past =
    sym (ap (λ (o : Option X). ask_by answers none o) (slice_get_past list n (omega arith)))
    ∙ ap (λ (l : List X). ask answers none l n) same

-- the item acts and answers
pub act_at : {X A : Type 0} (does : X → X × A) (none : A) (list now : List X) (n len : ℕ)
    (old new : X) (answer : A) → list ≡ now → len ≡ length list → n < len
    → old ≡ get_or list n old → (new, answer) ≡ does old
    → (slice_set list n new, answer) ≡ act does none now n
act_at {X} {A} does none list now n len old new answer same count below read did =
    ap (λ (p : X × A). (slice_set list n p.0, p.1)) did
    ∙ sym (ap (λ (o : Option X). act_by does none list n o)
    (slice_get_read list len n old count below read))
    ∙ ap (λ (l : List X). act does none l n) same

-- behind the end no item acts
pub act_past : {X A : Type 0} (does : X → X × A) (none : A) (list now : List X) (n len : ℕ)
    → list ≡ now → len ≡ length list → len ≤ n → (now, none) ≡ act does none now n
act_past {X} does none list now n len same count past =
    let past_now : length now ≤ n = subst (λ (l : List X). length l ≤ n) same (omega arith) in
    sym (ap (λ (o : Option X). act_by does none now n o) (slice_get_past now n past_now))

-- the same, where the answer may be an error
pub act_ok : {X A E : Type 0} (does : X → X × A) (none : A) (list now : List X) (n len : ℕ)
    (old new : X) (result : Result A E) → list ≡ now → len ≡ length list → n < len
    → old ≡ get_or list n old → IfOk result (λ answer. (new, answer) ≡ does old)
    → IfOk result (λ answer. (slice_set list n new, answer) ≡ act does none now n)
act_ok does none list now n len old new (Ok answer) same count below read did =
    act_at does none list now n len old new answer same count below read did
act_ok does none list now n len old new (Err failed) same count below read did = tt

-- the item changes
pub change_at : {X : Type 0} (to : X → X) (list now : List X) (n len : ℕ)
    (old new : X) → list ≡ now → len ≡ length list → n < len → old ≡ get_or list n old
    → new ≡ to old → slice_set list n new ≡ change to now n
change_at {X} to list now n len old new same count below read did =
    ap (λ (x : X). slice_set list n x) did
    ∙ sym (ap (λ (o : Option X). change_by to list n o)
    (slice_get_read list len n old count below read))
    ∙ ap (λ (l : List X). change to l n) same

-- behind the end no item changes
pub change_past : {X : Type 0} (to : X → X) (list now : List X) (n len : ℕ)
    → list ≡ now → len ≡ length list → len ≤ n → now ≡ change to now n
change_past {X} to list now n len same count past =
    let past_now : length now ≤ n = subst (λ (l : List X). length l ≤ n) same (omega arith) in
    sym (ap (λ (o : Option X). change_by to now n o) (slice_get_past now n past_now))
