-- lists that have an item for each number from 0, and a blank one for each number behind their end
-- (profile)
use Rattle.std.specs.Prelude.{ℕ, zero, suc, ◌+◌, ◌-◌, ◌<◌, Bool, IsTrue, get_or, List, [], ◌∷◌, ◌++◌, length, slice_get, slice_set, Some, None}
use Rattle.std.specs.declared.option.Option.{Option}

-- so many blank items more
abbrev pub more : {X : Type 0} → ℕ → X → List X → List X
more zero blank list = list
more (suc n) blank list = more n blank (list ++ blank ∷ [])

-- with blank items up to a length, where the list is shorter
abbrev pub grown : {X : Type 0} → ℕ → X → List X → List X
grown len blank list = more (len - length list) blank list

-- another item at a number
abbrev pub put_at : {X : Type 0} → X → List X → ℕ → X → List X
put_at blank list n item = slice_set (grown (n + 1) blank list) n item

-- what the item at a number answers; the blank answer where there is none
abbrev pub ask_by : {X A : Type 0} → (X → A) → A → Option X → A
ask_by answer blank None = blank
ask_by answer blank (Some item) = answer item

abbrev pub ask : {X A : Type 0} → (X → A) → A → List X → ℕ → A
ask answer blank list n = ask_by answer blank (slice_get list n)

-- the item at a number acts, and answers; where there is none nothing changes
abbrev pub act_by : {X A : Type 0} → (X → X × A) → A → List X → ℕ → Option X → List X × A
act_by act blank list n None = (list, blank)
act_by act blank list n (Some item) = (slice_set list n (act item).0, (act item).1)

abbrev pub act : {X A : Type 0} → (X → X × A) → A → List X → ℕ → List X × A
act does blank list n = act_by does blank list n (slice_get list n)

-- the item at a number changes
abbrev pub change_by : {X : Type 0} → (X → X) → List X → ℕ → Option X → List X
change_by to list n None = list
change_by to list n (Some item) = slice_set list n (to item)

abbrev pub change : {X : Type 0} → (X → X) → List X → ℕ → List X
change to list n = change_by to list n (slice_get list n)

-- the items of all numbers below one pass a test
pub record AreIdle {X : Type 0} (is_idle : X → Bool) (blank : X) (first : ℕ) (list : List X)
    : Type 0 where
  pub below : (k : ℕ) → k < first → IsTrue (is_idle (get_or list k blank))
