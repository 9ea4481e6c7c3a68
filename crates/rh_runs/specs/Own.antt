-- what stands at some places of a list
use Rattle.std.specs.Prelude.{◌≡◌, ℕ, ◌+◌, ◌<◌, ◌≤◌, ◌==◌, Bool, true, if◌then◌else◌, List, [], ◌∷◌, slice_get, Some}
use Rattle.rh_turn.specs.History.{times}

-- the entries that pass a test, in order
abbrev pub those : {E : Type 0} → (E → Bool) → List E → List E
those test [] = []
those test (entry ∷ entries) =
    if test entry then entry ∷ those test entries else those test entries

-- the places rise, and the first is n at least
abbrev pub AreFrom : ℕ → List ℕ → Type 0
AreFrom n [] = Unit {0}
AreFrom n (place ∷ places) = (n ≤ place) × AreFrom (place + 1) places

-- the entries at rising places, where the first entry stands at place n
abbrev pub picked : {E : Type 0} → ℕ → List ℕ → List E → List E
picked n [] entries = []
picked n (place ∷ places) [] = []
picked n (place ∷ places) (entry ∷ entries) =
    if place == n
    then entry ∷ picked (n + 1) places entries
    else picked (n + 1) (place ∷ places) entries

-- each entry that passes the test stands at one of the places
abbrev pub HasThose : {E : Type 0} → (E → Bool) → ℕ → List ℕ → List E → Type 0
HasThose {E} test n places entries = (k : ℕ) (entry : E)
    → slice_get entries k ≡ Some entry → test entry ≡ true → 0 < times (n + k) places

abbrev pub OwnAreThose : Type 0 → Type 0
OwnAreThose E = (test : E → Bool) (places : List ℕ) (entries : List E)
    → AreFrom 0 places → HasThose test 0 places entries
    → those test entries ≡ those test (picked 0 places entries)
