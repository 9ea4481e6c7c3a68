-- Histories of a machine. A machine is two functions of a state and an event: the next state and
-- the reply. A history is a list of the events that it took, the first one first, and the place of
-- an event is its index there, from 0.
use Rattle.std.specs.Prelude.{ℕ, ◌<◌, ◌≤◌, ◌≡◌, ◌==◌, Bool, nat_lt, if◌then◌else◌, List, [], ◌∷◌, length, count_by}

-- the state after all events of a history, from a first state on
abbrev pub state_after : {S E : Type 0} → (S → E → S) → S → List E → S
state_after next first [] = first
state_after next first (event ∷ events) = state_after next (next first event) events

-- the reply to each event of a history, in order
abbrev pub replies : {S E R : Type 0} → (S → E → S) → (S → E → R) → S → List E → List R
replies next reply first [] = []
replies next reply first (event ∷ events) =
    reply first event ∷ replies next reply (next first event) events

-- how often a place stands in a list of places
abbrev pub times : ℕ → List ℕ → ℕ
times place places = count_by (λ p. p == place) places

-- 1 for what is so, else 0
abbrev pub one_if : Bool → ℕ
one_if b = if b then 1 else 0

-- these are places of the history, each once
abbrev pub AreOwn : {E : Type 0} → List ℕ → List E → Type 0
AreOwn mine seen =
    (place : ℕ) → (times place mine ≤ 1) × (0 < times place mine → place < length seen)

-- these are all places of the history, each once
abbrev pub AreAll : {E : Type 0} → List ℕ → List E → Type 0
AreAll mine seen = (place : ℕ) → times place mine ≡ one_if (nat_lt place (length seen))

-- the longer of two histories, or the first where they are equally long
abbrev pub longer : {E : Type 0} → List E → List E → List E
longer one other = if nat_lt (length one) (length other) then other else one
