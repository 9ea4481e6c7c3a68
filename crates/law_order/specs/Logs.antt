-- logs: all that was put, or all that came, on each channel (profile). Channels are numbered from 1
use Rattle.std.specs.Prelude.{ℕ, zero, suc, List, [], ◌∷◌, ◌++◌, if◌then◌else◌, nat_eq}
use mathlib.Core.List.{IsPrefix}
use Rattle.law_order.specs.Items.{Item}

-- the items of each channel, by its number
abbrev pub Log : Type 0
Log = ℕ → List Item

-- nothing was put
abbrev pub empty : Log
empty = λ n. []

-- the value of one number is changed
abbrev pub change : {X : Type 0} → ℕ → (X → X) → (ℕ → X) → ℕ → X
change n f values k = if nat_eq k n then f (values k) else values k

-- more is put on one channel
abbrev pub more : {X : Type 0} → ℕ → List X → (ℕ → List X) → ℕ → List X
more n items log = change n (λ before. before ++ items) log

-- what order sees of messages, by what it sees of each
abbrev pub seen : {M : Type 0} → (M → List Item) → List M → List Item
seen view [] = []
seen view (m ∷ ms) = view m ++ seen view ms

-- the lists of the numbers below one, joined in order
abbrev pub below : {X : Type 0} → (ℕ → List X) → ℕ → List X
below lists zero = []
below lists (suc n) = below lists n ++ lists n

-- the lists of the numbers up to one and with it, joined in order
abbrev pub through : {X : Type 0} → (ℕ → List X) → ℕ → List X
through lists n = below lists n ++ lists n

-- a leg: what came is a front of what was put, whatever broke it
abbrev pub IsLeg : List Item → List Item → Type 0
IsLeg put came = IsPrefix came put
