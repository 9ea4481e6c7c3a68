-- the bytes in flight in one direction of a leg (profile)
use Rattle.std.specs.Prelude.{ℕ, ◌*◌, ◌≤◌, List, [], length, Some, None}
use Rattle.std.specs.Global.{Global}
use Rattle.std.specs.declared.option.Option.{Option}
use Rattle.std.specs.declared.vec.Vec.{Vec}

abbrev pub items_of : Option (Vec ℕ Global) → List ℕ
items_of None = []
items_of (Some drawn) = drawn.items

-- at most half of the bytes that are held were fed: at most twice those in flight are held
abbrev pub IsLean : (fed : ℕ) → (held : List ℕ) → Type 0
IsLean fed held = 2 * fed ≤ length held
