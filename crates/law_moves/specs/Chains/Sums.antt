-- packets that are counted on all legs of a kind (profile)
use Rattle.std.specs.Prelude.{ℕ, zero, suc, ◌+◌, Bool}
use Rattle.std.specs.Prelude.{List}
use Rattle.rh_sig.specs.declared.named.Named.{Named}
use Rattle.rh_line.specs.declared.leg.LegKind.{LegKind}
use Rattle.law_moves.specs.Moves.{OnLeg}
use Rattle.law_moves.specs.Wires.{of_leg}
use Rattle.law_moves.specs.Passages.Passing.{count_of}

-- the sum over the numbers below one
abbrev pub sum_below : (ℕ → ℕ) → ℕ → ℕ
sum_below f zero = 0
sum_below f (suc n) = sum_below f n + f n

-- how many on the leg of a number
abbrev pub count_on : (Named → Bool) → LegKind → List OnLeg → ℕ → ℕ
count_on test kind log n =
    count_of test (of_leg (record { kind = kind; number = n }) log)
