-- how many PDUs went in one direction (profile)
use Rattle.std.specs.Prelude.{ℕ, ◌+◌, ◌-◌, ◌^◌, min}
use Rattle.rh_wires.specs.declared.counts.Counts.{Counts}

abbrev pub none : Counts
none = record { given = 0; taken = 0 }

-- a count after one more, which stands still at the end of its type
abbrev pub one_more : ℕ → ℕ
one_more count = min (count + 1) (2 ^ 32 - 1)

abbrev pub given : Counts → Counts
given counts = record counts { given = one_more counts.given }

abbrev pub taken : Counts → Counts
taken counts = record counts { taken = one_more counts.taken }
