-- counts that rise by one
use Rattle.std.specs.Prelude.{ℕ, ◌+◌, ◌-◌, ◌^◌, ◌==◌, min, if◌then◌else◌}

-- a count after one more: it rose by one, or stands at the end of its type
abbrev pub one_more : ℕ → ℕ
one_more count = min (count + 1) (2 ^ 64 - 1)

-- a count of streams after a further one, which is counted where its own count isn't 0
abbrev pub one_more_where : ℕ → ℕ → ℕ
one_more_where count own = if own == 0 then count else one_more count
