-- the moment of a clock
use Rattle.std.specs.Prelude.{ℕ, ◌-◌, ◌/◌, ◌^◌, min}

-- the milliseconds of so many nanoseconds, which stay at the end of their type
abbrev pub millis : ℕ → ℕ
millis nanos = min (nanos / 1000000) (2 ^ 64 - 1)
