-- counts of jobs, and of calls
use Rattle.std.specs.Prelude.{ℕ, ◌+◌, ◌-◌, ◌^◌, min}

-- a count raised by a number, which stays at the end of its type
abbrev pub raised : ℕ → ℕ → ℕ
raised count by = min (count + by) (2 ^ 64 - 1)
