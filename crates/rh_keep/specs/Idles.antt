-- for how long no byte came on a leg (profile)
use Rattle.std.specs.Prelude.{ℕ, ◌+◌, nat_le, if◌then◌else◌, Some, None}
use Rattle.std.specs.declared.option.Option.{Option}

-- the limit, and the moment from which it counts
pub record Idle : Type 0 where
  pub limit : ℕ
  pub since : ℕ

abbrev pub idle_from : ℕ → ℕ → Idle
idle_from limit now = record { limit = limit; since = now }

abbrev pub after_touch : Idle → ℕ → Idle
after_touch i now = record i { since = now }

-- the moment from which it counts, once the limit has passed since then
abbrev pub reached : Idle → ℕ → Option ℕ
reached i now = if nat_le (i.since + i.limit) now then Some i.since else None
