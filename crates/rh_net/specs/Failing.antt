-- calls that are to fail, by their numbers
use Rattle.std.specs.Prelude.{ℕ, List, Bool, false, if◌then◌else◌, ◌==◌}
use Rattle.std.specs.List.{list_any}
use Rattle.rh_net.specs.Counts.{one_more}

-- the call behind so many is one of those that are to fail
abbrev pub fails_next : List ℕ → ℕ → Bool
fails_next numbers calls = list_any (λ n. n == one_more calls) numbers

-- a call with so many bytes fails by plan: one with none never does
abbrev pub fails_at : ℕ → Bool → Bool
fails_at count to_fail = if count == 0 then false else to_fail
