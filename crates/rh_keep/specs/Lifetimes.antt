-- which lifetimes a channel may have, in bytes (profile)
use Rattle.std.specs.Prelude.{ℕ, Bool, ◌≤◌, ◌&&◌, nat_le}
use Rattle.rh_keep.specs.declared.range.TheConstants.{LEAST_LIFETIME, GREATEST_LIFETIME}

-- from the least to the greatest, both of them in range
abbrev pub IsLifetime : ℕ → Type 0
IsLifetime n = (LEAST_LIFETIME ≤ n) × (n ≤ GREATEST_LIFETIME)

-- the same, told
abbrev pub is_lifetime : ℕ → Bool
is_lifetime n = nat_le LEAST_LIFETIME n && nat_le n GREATEST_LIFETIME
