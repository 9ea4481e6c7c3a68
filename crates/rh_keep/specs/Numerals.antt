-- the numbers of lifetimes, written out, in bytes
use Rattle.std.specs.Prelude.{◌≡◌}
use Rattle.rh_keep.specs.declared.meter.TheConstants.{RESERVE, REPLACED_BEFORE}
use Rattle.rh_keep.specs.declared.range.TheConstants.{LEAST_LIFETIME, GREATEST_LIFETIME}
use Rattle.rh_keep.specs.declared.range.TheConstants.{DEFAULT_LIFETIME}

pub record AreFixed : Type 0 where
  -- what is kept for the packets of replacement and of the end (profile)
  pub reserve : RESERVE ≡ 256
  -- how long before its end a channel is to be replaced (profile)
  pub replaced_before : REPLACED_BEFORE ≡ 65_536
  -- the range of a lifetime (profile)
  pub least_lifetime : LEAST_LIFETIME ≡ 131_072
  pub greatest_lifetime : GREATEST_LIFETIME ≡ 2_147_483_648
  -- the lifetime where nothing else is said (profile)
  pub default_lifetime : DEFAULT_LIFETIME ≡ 1_073_741_824
