-- the numbers of captures, written out
use Rattle.std.specs.Prelude.{◌≡◌}
use Rattle.rh_audit.specs.declared.reading.TheConstants.{MOST_TAG}

pub record AreFixed : Type 0 where
  -- the greatest tag (profile)
  pub most_tag : MOST_TAG ≡ 18_446_744_073_709_551_615
