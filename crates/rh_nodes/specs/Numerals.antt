-- the number of a round, written out
use Rattle.std.specs.Prelude.{◌≡◌}
use Rattle.rh_nodes.specs.declared.settling.TheConstants.{MOST_BYTES}

pub record AreFixed : Type 0 where
  -- the most bytes that a round carries on a leg in a direction (profile)
  pub most_bytes : MOST_BYTES ≡ 65_536
