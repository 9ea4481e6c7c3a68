-- the number of a text of packets, written out
use Rattle.std.specs.Prelude.{◌≡◌}
use Rattle.rh_show.specs.declared.reader.TheConstants.{MOST_BYTES}

pub record AreFixed : Type 0 where
  -- the most bytes that a line spells (profile)
  pub most_bytes : MOST_BYTES ≡ 65_535
