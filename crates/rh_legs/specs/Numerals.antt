-- the number of a leg's reader, written out
use Rattle.std.specs.Prelude.{◌≡◌}
use Rattle.rh_legs.specs.declared.reader.TheConstants.{LAST_PIECES}

pub record AreFixed : Type 0 where
  -- the most pieces that are read without use (profile)
  pub last_pieces : LAST_PIECES ≡ 256
