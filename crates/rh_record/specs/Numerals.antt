-- the numbers of recordings, written out
use Rattle.std.specs.Prelude.{◌≡◌}
use Rattle.rh_record.specs.declared.reading.TheConstants.{MOST_BYTES, LAST_MOMENT, MOST_ROUNDS}
use Rattle.rh_record.specs.declared.words.TheConstants.{MOST_NUMBER}

pub record AreFixed : Type 0 where
  -- the most bytes of a give, and the greatest count of a send or a move (profile)
  pub most_bytes : MOST_BYTES ≡ 65_536
  -- the last moment, in milliseconds (profile)
  pub last_moment : LAST_MOMENT ≡ 9_223_372_036_854_775_807
  -- the most rounds of a settling (profile)
  pub most_rounds : MOST_ROUNDS ≡ 100_000
  -- the greatest number of a leg (profile)
  pub most_number : MOST_NUMBER ≡ 4_294_967_295
