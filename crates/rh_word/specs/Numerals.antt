-- the number of the program, written out
use Rattle.std.specs.Prelude.{◌≡◌}
use Rattle.rh_word.specs.declared.word.TheConstants.{MOST_INPUT}

pub record AreFixed : Type 0 where
  -- the most bytes of an input (profile)
  pub most_input : MOST_INPUT ≡ 67_108_864
