-- the numbers of a generated recording, written out
use Rattle.std.specs.Prelude.{◌≡◌}
use Rattle.rh_made.specs.declared.count.TheConstants.{MOST_GIVEN}
use Rattle.rh_made.specs.declared.requests.TheConstants.{LEAST_SIZE, SIZE_STEP, SIZES}
use Rattle.rh_made.specs.declared.lines.TheConstants.{ROUNDS, SETTLED_AFTER}

pub record AreFixed : Type 0 where
  -- the most PDUs, and their sizes in bytes (profile)
  pub most_given : MOST_GIVEN ≡ 10_000
  pub least_size : LEAST_SIZE ≡ 24
  pub size_step : SIZE_STEP ≡ 613
  pub sizes : SIZES ≡ 5_000
  -- behind how many gives all is settled, and the most rounds of that (profile)
  pub settled_after : SETTLED_AFTER ≡ 16
  pub rounds : ROUNDS ≡ 1_000
