-- the summary of a generated recording (profile)
use Rattle.std.specs.Prelude.{ℕ}
use Rattle.rh_world.specs.declared.any_world.AnyWorld.TheVariants.{Before}
use Rattle.rh_world.specs.Any.{after, answers, last}
use Rattle.rh_made.specs.declared.summary.Summary.{Summary}
use Rattle.rh_made.specs.Making.{lines}
use Rattle.rh_made.specs.Sums.{moved, rounds}
use Rattle.rh_generate.specs.Steps.{Made}

-- of the recording of n PDUs
abbrev pub summary : ℕ → Summary
summary n = record {
  last = last (after Before (lines n));
  moved = moved (answers Before (lines n));
  rounds = rounds (answers Before (lines n));
}

-- of what was made so far
abbrev pub summary_of : Made → Summary
summary_of made =
    record { last = last made.world; moved = made.tally.moved; rounds = made.tally.rounds }
