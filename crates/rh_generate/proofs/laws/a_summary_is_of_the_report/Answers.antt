use Rattle.std.specs.Prelude.{ℕ}
use Rattle.rh_world.specs.declared.any_world.AnyWorld.TheVariants.{Before}
use Rattle.rh_made.specs.Making.{lines}
use Rattle.rh_generate.proofs.Steps.{moved_told, rounds_told, told_is}
use Rattle.rh_generate.proofs.laws.a_summary_is_of_the_report.Goals as goal

pub returns-clause-report : goal.returns-clause-report
returns-clause-report c = λ (n : ℕ). told_is Before (lines n)

pub returns-clause-moved : goal.returns-clause-moved
returns-clause-moved c = λ (n : ℕ). moved_told (lines n)

pub returns-clause-rounds : goal.returns-clause-rounds
returns-clause-rounds c = λ (n : ℕ). rounds_told (lines n)
