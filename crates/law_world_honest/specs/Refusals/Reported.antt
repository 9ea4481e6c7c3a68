-- where a report tells that a leg broke (profile)
use Rattle.std.specs.Prelude.{◌≡◌, ◌++◌, List, ◌∷◌, true}
use Rattle.rh_line.specs.declared.leg.Leg.{Leg}
use Rattle.rh_record.specs.declared.answer.Answer.TheVariants as answer
use Rattle.rh_record.specs.declared.line.Line.{Line}
use Rattle.law_node_history.specs.Closes.{IsOneOf}
use Rattle.rh_world.specs.declared.any_world.AnyWorld.TheVariants.{Before}
use Rattle.rh_world.specs.Any.{after, step}

-- one of the lines of a recording is answered so
pub record ReportsBreak (lines : List Line) (leg : Leg) : Type 0 where
  pub before : List Line
  pub line : Line
  pub behind : List Line
  pub split : lines ≡ before ++ line ∷ behind
  pub told : IsOneOf (answer.BreakLeg leg true) (step (after Before before) line).1
