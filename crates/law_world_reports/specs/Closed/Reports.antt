-- where a cause shows in the report: in the answers of the line that reports the close (profile)
use Rattle.std.specs.Prelude.{◌⊎◌, ℕ, List, true, Some}
use Rattle.rh_text.specs.declared.ends.Dir.{Dir}
use Rattle.rh_line.specs.declared.cause.Cause.{Cause}
use Rattle.rh_line.specs.declared.cause.Cause.TheVariants as cause
use Rattle.rh_line.specs.declared.leg.Leg.{Leg}
use Rattle.rh_line.specs.Texts.{cause_leg}
use Rattle.rh_record.specs.declared.answer.Answer.{Answer}
use Rattle.rh_record.specs.declared.answer.Answer.TheVariants as answer
use Rattle.law_node_history.specs.Closes.{IsOneOf}

-- the leg ended
pub record Ended (answers : List Answer) (leg : Leg) : Type 0 where
  pub dir : Dir
  pub shown : IsOneOf (answer.EndLeg leg dir true) answers

-- bytes moved on the leg
pub record Moved (answers : List Answer) (leg : Leg) : Type 0 where
  pub dir : Dir
  pub piece : List ℕ
  pub shown : IsOneOf (answer.Move (Some leg) dir (Some piece)) answers

abbrev pub ShowsIn : List Answer → Cause → Type 0
ShowsIn answers (cause.LegBroken leg) =
    IsOneOf (answer.BreakLeg leg true) answers ⊎ Ended answers leg
ShowsIn answers (cause.LegEnded leg partial) = Ended answers leg
ShowsIn answers (cause.Silent leg since now) = IsOneOf (answer.Tick now true) answers
ShowsIn answers (cause.ControlFull leg) = (heard : Leg) × Moved answers heard
ShowsIn answers why = Moved answers (cause_leg why)
