-- each cause shows in the report
use Rattle.law_order.proofs.Vocabulary.{List, true, Some, inl, inr, ⊎_elim}
use Rattle.rh_line.specs.declared.cause.Cause.TheVariants as cause
use Rattle.rh_record.specs.declared.answer.Answer.TheVariants as answer
use Rattle.law_moves.proofs.Vocabulary.{Cause, Leg, cause_leg}
use Rattle.law_node_history.proofs.Vocabulary.{Answer, Who, Line, Event, lines, step_line, World}
use Rattle.rh_world.specs.Roles as roles
use Rattle.law_world_reports.proofs.Vocabulary.{AnyWorld, Before, Direct, Settings, Roles, act, ShowsCause, ShowsMove, midst, IsLicensedIn, ShowsLoss}
use Rattle.law_world_reports.proofs.Closed.Going.{AreIn, one_before}
use Rattle.law_world_reports.specs.Closed.Reports.{Moved, ShowsIn}

module _ {K C S I O : Type 0} (answers all : List Answer) (are_in : AreIn answers all)
    (w : World K C S I O) (node : Who) (event : Event) where
  moved_in : (leg : Leg) → ShowsMove answers w node event leg → Moved all leg
  moved_in leg move = record {
    dir = move.dir;
    piece = move.piece;
    shown = are_in (answer.Move (Some leg) move.dir (Some move.piece)) move.shown;
  }

  shows_in : (why : Cause) → ShowsCause answers w node event why → ShowsIn all why
  shows_in (cause.LegBroken leg) h =
      ⊎_elim (λ broken. inl (are_in (answer.BreakLeg leg true) broken))
      (λ (lost : ShowsLoss answers w node leg). inr (record {
        dir = lost.dir;
        shown = are_in (answer.EndLeg leg lost.dir true) lost.shown;
      })) h
  shows_in (cause.LegEnded leg partial) h =
      record { dir = h.dir; shown = are_in (answer.EndLeg leg h.dir true) h.shown }
  shows_in (cause.Silent leg since now) h = are_in (answer.Tick now true) h
  shows_in (cause.ControlFull leg) h = (h.0, moved_in h.0 h.1)
  shows_in why h = moved_in (cause_leg why) h

pub report_shows : (world : AnyWorld) (line : Line) (node : Who) (why : Cause)
    → IsLicensedIn world line node why → ShowsIn (act world line).1 why
report_shows Before line node why is = absurd is
report_shows (Direct w) line node why is = absurd is
report_shows (Settings config) line node why is = absurd is
report_shows (Roles w) line node why is =
    let did = step_line roles.rules roles.makers roles.deeds line w in
    shows_in did.1 (roles.step line w).1 (λ x h. one_before x did.1 (lines did.0.closed) h)
    (midst roles.rules roles.makers roles.deeds line w node why is) node is.closed.closes.event why
    is.shows
