-- what a leg's end makes of the bytes up to what they first make whole
use Rattle.std.proofs.Common.{◌≡◌, ℕ, List, [], ◌∷◌, drop, Bool, true, false, Some, None, Ok, Err, sym, ◌∙◌, ap, refl}
use Rattle.std.specs.declared.option.Option.{Option}
use Rattle.std.specs.declared.result.Result.{Result}
use Rattle.rh_pdu.specs.declared.fault.HeadFault.{HeadFault}
use Rattle.rh_line.specs.declared.cause.Cause.{Cause}
use Rattle.rh_line.specs.declared.cause.Cause.TheVariants.{BadFrame}
use Rattle.rh_shell.specs.declared.answers.Count.{Count}
use Rattle.rh_shell.specs.declared.answers.HeadTaken.{HeadTaken}
use Rattle.rh_shell.specs.declared.heading.Heading.{Heading}
use Rattle.rh_shell.specs.declared.stage.Stage.TheVariants as stage
use Rattle.rh_shell.specs.declared.stop.Stop.{Stop}
use Rattle.rh_shell.specs.Intakes.{Intake, Frame, Fault, behind, is_whole_head, is_whole_greeting, scan}
use Rattle.rh_shell.specs.Texts.{Adds}
use Rattle.rh_shell.specs.Keeping.{overrun, overran, after_row}
use Rattle.rh_shell.specs.Closing.{after_head, after_greeting}
use Rattle.rh_shell.specs.NearEnds.{NearEnd}
use Rattle.rh_shell.specs.Rules.{Rules}
use Rattle.rh_shell.specs.Hearing.{Turn, goes, stops, stop, behind_head, behind_frame, take_greeting, take_head, take_frame, heading, take, with_intake, take_scanned, hear_next, is_greeting}
use Rattle.rh_shell.proofs.Scans.{holding, head_scanned, greeting_scanned, shut_scanned, scanned}

-- the end of a leg by its fields, and as it is
module _ {S : Type 0} (rules : Rules S) {end now : NearEnd} (is : end ≡ now) (role : S)
    (piece : List ℕ) where
  step : Turn S × List ℕ → Type 0
  step t = t ≡ hear_next rules now role piece

  as_now : (t : Turn S × List ℕ) → t ≡ hear_next rules end role piece → step t
  unfolding step
  as_now t e = e ∙ ap (λ (x : NearEnd). hear_next rules x role piece) is

  pub head_goes_on : (new : List ℕ) → end.intake.stage ≡ stage.Head
      → Adds is_whole_head end.intake.held piece new None
      → (goes (with_intake end (holding end.intake new)) role, []) ≡ hear_next rules now role piece
  unfolding take step
  head_goes_on new st adds =
      as_now (goes (with_intake end (holding end.intake new)) role, [])
      (ap (take_scanned rules end role) (head_scanned end.intake piece new None st adds))

  head_whole : (new : List ℕ) (used : ℕ) (next : S) (taken : Result HeadTaken Stop)
      → end.intake.stage ≡ stage.Head → Adds is_whole_head end.intake.held piece new (Some used)
      → (next, taken) ≡ take_head rules end.leg role new
      → (behind_head (with_intake end (behind end.intake new)) (next, taken), drop used piece)
      ≡ hear_next rules now role piece
  unfolding take step
  head_whole new used next taken st adds e =
      as_now (behind_head (with_intake end (behind end.intake new)) (next, taken), drop used piece)
      (ap (λ x. (behind_head (with_intake end (behind end.intake new)) x, drop used piece)) e
      ∙ ap (take_scanned rules end role) (head_scanned end.intake piece new (Some used) st adds))

  head_turn : (e : NearEnd) (next : S) (taken : Result HeadTaken Stop)
      → record {
        end = (after_head e taken).0;
        role = next;
        stop = (after_head e taken).1;
      } ≡ behind_head e (next, taken)
  head_turn e next (Ok taken) = refl
  head_turn e next (Err why) = refl

  pub head_taken : (new : List ℕ) (used : ℕ) (next : S) (taken : Result HeadTaken Stop)
      (x : NearEnd × Option Stop) → x ≡ after_head (with_intake end (behind end.intake new)) taken
      → end.intake.stage ≡ stage.Head → Adds is_whole_head end.intake.held piece new (Some used)
      → (next, taken) ≡ take_head rules end.leg role new
      → (record { end = x.0; role = next; stop = x.1 }, drop used piece)
      ≡ hear_next rules now role piece
  head_taken new used next taken x row st adds e =
      ap (λ (y : NearEnd × Option Stop).
      (record { end = y.0; role = next; stop = y.1 }, drop used piece)) row
      ∙ ap (λ (t : Turn S). (t, drop used piece))
      (head_turn (with_intake end (behind end.intake new)) next taken)
      ∙ head_whole new used next taken st adds e

  pub greeting_goes_on : (new : List ℕ) → end.intake.stage ≡ stage.Greeting
      → Adds is_whole_greeting end.intake.held piece new None
      → (goes (with_intake end (holding end.intake new)) role, []) ≡ hear_next rules now role piece
  unfolding take step
  greeting_goes_on new st adds =
      as_now (goes (with_intake end (holding end.intake new)) role, [])
      (ap (take_scanned rules end role) (greeting_scanned end.intake piece new None st adds))

  greeting_whole : (new : List ℕ) (used : ℕ) → end.intake.stage ≡ stage.Greeting
      → Adds is_whole_greeting end.intake.held piece new (Some used)
      → (take_greeting (with_intake end (behind end.intake new)) role new, drop used piece)
      ≡ hear_next rules now role piece
  unfolding take step
  greeting_whole new used st adds =
      as_now (take_greeting (with_intake end (behind end.intake new)) role new, drop used piece)
      (ap (take_scanned rules end role) (greeting_scanned end.intake piece new (Some used) st adds))

  greeting_turn : (e : NearEnd) (new : List ℕ) (is_right : Bool) → is_greeting new ≡ is_right
      → record {
        end = (after_greeting e is_right).0;
        role = role;
        stop = (after_greeting e is_right).1;
      } ≡ take_greeting e role new
  greeting_turn e new true is = rw is refl
  greeting_turn e new false is = rw is refl

  pub greeting_taken : (new : List ℕ) (used : ℕ) (is_right : Bool) (x : NearEnd × Option Stop)
      → x ≡ after_greeting (with_intake end (behind end.intake new)) is_right
      → is_greeting new ≡ is_right → end.intake.stage ≡ stage.Greeting
      → Adds is_whole_greeting end.intake.held piece new (Some used)
      → (record { end = x.0; role = role; stop = x.1 }, drop used piece)
      ≡ hear_next rules now role piece
  greeting_taken new used is_right x row is st adds =
      ap (λ (y : NearEnd × Option Stop).
      (record { end = y.0; role = role; stop = y.1 }, drop used piece)) row
      ∙ ap (λ (t : Turn S). (t, drop used piece))
      (greeting_turn (with_intake end (behind end.intake new)) new is_right is)
      ∙ greeting_whole new used st adds

  pub shut_goes_on : end.intake.stage ≡ stage.Shut → (goes end role, []) ≡ hear_next rules now role
      piece
  unfolding take step
  shut_goes_on st =
      as_now (goes end role, []) (ap (take_scanned rules end role) (shut_scanned end.intake piece
      st))

  at_end : (at : Heading) → at ≡ heading now now.intake.place → at ≡ heading end end.intake.place
  at_end at e = e ∙ ap (λ (x : NearEnd). heading x x.intake.place) (sym is)

  frame_taken : (at : Heading) (i : Intake) (frame left : List ℕ) (next : S)
      (taken : Result Count Cause)
      → at ≡ heading now now.intake.place
      → record { intake = i; came = Frame end.intake.place frame; left = left } ≡ scan end.intake
      piece
      → (next, taken) ≡ take_frame rules at role frame
      → (behind_frame (with_intake end i) (next, taken), left) ≡ hear_next rules now role piece
  unfolding take step
  frame_taken at i frame left next taken there scans e =
      as_now (behind_frame (with_intake end i) (next, taken), left)
      (ap (λ x. (behind_frame (with_intake end i) x, left))
      (e ∙ ap (λ (x : Heading). take_frame rules x role frame) (at_end at there))
      ∙ ap (take_scanned rules end role) scans)

  row_turn : (e : NearEnd) (next : S) (taken : Result Count Cause)
      → record {
        end = (after_row e taken).0;
        role = next;
        stop = (after_row e taken).1;
      } ≡ behind_frame e (next, taken)
  row_turn e next (Ok count) = refl
  row_turn e next (Err why) = refl

  pub row_taken : (at : Heading) (i : Intake) (frame left : List ℕ) (next : S)
      (taken : Result Count Cause) (x : NearEnd × Option Stop)
      → x ≡ after_row (with_intake end i) taken
      → at ≡ heading now now.intake.place
      → record { intake = i; came = Frame end.intake.place frame; left = left } ≡ scan end.intake
      piece
      → (next, taken) ≡ take_frame rules at role frame
      → (record { end = x.0; role = next; stop = x.1 }, left) ≡ hear_next rules now role piece
  row_taken at i frame left next taken x row there scans e =
      ap (λ (y : NearEnd × Option Stop).
      (record { end = y.0; role = next; stop = y.1 }, left)) row
      ∙ ap (λ (t : Turn S). (t, left)) (row_turn (with_intake end i) next taken)
      ∙ frame_taken at i frame left next taken there scans e

  pub fault_taken : (at : Heading) (i : Intake) (left : List ℕ) (fault : HeadFault)
      → at ≡ heading now now.intake.place
      → record { intake = i; came = Fault end.intake.place fault; left = left } ≡ scan end.intake
      piece
      → (stops (with_intake end i) role (stop (BadFrame at.leg at.place fault)), left)
      ≡ hear_next rules now role piece
  unfolding take step
  fault_taken at i left fault there scans =
      as_now (stops (with_intake end i) role (stop (BadFrame at.leg at.place fault)), left)
      (ap (λ (x : Heading). (
        stops (with_intake end i) role (stop (BadFrame x.leg x.place fault)),
        left,
      ))
      (at_end at there)
      ∙ ap (take_scanned rules end role) scans)

  -- the turn that an overrun is
  abbrev pub turn_of : NearEnd × Option Stop × List ℕ → Turn S × List ℕ
  turn_of t = (record { end = t.0; role = role; stop = t.1 }, t.2)

  over_taken : (i : Intake) (beyond : List ℕ)
      → turn_of (overran (with_intake end i) beyond)
      ≡ take_scanned rules end role (scanned (overrun i beyond))
  unfolding take
  over_taken i [] = refl
  over_taken i (b ∷ bs) = refl

  pub overrun_taken : (t : NearEnd × Option Stop × List ℕ) (i : Intake) (beyond : List ℕ)
      → t ≡ overran (with_intake end i) beyond
      → scanned (overrun i beyond) ≡ scan end.intake piece
      → turn_of t ≡ hear_next rules now role piece
  unfolding step
  overrun_taken t i beyond e scans =
      as_now (turn_of t)
      (ap turn_of e ∙ over_taken i beyond ∙ ap (take_scanned rules end role) scans)
