-- the bytes of a body as pieces, and what is behind a frame: for private contracts alone
use Rattle.std.specs.Prelude.{ℕ, ◌-◌, ◌+◌, List, [], ◌∷◌, min, Some, None, Ok, Err}
use Rattle.std.specs.declared.option.Option.{Option}
use Rattle.std.specs.declared.result.Result.{Result}
use Rattle.rh_line.specs.declared.cause.Cause.{Cause}
use Rattle.rh_line.specs.declared.cause.Cause.TheVariants as cause
use Rattle.rh_shell.specs.declared.answers.Count.{Count}
use Rattle.rh_shell.specs.declared.stage.Stage.{Stage}
use Rattle.rh_shell.specs.declared.stage.Stage.TheVariants as stage
use Rattle.rh_shell.specs.declared.stage.Body.{Body}
use Rattle.rh_shell.specs.declared.stop.Stop.{Stop}
use Rattle.rh_shell.specs.Intakes.{Intake, Came, Nothing, Over, length_told}
use Rattle.rh_shell.specs.NearEnds.{NearEnd}
use Rattle.rh_shell.specs.Hearing.{stop, with_intake}

-- the bytes behind a head or a greeting are read or passed over
abbrev pub ReadsBody : Stage → Type 0
ReadsBody stage.Frames = Unit {0}
ReadsBody stage.PassedOver = Unit {0}
ReadsBody s = ⊥

-- how many of so many bytes may come
abbrev pub room : ℕ → Option Body → ℕ
room n None = n
room n (Some body) = min n (body.length - body.came)

-- the first byte behind a body is one too many
abbrev pub overrun : Intake → List ℕ → Intake × Came × List ℕ
overrun i [] = (i, Nothing, [])
overrun i (b ∷ bs) = (record i { stage = stage.Shut }, Over (length_told i.body), bs)

-- the end of a leg behind it, why the node stops, and the bytes that are left
abbrev pub overran : NearEnd → List ℕ → NearEnd × Option Stop × List ℕ
overran end [] = (end, None, [])
overran end (b ∷ bs) = (
  with_intake end (record end.intake { stage = stage.Shut }),
  Some (
      stop (
      cause.BodyOver end.leg (length_told end.intake.body + 1) (length_told end.intake.body)
      )
      ),
  bs,
)

-- the end of a leg behind a row that took a frame or refused it, and why the node stops
abbrev pub after_row : NearEnd → Result Count Cause → NearEnd × Option Stop
after_row end (Ok next) = (record end { count = next }, None)
after_row end (Err why) = (end, Some (stop why))
