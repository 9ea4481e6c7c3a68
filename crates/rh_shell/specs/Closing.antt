-- what is behind a head or a greeting that came whole: for private contracts alone
use Rattle.std.specs.Prelude.{Bool, true, false, Some, None, Ok, Err}
use Rattle.std.specs.declared.option.Option.{Option}
use Rattle.std.specs.declared.result.Result.{Result}
use Rattle.rh_line.specs.declared.cause.Cause.TheVariants as cause
use Rattle.rh_shell.specs.declared.answers.HeadTaken.{HeadTaken}
use Rattle.rh_shell.specs.declared.stage.Stage.TheVariants as stage
use Rattle.rh_shell.specs.declared.stop.Stop.{Stop}
use Rattle.rh_shell.specs.NearEnds.{NearEnd}
use Rattle.rh_shell.specs.Hearing.{stop, stage_of, begun_body}

-- the end of a leg behind a head that was taken or refused, and why the node stops
abbrev pub after_head : NearEnd → Result HeadTaken Stop → NearEnd × Option Stop
after_head end (Ok taken) = (begun_body end (stage_of taken.behind) (Some taken.length), None)
after_head end (Err why) = (end, Some why)

-- the same behind a greeting that is right or not
abbrev pub after_greeting : NearEnd → Bool → NearEnd × Option Stop
after_greeting end true = (begun_body end stage.Frames None, None)
after_greeting end false = (end, Some (stop (cause.Unexpected end.leg 0)))
