-- what a node is told, and the cause with which that closes it (profile)
use Rattle.std.specs.Prelude.{Some, None}
use Rattle.std.specs.declared.option.Option.{Option}
use Rattle.rh_line.specs.declared.cause.Cause.{Cause}
use Rattle.rh_line.specs.declared.state.State.{State}
use Rattle.rh_line.specs.declared.state.State.TheVariants as state
use Rattle.rh_line.specs.declared.state.Verdict.{Verdict}
use Rattle.rh_line.specs.declared.state.Verdict.TheVariants as verdict
use Rattle.rh_shell.specs.Rules.{Rules}
use Rattle.rh_shell.specs.Shells as shell
use Rattle.rh_shell.specs.Shells.{Shell, state_of}
use Rattle.rh_company.specs.declared.event.Event.{Event}
use Rattle.rh_company.specs.declared.event.Event.TheVariants.{Comes, Ends, Breaks, Passes}

-- a verdict's cause
abbrev pub cause_in : Verdict → Option Cause
cause_in (verdict.Closed why) = Some why
cause_in verdict.Going = None
cause_in verdict.Ended = None

-- the cause of a node that closed now, and not before
abbrev pub closing : State → Verdict → Option Cause
closing (state.Closed why) now = None
closing state.Opening now = cause_in now
closing state.Open now = cause_in now
closing state.Ended now = cause_in now

-- what a node does
abbrev pub happens : {S : Type 0} → Rules S → Shell S → Event → Shell S × Verdict
happens rules node (Comes leg piece) = shell.bytes rules node leg piece
happens rules node (Ends leg) = shell.ended rules node leg
happens rules node (Breaks leg) = shell.broken rules node leg
happens rules node (Passes now) = shell.tick rules node now

abbrev pub told : {S : Type 0} → State → Shell S × Verdict → Shell S × Option Cause
told before did = (did.0, closing before did.1)

-- the node afterwards, and the cause with which that closed it
abbrev pub tell : {S : Type 0} → Rules S → Shell S → Event → Shell S × Option Cause
tell rules node event = told (state_of rules node) (happens rules node event)
