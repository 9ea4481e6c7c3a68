-- what a report tells of an end that closed (profile)
use Rattle.std.specs.Prelude.{◌≡◌, ◌++◌, List, ◌∷◌, Bool, true, false, IsTrue, Some, None, Err}
use Rattle.std.specs.declared.option.Option.{Option}
use Rattle.rh_text.specs.declared.ends.Side.{Side}
use Rattle.rh_text.specs.declared.ends.Side.TheVariants.{Client, Server}
use Rattle.rh_line.specs.declared.cause.Cause.{Cause}
use Rattle.rh_line.specs.declared.give_fault.GiveFault.TheVariants as give_fault
use Rattle.rh_line.specs.declared.state.State.TheVariants as state
use Rattle.rh_record.specs.declared.answer.Answer.{Answer}
use Rattle.rh_record.specs.declared.answer.Answer.TheVariants as answer
use Rattle.rh_record.specs.declared.answer.TakeAnswer.TheVariants as takes
use Rattle.law_node_history.specs.Closes.{IsOneOf}
use Rattle.law_world_reports.specs.Telling.{node_of}

-- ---- one answer

-- the same end
abbrev pub is_end : Side → Side → Bool
is_end Client Client = true
is_end Client Server = false
is_end Server Client = false
is_end Server Server = true

-- the answer to a give or a take at the end, or its last line; that it closed is told once
abbrev pub tells_of : Side → Answer → Bool
tells_of end (answer.Give at given) = is_end end at
tells_of end (answer.Take at taken) = is_end end at
tells_of end (answer.Last at state inbound outbound) = is_end end at
tells_of end one = false

-- the cause with which a node closed, where the answer names it
abbrev pub cause_told : Answer → Option Cause
cause_told (answer.Give at (Err (give_fault.Closed why))) = Some why
cause_told (answer.Take at (takes.Closed why)) = Some why
cause_told (answer.Last at (state.Closed why) inbound outbound) = Some why
cause_told (answer.NodeClosed node why) = Some why
cause_told one = None

-- ---- a report

-- each of the answers that is of the end names this cause
abbrev pub Names : Side → Cause → List Answer → Type 0
Names end why answers =
    (later : Answer) → IsOneOf later answers → IsTrue (tells_of end later)
    → cause_told later ≡ Some why

-- behind the report that an end closed, each answer of that end names the cause that was reported
abbrev pub NamesIt : List Answer → Type 0
NamesIt report =
    (end : Side) (front behind : List Answer) (why : Cause)
    → report ≡ front ++ answer.NodeClosed (node_of end) why ∷ behind → Names end why behind
