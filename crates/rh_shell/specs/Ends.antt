-- what an end of a virtual connection does besides (profile)
use Rattle.std.specs.Prelude.{ℕ, List, Some, None, Ok, Err}
use Rattle.std.specs.declared.option.Option.{Option}
use Rattle.std.specs.declared.result.Result.{Result}
use Rattle.rh_line.specs.Lines as lines
use Rattle.rh_line.specs.Queue.{put_first}
use Rattle.rh_line.specs.declared.cause.Cause.{Cause}
use Rattle.rh_line.specs.declared.give_fault.GiveFault.{GiveFault}
use Rattle.rh_line.specs.declared.give_fault.GiveFault.TheVariants as give_fault
use Rattle.rh_line.specs.declared.line_take.LineTake.{LineTake}
use Rattle.rh_line.specs.declared.line_take.LineTake.TheVariants as line_take
use Rattle.rh_line.specs.declared.recycle_fault.RecycleFault.{RecycleFault}
use Rattle.rh_line.specs.declared.recycle_fault.RecycleFault.TheVariants as recycle_fault
use Rattle.rh_line.specs.declared.state.State.{State}
use Rattle.rh_line.specs.declared.state.State.TheVariants as state
use Rattle.rh_line.specs.declared.state.Take.{Take}
use Rattle.rh_line.specs.declared.state.Take.TheVariants as takes
use Rattle.rh_shell.specs.declared.course.Course.{Course}
use Rattle.rh_shell.specs.declared.course.Course.TheVariants.{Going, Closed, Refusing}
use Rattle.rh_shell.specs.declared.end_role.GiveRefused.{GiveRefused}
use Rattle.rh_shell.specs.declared.end_role.GiveRefused.TheVariants as give_refused
use Rattle.rh_shell.specs.declared.end_role.RecycleRefused.{RecycleRefused}
use Rattle.rh_shell.specs.declared.end_role.RecycleRefused.TheVariants as recycle_refused
use Rattle.rh_shell.specs.Rules.{Rules, Acts}
use Rattle.rh_shell.specs.Shells.{Shell, state_of}

-- the cause with which the node closed
abbrev pub cause_of : Course → Option Cause
cause_of Going = None
cause_of (Closed why) = Some why
cause_of (Refusing why leg rest) = Some why

abbrev pub with_role : {S : Type 0} → Shell S → S → Shell S
with_role s role = record s { role = role }

-- ---- a PDU is given

abbrev pub give_fault_of : GiveRefused → GiveFault
give_fault_of give_refused.Closing = give_fault.Closing
give_fault_of (give_refused.BadPdu fault) = give_fault.BadPdu fault
give_fault_of (give_refused.Full held len) = give_fault.Full held len

abbrev pub given_by : Result (Unit {0}) GiveRefused → Result (Unit {0}) GiveFault
given_by (Ok given) = Ok tt
given_by (Err refused) = Err (give_fault_of refused)

abbrev pub give_to : {S : Type 0} → Shell S → S × Result (Unit {0}) GiveRefused
    → Shell S × Result (Unit {0}) GiveFault
give_to s given = (with_role s given.0, given_by given.1)

abbrev pub give_where : {S : Type 0} → Acts S → Shell S → List ℕ → Option Cause
    → Shell S × Result (Unit {0}) GiveFault
give_where acts s pdu (Some why) = (s, Err (give_fault.Closed why))
give_where acts s pdu None = give_to s (acts.give s.role pdu)

abbrev pub give : {S : Type 0} → Acts S → Shell S → List ℕ → Shell S × Result (Unit {0}) GiveFault
give acts s pdu = give_where acts s pdu (cause_of s.course)

-- ---- the next PDU is taken

abbrev pub take_of : LineTake → Take
take_of (line_take.Pdu len) = takes.Pdu len
take_of line_take.Empty = takes.Empty
take_of line_take.Ended = takes.Ended

abbrev pub take_answer_where : {S : Type 0} → Acts S → Shell S → Option Cause → Take
take_answer_where acts s (Some why) = takes.Closed why
take_answer_where acts s None = take_of (lines.take_answer (acts.line s.role))

abbrev pub take_answer : {S : Type 0} → Acts S → Shell S → Take
take_answer acts s = take_answer_where acts s (cause_of s.course)

abbrev pub room_where : {S : Type 0} → Acts S → Shell S → List ℕ → Option Cause → List ℕ
room_where acts s room (Some why) = room
room_where acts s room None = put_first (acts.line s.role).current.pdus room

abbrev pub room_after_take : {S : Type 0} → Acts S → Shell S → List ℕ → List ℕ
room_after_take acts s room = room_where acts s room (cause_of s.course)

abbrev pub take_where : {S : Type 0} → Acts S → Shell S → Option Cause → Shell S
take_where acts s (Some why) = s
take_where acts s None = with_role s (acts.take s.role)

abbrev pub after_take : {S : Type 0} → Acts S → Shell S → Shell S
after_take acts s = take_where acts s (cause_of s.course)

-- ---- no PDU is given any more

abbrev pub close_where : {S : Type 0} → Acts S → Shell S → Option Cause → Shell S
close_where acts s (Some why) = s
close_where acts s None = with_role s (acts.close s.role)

abbrev pub close : {S : Type 0} → Acts S → Shell S → Shell S
close acts s = close_where acts s (cause_of s.course)

-- ---- the writing channel is replaced

abbrev pub recycle_fault_of : RecycleRefused → RecycleFault
recycle_fault_of (recycle_refused.Busy leg) = recycle_fault.Busy leg
recycle_fault_of recycle_refused.Last = recycle_fault.Last

abbrev pub recycled_by : Result (Unit {0}) RecycleRefused → Result (Unit {0}) RecycleFault
recycled_by (Ok accepted) = Ok tt
recycled_by (Err refused) = Err (recycle_fault_of refused)

abbrev pub recycle_to : {S : Type 0} → Shell S → S × Result (Unit {0}) RecycleRefused
    → Shell S × Result (Unit {0}) RecycleFault
recycle_to s recycled = (with_role s recycled.0, recycled_by recycled.1)

abbrev pub recycle_where : {S : Type 0} → Acts S → Shell S → State
    → Shell S × Result (Unit {0}) RecycleFault
recycle_where acts s state.Open = recycle_to s (acts.recycle s.role)
recycle_where acts s state.Opening = (s, Err recycle_fault.NotOpen)
recycle_where acts s state.Ended = (s, Err recycle_fault.NotOpen)
recycle_where acts s (state.Closed why) = (s, Err recycle_fault.NotOpen)

abbrev pub recycle : {S : Type 0} → Acts S → Rules S → Shell S
    → Shell S × Result (Unit {0}) RecycleFault
recycle acts rules s = recycle_where acts s (state_of rules s)
