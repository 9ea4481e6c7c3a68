-- RPC PDUs that come, and acknowledgements (MS-RPCH 3.2.1.1, 3.2.1.5)
use Rattle.std.specs.Prelude.{ℕ, ◌==◌, ◌&&◌, List, Bool, false, not, if◌then◌else◌, Some, None, Ok, Err}
use Rattle.std.specs.declared.option.Option.{Option}
use Rattle.std.specs.declared.result.Result.{Result}
use Rattle.rh_rts.specs.declared.command.Cookie.{Cookie}
use Rattle.rh_rts.specs.declared.command.TheConstants.{TO_CLIENT}
use Rattle.rh_window.specs.Sending.{ack_verdict, after_acked}
use Rattle.rh_window.specs.declared.fault.BadAck.{BadAck}
use Rattle.rh_window.specs.declared.recv_window.Ack.{Ack}
use Rattle.rh_line.specs.Lines.{admit_verdict, after_admit, due}
use Rattle.rh_line.specs.declared.line_fault.LineFault.{LineFault}
use Rattle.rh_line.specs.declared.line_fault.LineFault.TheVariants as line_fault
use Rattle.rh_line.specs.declared.which.Which.{Which}
use Rattle.rh_line.specs.declared.which.Which.TheVariants.{Current, Next}
use Rattle.rh_shell.specs.declared.answers.Refused.TheVariants as refused
use Rattle.rh_shell.specs.Rules.{Row}
use Rattle.rh_client.specs.declared.channels.InChannel.{InChannel}
use Rattle.rh_client.specs.declared.replacement.Replacement.{Replacement}
use Rattle.rh_client.specs.declared.replacement.Replacement.TheVariants.{NoneUnderWay, In, Out}
use Rattle.rh_client.specs.declared.state.ClientRole.{ClientRole}
use Rattle.rh_client.specs.Channels.{is_named}
use Rattle.rh_client.specs.Replacements.{is_switched_stage, is_finished}
use Rattle.rh_client.specs.State.{Done, taken, unexpected, is_open, is_current, is_out_successor}

-- ---- RPC PDUs

-- OUT_R1/A7 was put, and the successor's channel is there
abbrev pub is_switched_by : Replacement → Bool
is_switched_by NoneUnderWay = false
is_switched_by (In stage out_waits) = false
is_switched_by (Out stage waiting) = is_switched_stage stage

abbrev pub is_switched : ClientRole → Bool
is_switched s = is_switched_by s.replacement && s.line.has_next

-- the channel on which a PDU may come: the current one, or the next one once OUT_R1/A7 was put
abbrev pub pdu_channel : ClientRole → ℕ → Option Which
pdu_channel s n =
    if not (is_open s.phase) then None
    else (if is_current s n then Some Current
    else (if is_switched s && is_out_successor s n then Some Next else None))

-- behind END a PDU is not expected; else the window decides
abbrev pub admit_row : Result (Unit {0}) LineFault → Row
admit_row (Ok admitted) = Ok tt
admit_row (Err line_fault.Over) = Err refused.Unexpected
admit_row (Err (line_fault.Window exceeded)) = Err (refused.Window exceeded)

abbrev pub pdu_on : ClientRole → List ℕ → Option Which → Done
pdu_on s pdu None = unexpected s
pdu_on s pdu (Some which) = (
  record s { line = after_admit s.line which pdu },
  admit_row (admit_verdict s.line which pdu),
)

-- an RPC PDU on an OUT channel is admitted
abbrev pub on_pdu : ClientRole → ℕ → List ℕ → Done
on_pdu s n pdu = pdu_on s pdu (pdu_channel s n)

-- ---- acknowledgements that come

abbrev pub acked : InChannel → ℕ → ℕ → InChannel
acked c received available = record c { window = after_acked c.window received available }

abbrev pub ack_row_by : Result (Unit {0}) BadAck → Row
ack_row_by (Ok acked) = Ok tt
ack_row_by (Err bad) = Err (refused.OutOfRange bad.command bad.value)

abbrev pub ack_row : InChannel → ℕ → ℕ → Row
ack_row c received available = ack_row_by (ack_verdict c.window received available)

-- it is of the channel of that cookie whose leg is unfinished; one of another is passed over
abbrev pub ack_named : ClientRole → ℕ → ℕ → Cookie → Done
ack_named s received available of =
    if is_named s.writing of
    then (
      record s { writing = acked s.writing received available },
      ack_row s.writing received available,
    )
    else (if is_named s.in_successor of
    then (
      record s { in_successor = acked s.in_successor received available },
      ack_row s.in_successor received available,
    )
    else (if is_named s.leaving of
    then (
      record s { leaving = acked s.leaving received available },
      ack_row s.leaving received available,
    )
    else taken s))

-- an acknowledgement for the client, which has the destination 0
abbrev pub on_ack_to : ClientRole → ℕ → ℕ → ℕ → Cookie → Done
on_ack_to s to received available of =
    if is_open s.phase && to == TO_CLIENT then ack_named s received available of else unexpected s

-- ---- acknowledgements that are due

-- none is due for a channel on which END or OUT_R1/A10 came
abbrev pub may_ack : ClientRole → Which → Bool
may_ack s Current = not s.line.current.ended && not (is_finished s.replacement)
may_ack s Next = s.line.has_next && not s.line.next.ended

abbrev pub ack_due : ClientRole → Which → Option Ack
ack_due s which = if may_ack s which then due s.line which else None

-- the cookie of an OUT channel
abbrev pub cookie_of : ClientRole → Which → Cookie
cookie_of s Current = s.current.cookie
cookie_of s Next = s.out_successor.cookie
