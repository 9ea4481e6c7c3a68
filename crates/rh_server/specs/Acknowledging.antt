-- RPC PDUs and acknowledgements (MS-RPCH 3.2.1, 3.2.5)
use Rattle.std.specs.Prelude.{ℕ, ◌+◌, ◌==◌, ◌&&◌, List, Bool, true, false, not, if◌then◌else◌, nat_le, slice_get, slice_set, position, count_by, Some, None, Ok, Err}
use Rattle.std.specs.declared.option.Option.{Option}
use Rattle.std.specs.declared.result.Result.{Result}
use Rattle.rh_rts.specs.declared.command.Cookie.{Cookie}
use Rattle.rh_rts.specs.declared.command.TheConstants.{TO_CLIENT, TO_OUT_PROXY}
use Rattle.rh_sig.specs.declared.named.Named.{Named}
use Rattle.rh_sig.specs.declared.named.Named.TheVariants.{AckTo}
use Rattle.rh_line.specs.Lines.{after_admit, admit_verdict}
use Rattle.rh_line.specs.declared.leg.Leg.{Leg}
use Rattle.rh_line.specs.declared.leg.LegKind.TheVariants.{OutServer}
use Rattle.rh_line.specs.declared.line_fault.LineFault.{LineFault}
use Rattle.rh_line.specs.declared.line_fault.LineFault.TheVariants.{Window, Over}
use Rattle.rh_line.specs.declared.which.Which.{Which}
use Rattle.rh_line.specs.declared.which.Which.TheVariants.{Current, Next}
use Rattle.rh_shell.specs.declared.answers.Count.{Count}
use Rattle.rh_shell.specs.declared.answers.Refused.TheVariants as refused
use Rattle.rh_shell.specs.Rules.{Row}
use Rattle.rh_shell.specs.declared.due.Origin.TheVariants.{Forwarded}
use Rattle.rh_shell.specs.Waiting.{Waiting, count, takes, forwarded}
use Rattle.rh_shell.specs.declared.waiting.TheConstants.{FORWARDED_ROOM}
use Rattle.rh_server.specs.declared.state.OutLeg.{OutLeg}
use Rattle.rh_server.specs.States.{Server, is_open, same_cookie, out_at, out_place, out_cookie}
use Rattle.rh_server.specs.OutLines.{has, is_ack_of}
use Rattle.rh_server.specs.OutLegs.{acked}
use Rattle.rh_server.specs.Opening.{Done, took, refuse, unexpected, is_first}

-- ---- RPC PDUs

-- the channel of the line on which a leg's PDUs come: none once IN_R1/A6 came there
abbrev pub channel_at : Server → ℕ → Option Which
channel_at s number =
    if (number == s.current.leg) && not s.line.finished then Some Current
    else (if s.line.has_next && (number == s.next.leg) then Some Next else None)

abbrev pub admitted_by : Server → Which → List ℕ → Result (Unit {0}) LineFault → Done
admitted_by s which pdu (Ok admitted) =
    took (record s { line = after_admit s.line which pdu })
admitted_by s which pdu (Err (Window exceeded)) = refuse s (refused.Window exceeded)
admitted_by s which pdu (Err Over) = unexpected s

abbrev pub admitted_on : Server → List ℕ → Option Which → Done
admitted_on s pdu None = unexpected s
admitted_on s pdu (Some which) = admitted_by s which pdu (admit_verdict s.line which pdu)

-- an RPC PDU comes on the current or the next is leg of an open server, behind no IN_R1/A6 and no
-- END there
abbrev pub on_pdu : Server → ℕ → List ℕ → Done
on_pdu s number pdu =
    if is_open s.stage then admitted_on s pdu (channel_at s number) else unexpected s

-- ---- acknowledgements that are forwarded

-- an AckTo 3 waits for another leg than the writing one
abbrev pub has_ack_by : Waiting → Option Cookie → Bool
has_ack_by w None = false
has_ack_by w (Some cookie) = has (is_ack_of cookie) w

abbrev pub has_ack_elsewhere : Server → OutLeg → Bool
has_ack_elsewhere s leg = not (leg.number == s.writing) && has_ack_by s.waiting leg.cookie

abbrev pub elsewhere : Server → ℕ
elsewhere s = count_by (has_ack_elsewhere s) s.outs

-- as many packets that are to be forwarded as may wait for a leg wait for the writing one
abbrev pub is_full : Server → Bool
is_full s = nat_le (FORWARDED_ROOM + elsewhere s) (count Forwarded s.waiting.due)

abbrev pub out_server : ℕ → Leg
out_server number = record { kind = OutServer; number = number }

abbrev pub forward_by : Server → ℕ → Waiting × Bool → Done
forward_by s number (waiting, true) = took (record s { waiting = waiting })
forward_by s number (waiting, false) = refuse s (refused.Full (out_server number))

abbrev pub forwards : Server → ℕ → Named → Done
forwards s number packet = forward_by s number (forwarded s.waiting packet)

-- on the writing leg, where there is room or the packet is merged
abbrev pub forwards_writing : Server → Named → Done
forwards_writing s packet =
    if is_full s && not (has (takes packet) s.waiting)
    then refuse s (refused.Full (out_server s.writing))
    else forwards s s.writing packet

-- the os leg of that channel
abbrev pub is_of_channel : Cookie → Option Cookie → Bool
is_of_channel cookie None = false
is_of_channel cookie (Some channel) = same_cookie channel cookie

abbrev pub channel_place : Cookie → List OutLeg → Option ℕ
channel_place cookie legs = position (λ (leg : OutLeg). is_of_channel cookie leg.cookie) legs

abbrev pub number_by : Option OutLeg → Option ℕ
number_by None = None
number_by (Some leg) = Some leg.number

-- its number
abbrev pub channel_leg : Cookie → List OutLeg → Option ℕ
channel_leg cookie legs = number_by (out_at legs (channel_place cookie legs))

-- an AckTo 3 goes on the leg of its channel; where that is finished it is passed over
abbrev pub forwards_to : Server → Named → Option ℕ → Done
forwards_to s packet None = took s
forwards_to s packet (Some number) =
    if number == s.writing then forwards_writing s packet else forwards s number packet

-- AckTo comes on an is leg, not first, and is for the client or for an out proxy
abbrev pub on_ack_to : Server → Count → ℕ → ℕ → ℕ → Cookie → Done
on_ack_to s count destination received window cookie =
    if is_first count then unexpected s
    else (if destination == TO_CLIENT
    then forwards_writing s (AckTo TO_CLIENT received window cookie)
    else (if destination == TO_OUT_PROXY
    then forwards_to s (AckTo TO_OUT_PROXY received window cookie) (channel_leg cookie s.outs)
    else unexpected s))

-- ---- acknowledgements from an out proxy

abbrev pub acked_to : Server → ℕ → OutLeg × Row → Done
acked_to s place (leg, row) = (record s { outs = slice_set s.outs place leg }, row)

abbrev pub acked_at : Server → ℕ → ℕ → ℕ → Option OutLeg → Done
acked_at s place received window None = unexpected s
acked_at s place received window (Some leg) = acked_to s place (acked leg received window)

abbrev pub acked_in : Server → ℕ → ℕ → Option ℕ → Done
acked_in s received window None = unexpected s
acked_in s received window (Some place) =
    acked_at s place received window (slice_get s.outs place)

abbrev pub acked_cookie : Server → ℕ → ℕ → ℕ → Cookie → Option Cookie → Done
acked_cookie s number received window cookie None = unexpected s
acked_cookie s number received window cookie (Some channel) =
    if same_cookie channel cookie
    then acked_in s received window (out_place number s.outs)
    else refuse s (refused.Cookie channel cookie)

-- Ack comes on an os leg, not first, with the cookie of that leg's channel
abbrev pub on_ack : Server → ℕ → Count → ℕ → ℕ → Cookie → Done
on_ack s number count received window cookie =
    if is_first count then unexpected s
    else acked_cookie s number received window cookie (out_cookie number s.outs)

-- PingTraffic comes on an os leg, not first, and does nothing
abbrev pub on_ping_traffic : Server → Count → Done
on_ping_traffic s count = if is_first count then unexpected s else took s
