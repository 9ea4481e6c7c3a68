-- what a server puts: the next message of a leg (MS-RPCH 3.2.5; the order is this profile's)
use Rattle.std.specs.Prelude.{ℕ, ◌≡◌, ◌==◌, ◌&&◌, ◌||◌, List, Bool, true, false, not, if◌then◌else◌, nat_lt, slice_get, slice_set, IfSome, Some, None}
use Rattle.std.specs.declared.option.Option.{Option}
use Rattle.rh_rts.specs.declared.command.Cookie.{Cookie}
use Rattle.rh_rts.specs.declared.command.TheConstants.{TO_OUT_PROXY}
use Rattle.rh_sig.specs.declared.lengths.TheConstants.{ACK_TO_LEN, END_B1_LEN, OUT_R1_A9_LEN}
use Rattle.rh_sig.specs.declared.ranges.TheConstants.{PROTOCOL_VERSION}
use Rattle.rh_sig.specs.declared.named.Named.{Named}
use Rattle.rh_sig.specs.declared.named.Named.TheVariants as named
use Rattle.rh_window.specs.declared.recv_window.Ack.{Ack}
use Rattle.rh_line.specs.Lines.{after_tell, after_told, due}
use Rattle.rh_line.specs.Queue.{behind, front_length}
use Rattle.rh_line.specs.declared.leg.Leg.{Leg}
use Rattle.rh_line.specs.declared.leg.LegKind.{LegKind}
use Rattle.rh_line.specs.declared.leg.LegKind.TheVariants.{ClientOut, OutServer, ClientIn, InServer}
use Rattle.rh_line.specs.declared.which.Which.TheVariants.{Current}
use Rattle.rh_shell.specs.declared.due.Due.{Due}
use Rattle.rh_shell.specs.Hearing.{greeting as greeting_text}
use Rattle.rh_shell.specs.NearEnds.{first_of}
use Rattle.rh_shell.specs.Rules.{Message, Text, Pdu, Packet}
use Rattle.rh_shell.specs.Waiting.{Waiting, taken}
use Rattle.rh_server.specs.declared.state.Greeting.TheVariants.{Put}
use Rattle.rh_server.specs.declared.state.Edge.TheVariants.{Told}
use Rattle.rh_server.specs.declared.state.EndMark.TheVariants as end_mark
use Rattle.rh_server.specs.declared.state.Tells.{Tells}
use Rattle.rh_server.specs.declared.state.Tells.TheVariants as tells
use Rattle.rh_server.specs.declared.state.Leaving.{Leaving}
use Rattle.rh_server.specs.declared.state.Leaving.TheVariants as leaving
use Rattle.rh_server.specs.declared.state.InLeg.{InLeg}
use Rattle.rh_server.specs.declared.state.OutLeg.{OutLeg}
use Rattle.rh_server.specs.OutLines.{Gate, lets, lets_packet, length_of}
use Rattle.rh_server.specs.States.{Server, is_open, is_closing, is_put, is_due, is_shut, is_confirmed, is_nil, stays, in_leg, with_in, out_place, no_cookie}
use Rattle.rh_server.specs.OutLegs.{counted, may_go, went, may_end}
use Rattle.rh_server.specs.OutReplacement.{last_number, handed}
use Rattle.rh_server.specs.Ending.{settled}

-- a message that may go, and the state behind it
abbrev pub Pick : Type 0
Pick = Option (Server × Message)

abbrev pub or_else : Pick → Pick → Pick
or_else None later = later
or_else (Some pick) later = Some pick

-- ---- on an is leg

-- 1. the greeting
abbrev pub put_in_greeting : Server → InLeg → Pick
put_in_greeting s leg =
    if is_due leg.greeting
    then Some (with_in s (record leg { greeting = Put }), Text greeting_text)
    else None

-- 2. CONN/B3 once the server is open; IN_R1/B2 once the channel is current, whose window it tells
abbrev pub told_by : Server → ℕ → Server
told_by s number =
    if (number == s.current.leg) && is_shut s.edge
    then record s { line = after_tell s.line Current; edge = Told }
    else s

abbrev pub was_current : Server → InLeg → Bool
was_current s leg = (leg.number == s.current.leg) || not (stays leg.leaving)

abbrev pub put_tells_by : Server → InLeg → Tells → Pick
put_tells_by s leg tells.Nothing = None
put_tells_by s leg tells.ConnB3 =
    if is_open s.stage
    then Some (
      with_in s (record leg { tells = tells.Nothing }),
      Packet (named.ConnB3 s.line.size PROTOCOL_VERSION),
    )
    else None
put_tells_by s leg tells.InR1B2 =
    if was_current s leg
    then Some (
      with_in (told_by s leg.number) (record leg { tells = tells.Nothing }),
      Packet (named.InR1B2 s.line.size),
    )
    else None

abbrev pub put_tells : Server → InLeg → Pick
put_tells s leg = put_tells_by s leg leg.tells

-- 2. IN_R1/B1, behind which the leg is left
abbrev pub put_b1_by : Server → InLeg → Leaving → Pick
put_b1_by s leg leaving.Stays = None
put_b1_by s leg leaving.InR1B1 =
    Some (with_in s (record leg { leaving = leaving.Left }), Packet named.InR1B1)
put_b1_by s leg leaving.Left = None
put_b1_by s leg leaving.Lost = None

abbrev pub put_b1 : Server → InLeg → Pick
put_b1 s leg = put_b1_by s leg leg.leaving

-- 3. the acknowledgement of the current channel, behind no END and no IN_R1/A6; the window of a
-- next channel is shut
abbrev pub ack_due : Server → InLeg → Option Ack
ack_due s leg =
    if (leg.number == s.current.leg)
    && (not s.line.finished && not s.line.current.ended)
    then due s.line Current
    else None

abbrev pub put_ack_by : Server → Option Ack → Pick
put_ack_by s None = None
put_ack_by s (Some ack) = Some (
  record s { line = after_told s.line Current ack },
  Packet (named.Ack ack.received ack.available s.current.cookie),
)

abbrev pub put_ack : Server → InLeg → Pick
put_ack s leg = put_ack_by s (ack_due s leg)

abbrev pub next_in : Server → InLeg → Pick
next_in s leg =
    or_else (put_in_greeting s leg) (or_else (put_tells s leg)
    (or_else (put_b1 s leg) (put_ack s leg)))

abbrev pub put_in_by : Server → Option InLeg → Pick
put_in_by s None = None
put_in_by s (Some leg) = next_in s leg

abbrev pub put_in : Server → ℕ → Pick
put_in s number = put_in_by s (in_leg number s.ins)

-- ---- on an os leg, by its place

abbrev pub with_out : Server → ℕ → OutLeg → Server
with_out s place leg = record s { outs = slice_set s.outs place leg }

-- 1. the greeting
abbrev pub out_greeting_at : Server → ℕ → Option OutLeg → Pick
out_greeting_at s place None = None
out_greeting_at s place (Some leg) =
    if is_due leg.greeting
    then Some (with_out s place (record leg { greeting = Put }), Text greeting_text)
    else None

abbrev pub put_out_greeting : Server → ℕ → Pick
put_out_greeting s place = out_greeting_at s place (slice_get s.outs place)

-- 2. the packets that wait

abbrev pub cookie_or_none : Option Cookie → Cookie
cookie_or_none None = no_cookie
cookie_or_none (Some cookie) = cookie

-- OUT_R1/A8 came, and there is a number for the successor
abbrev pub may_succeed : Server → Bool
may_succeed s = is_confirmed s.replacement && nat_lt s.writing last_number

-- OUT_R1/A9 goes once OUT_R1/A8 came, and there is a number for the successor
abbrev pub gate : Server → OutLeg → Gate
gate s leg = record {
  cookie = cookie_or_none leg.cookie;
  meter = leg.meter;
  is_writing = leg.number == s.writing;
  hands_over = is_confirmed s.replacement && nat_lt s.writing last_number;
}

abbrev pub gate_at : Server → Option OutLeg → Option Gate
gate_at s None = None
gate_at s (Some leg) = Some (gate s leg)

abbrev pub counts_at : Server → ℕ → ℕ → Option OutLeg → Server
counts_at s place len None = s
counts_at s place len (Some leg) = with_out s place (counted leg len)

abbrev pub counts : Server → ℕ → ℕ → Server
counts s place len = counts_at s place len (slice_get s.outs place)

-- AckTo 3 is not counted; behind OUT_R1/A9 the successor is the writing channel
abbrev pub was_put : Server → ℕ → Named → Server
was_put s place (named.AckTo destination received window cookie) =
    if destination == TO_OUT_PROXY then s else counts s place ACK_TO_LEN
was_put s place named.OutR1A9 = handed (counts s place OUT_R1_A9_LEN)
was_put s place packet = counts s place (length_of packet)

-- it was let go by the leg's gate
abbrev pub WasLet : Server → ℕ → Named → Type 0
WasLet s place packet =
    IfSome (slice_get s.outs place) (λ leg. lets_packet (gate s leg) packet ≡ true)

abbrev pub waiting_by : Server → ℕ → Waiting × Option Due → Pick
waiting_by s place (waiting, None) = None
waiting_by s place (waiting, Some due) =
    Some (was_put (record s { waiting = waiting }) place due.packet, Packet due.packet)

abbrev pub waiting_at : Server → ℕ → Option Gate → Pick
waiting_at s place None = None
waiting_at s place (Some gate) = waiting_by s place (taken (lets gate) s.waiting)

abbrev pub put_waiting : Server → ℕ → Pick
put_waiting s place = waiting_at s place (gate_at s (slice_get s.outs place))

-- 4. the front RPC PDU, on the writing channel, where its window and its meter allow it
abbrev pub may_go_at : Server → ℕ → Option OutLeg → Bool
may_go_at s len None = false
may_go_at s len (Some leg) = may_go leg s.writing len

abbrev pub went_at : Server → ℕ → ℕ → Option OutLeg → List OutLeg
went_at s place len None = s.outs
went_at s place len (Some leg) = slice_set s.outs place (went leg len)

abbrev pub with_went : Server → ℕ → ℕ → Server
with_went s place len = record s { outs = went_at s place len (slice_get s.outs place) }

abbrev pub goes : Server → ℕ → ℕ → Server
goes s place len = record (with_went s place len) { queue = behind s.queue }

abbrev pub pdu_by : Server → ℕ → Option ℕ → Pick
pdu_by s place None = None
pdu_by s place (Some len) =
    if may_go_at s len (slice_get s.outs place)
    then Some (goes s place len, Pdu (first_of s.queue))
    else None

abbrev pub put_pdu : Server → ℕ → Pick
put_pdu s place = pdu_by s place (front_length s.queue)

-- 5. END/B1, once on the writing channel, where none is given any more and the queue is empty
abbrev pub may_end_at : Server → Option OutLeg → Bool
may_end_at s None = false
may_end_at s (Some leg) = may_end leg s.writing

abbrev pub is_end_due : Server → Bool
is_end_due s = is_closing s.giving && (not (is_put s.end_mark) && is_nil s.queue)

-- the leg's meter counts it
abbrev pub with_end_put : Server → ℕ → Server
with_end_put s place = record (counts s place END_B1_LEN) { end_mark = end_mark.Put }

abbrev pub put_end : Server → ℕ → Pick
put_end s place =
    if is_end_due s && may_end_at s (slice_get s.outs place)
    then Some (record (counts s place END_B1_LEN) { end_mark = end_mark.Put }, Packet named.EndB1)
    else None

abbrev pub put_pdu_or_end : Server → ℕ → Pick
put_pdu_or_end s place = or_else (put_pdu s place) (put_end s place)

abbrev pub next_out : Server → ℕ → Pick
next_out s place = or_else (put_waiting s place) (put_pdu_or_end s place)

abbrev pub settled_pick : Pick → Pick
settled_pick None = None
settled_pick (Some pick) = Some (settled pick.0, pick.1)

-- nothing is put before the server is open
abbrev pub put_open : Server → ℕ → Pick
put_open s place = if is_open s.stage then settled_pick (next_out s place) else None

abbrev pub put_out_place : Server → ℕ → Pick
put_out_place s place = or_else (put_out_greeting s place) (put_open s place)

abbrev pub put_out_at : Server → Option ℕ → Pick
put_out_at s None = None
put_out_at s (Some place) = put_out_place s place

abbrev pub put_out : Server → ℕ → Pick
put_out s number = put_out_at s (out_place number s.outs)

-- ---- on a leg

abbrev pub put_by : Server → ℕ → LegKind → Pick
put_by s number InServer = put_in s number
put_by s number OutServer = put_out s number
put_by s number ClientIn = None
put_by s number ClientOut = None

abbrev pub put : Server → Leg → Pick
put s leg = put_by s leg.number leg.kind
