-- what an out proxy puts: the next message of a leg (MS-RPCH 3.2; the order is this profile's)
use Rattle.std.specs.Prelude.{ℕ, ◌+◌, ◌&&◌, ◌++◌, List, [], ◌∷◌, length, nat_le, if◌then◌else◌, Some, None}
use Rattle.std.specs.declared.option.Option.{Option}
use Rattle.rh_rts.specs.declared.command.Cookie.{Cookie}
use Rattle.rh_http.specs.declared.lengths.TheConstants.{PING_ROOM}
use Rattle.rh_http.specs.Texts.{response_text, echo_length}
use Rattle.rh_sig.specs.declared.named.Named.{Named}
use Rattle.rh_sig.specs.declared.named.Named.TheVariants.{ConnA3, EndB2, OutR1A10, Ping}
use Rattle.rh_sig.specs.declared.named.Named.TheVariants as named
use Rattle.rh_window.specs.declared.recv_window.Ack.{Ack}
use Rattle.rh_window.specs.Sending.{may_send, after_sent}
use Rattle.rh_line.specs.declared.leg.Leg.{Leg}
use Rattle.rh_line.specs.declared.which.Which.TheVariants.{Current}
use Rattle.rh_line.specs.Lines.{is_empty, after_take, after_told}
use Rattle.rh_shell.specs.declared.due.Due.{Due}
use Rattle.rh_shell.specs.Rules.{Message, Text, Pdu, Packet}
use Rattle.rh_shell.specs.Waiting.{with_due}
use Rattle.rh_sig.specs.declared.lengths.TheConstants.{PING_LEN}
use Rattle.rh_outproxy.specs.declared.state.Answer.{Answer}
use Rattle.rh_outproxy.specs.declared.state.Answer.TheVariants as answers
use Rattle.rh_outproxy.specs.declared.state.Channel.{Channel}
use Rattle.rh_outproxy.specs.declared.state.Channel.TheVariants as channels
use Rattle.rh_outproxy.specs.declared.state.Mark.TheVariants as marks
use Rattle.rh_outproxy.specs.declared.state.Ping.TheVariants.{NotDue}
use Rattle.rh_outproxy.specs.declared.state.ServerLeg.TheVariants as servers
use Rattle.rh_outproxy.specs.OutProxy.{OutProxy, is_server_first, is_due, is_ping_due, joined}
use Rattle.rh_outproxy.specs.Rows.{is_co, is_os}
use Rattle.rh_outproxy.specs.Opening.{first_packet}
use Rattle.rh_outproxy.specs.Acknowledging.{ack_due}

-- the proxy behind a put, and what it put; or none may go
abbrev pub Pick : Type 0
Pick = Option (OutProxy × Message)

-- the first that may go
abbrev pub or_else : Pick → Pick → Pick
or_else None later = later
or_else (Some pick) later = Some pick

-- ---- to the client: the response and what goes first

-- the bytes of Pings, which are above the lifetime (profile)
abbrev pub ping_room : ℕ
ping_room = PING_ROOM

-- the Echo packet: the flag ECHO, and no command (MS-RPCH 2.2.3)
abbrev pub echo_packet : List ℕ
echo_packet =
    5 ∷ 0 ∷ 20 ∷ 3 ∷ 16 ∷ 0 ∷ 0 ∷ 0 ∷ 20 ∷ 0 ∷ 0 ∷ 0 ∷ 0 ∷ 0 ∷ 0 ∷ 0 ∷ 64 ∷ 0 ∷ 0 ∷ 0 ∷ []

-- the answer to an echo request (MS-RPCH 2.1.2)
abbrev pub echo_text : List ℕ
echo_text = response_text echo_length ++ echo_packet

-- the OUT response, whose length has room for Pings above the lifetime
abbrev pub out_response : OutProxy → List ℕ
out_response s = response_text (s.config.lifetime + ping_room)

-- CONN/A3 goes behind the response, where CONN/A1 came
abbrev pub behind_response : Channel → Answer
behind_response (channels.Successor connection predecessor cookie) = answers.Put
behind_response channel = answers.TimeoutDue

abbrev pub answer_by : Answer → OutProxy → Pick
answer_by answers.Awaited s = None
answer_by answers.EchoDue s = Some (record s { answer = answers.EchoPut }, Text echo_text)
answer_by answers.EchoPut s = None
answer_by answers.EchoDrawn s = None
answer_by answers.ResponseDue s =
    Some (record s { answer = behind_response s.channel }, Text (out_response s))
answer_by answers.TimeoutDue s =
    Some (record s { answer = answers.Put }, Packet (ConnA3 s.config.timeout))
answer_by answers.Put s = None

abbrev pub put_answer : OutProxy → Pick
put_answer s = answer_by s.answer s

-- ---- to the client: what is forwarded

abbrev pub waiting_by : OutProxy → List Due → Pick
waiting_by s [] = None
waiting_by s (due ∷ dues) =
    Some (record s { waiting = with_due s.waiting dues }, Packet due.packet)

abbrev pub put_waiting : OutProxy → Pick
put_waiting s = waiting_by s s.waiting.due

-- ---- to the client: RPC PDUs and marks

-- the first PDU that is held goes where the client's window allows it, and is released
abbrev pub pdu_by : OutProxy → List (List ℕ) → Pick
pdu_by s [] = None
pdu_by s (pdu ∷ pdus) =
    if may_send s.window (length pdu)
    then Some (
      record s { line = after_take s.line; window = after_sent s.window (length pdu) },
      Pdu pdu,
    )
    else None

abbrev pub put_pdu : OutProxy → Pick
put_pdu s = pdu_by s s.line.current.pdus

-- END/B2, and then A10, where no PDU is held
abbrev pub put_end : OutProxy → Pick
put_end s =
    if is_empty s.line.current.pdus && is_due s.end
    then Some (record s { end = marks.Put }, Packet EndB2)
    else None

abbrev pub put_handover : OutProxy → Pick
put_handover s =
    if is_empty s.line.current.pdus && is_due s.handover
    then Some (record s { handover = marks.Put }, Packet OutR1A10)
    else None

-- ---- to the client: Pings

-- a Ping goes within the bytes above the lifetime
abbrev pub put_ping : OutProxy → Pick
put_ping s =
    if is_ping_due s.ping && nat_le (s.pinged + PING_LEN) ping_room
    then Some (record s { ping = NotDue; pinged = s.pinged + PING_LEN }, Packet Ping)
    else None

abbrev pub put_mark : OutProxy → Pick
put_mark s = or_else (put_end s) (put_handover s)

abbrev pub next_co : OutProxy → Pick
next_co s =
    or_else (put_answer s) (or_else (put_waiting s)
    (or_else (put_pdu s) (or_else (put_mark s) (put_ping s))))

-- ---- to the server

abbrev pub first_by : OutProxy → Option Named → Pick
first_by s None = None
first_by s (Some packet) = Some (record s { server = servers.Up }, Packet packet)

abbrev pub put_first : OutProxy → Pick
put_first s =
    if is_server_first s.server then first_by s (first_packet s s.channel) else None

-- an acknowledgement that is due, with this channel's cookie
abbrev pub ack_by : OutProxy → Option Cookie → Option Ack → Pick
ack_by s None ack = None
ack_by s (Some cookie) None = None
ack_by s (Some cookie) (Some ack) = Some (
  record s { line = after_told s.line Current ack },
  Packet (named.Ack ack.received ack.available cookie),
)

abbrev pub put_ack : OutProxy → Pick
put_ack s = ack_by s (joined s.channel) (ack_due s)

abbrev pub next_os : OutProxy → Pick
next_os s = or_else (put_first s) (put_ack s)

-- ---- both

abbrev pub put : OutProxy → Leg → Pick
put s leg = if is_co s leg then next_co s else (if is_os s leg then next_os s else None)
