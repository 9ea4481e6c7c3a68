-- how an in proxy opens: its legs, the requests, the first packets, and the answer to an echo
-- request (MS-RPCH 2.1.2 and 3.2; several ci legs are this profile's)
use Rattle.std.specs.Prelude.{ℕ, ◌+◌, ◌-◌, ◌^◌, ◌==◌, ◌&&◌, ◌||◌, ◌++◌, List, [], ◌∷◌, codes, Bool, true, false, not, if◌then◌else◌, min, nat_le, replicate, Some, None, Ok, Err}
use Rattle.std.specs.declared.option.Option.{Option}
use Rattle.std.specs.declared.result.Result.{Result}
use Rattle.rh_rts.specs.declared.command.Cookie.{Cookie}
use Rattle.rh_rts.specs.declared.command.Address4or16.TheVariants.{V4}
use Rattle.rh_rts.specs.declared.packet.TheConstants.{ECHO}
use Rattle.rh_rts.specs.Packets.{packet_bytes, parts}
use Rattle.rh_http.specs.declared.fault.HttpFault.{HttpFault}
use Rattle.rh_http.specs.Texts.{head_of, status_line, field_line}
use Rattle.rh_http.specs.Heads.Verdicts.{Asked, request_verdict}
use Rattle.rh_window.specs.Sending.{unsent}
use Rattle.rh_sig.specs.declared.name.Pipe.{Pipe}
use Rattle.rh_sig.specs.declared.name.Pipe.TheVariants.{CiU, IsD}
use Rattle.rh_sig.specs.declared.named.Named.{Named}
use Rattle.rh_sig.specs.declared.named.Named.TheVariants.{ConnB2, InR1A2}
use Rattle.rh_sig.specs.declared.ranges.TheConstants.{DEFAULT_KEEPALIVE, PROTOCOL_VERSION}
use Rattle.rh_line.specs.declared.leg.Leg.{Leg}
use Rattle.rh_line.specs.declared.leg.LegKind.TheVariants.{ClientIn}
use Rattle.rh_shell.specs.declared.answers.Behind.TheVariants.{Frames, PassedOver}
use Rattle.rh_shell.specs.declared.answers.HeadRefused.{HeadRefused}
use Rattle.rh_shell.specs.declared.answers.HeadRefused.TheVariants.{Request}
use Rattle.rh_shell.specs.declared.answers.HeadTaken.{HeadTaken}
use Rattle.rh_shell.specs.declared.answers.Phase.{Phase}
use Rattle.rh_shell.specs.declared.answers.Phase.TheVariants as phase
use Rattle.rh_shell.specs.Rules.{Text, Packet}
use Rattle.rh_inproxy.specs.declared.opening.TheConstants.{ECHO_LENGTH, GREATEST_LENGTHS, KEEPALIVE}
use Rattle.rh_inproxy.specs.declared.state.ClientLeg.{ClientLeg}
use Rattle.rh_inproxy.specs.declared.state.Edge.{Edge}
use Rattle.rh_inproxy.specs.declared.state.Edge.TheVariants.{Unknown, Known}
use Rattle.rh_inproxy.specs.declared.state.Entry.{Entry}
use Rattle.rh_inproxy.specs.declared.state.Entry.TheVariants.{Connects, Replaces}
use Rattle.rh_inproxy.specs.declared.state.Opener.{Opener}
use Rattle.rh_inproxy.specs.declared.state.Opening.{Opening}
use Rattle.rh_inproxy.specs.declared.state.Opening.TheVariants.{AwaitsClient, AwaitsPacket, WantsServer, Announces, Announced}
use Rattle.rh_inproxy.specs.declared.state.Successor.{Successor}
use Rattle.rh_inproxy.specs.declared.state.Successor.TheVariants.{Absent, Up, Joined}
use Rattle.rh_inproxy.specs.declared.state.Work.{Work}
use Rattle.rh_inproxy.specs.declared.state.Work.TheVariants.{Done, EchoDue, EchoPut}
use Rattle.rh_inproxy.specs.Answers as row
use Rattle.rh_inproxy.specs.Answers.{Pick, taken, unexpected}
use Rattle.rh_inproxy.specs.State.{InProxy, is_server_leg, is_client_leg, has_come}

-- ---- how far it is

abbrev pub phase_by : Work → Opening → Phase
phase_by Done opening = phase.Ended
phase_by work (Announces opener) = phase.Open
phase_by work (Announced opener) = phase.Open
phase_by work opening = phase.Opening

-- it is open once the is leg is up
abbrev pub phase_of : InProxy → Phase
phase_of s = phase_by s.work s.opening

-- ---- legs

abbrev pub wants_server : Opening → Bool
wants_server (WantsServer opener) = true
wants_server opening = false

-- the is leg is wanted after the first packet on the first ci leg
abbrev pub wants : InProxy → Leg → Bool
wants s leg = is_server_leg s leg && wants_server s.opening

abbrev pub is_absent : Successor → Bool
is_absent Absent = true
is_absent successor = false

-- a later ci leg has the number behind the newest one; the newest one's channel is the current one;
-- the requests so far are within their bound; and no IN_R1/A6 is due or was put (profile)
abbrev pub accepts_later : InProxy → ℕ → Bool
accepts_later s number =
    (number == s.current.number + 1) && is_absent s.successor
    && nat_le s.lengths GREATEST_LENGTHS && not (has_come s.handover)

-- the first ci leg comes once, and a later one once the first packet came
abbrev pub accepts : InProxy → Opening → ℕ → Bool
accepts s AwaitsClient number = s.current.number == number
accepts s AwaitsPacket number = false
accepts s opening number = accepts_later s number

abbrev pub may_accept : InProxy → Leg → Bool
may_accept s leg = is_client_leg leg && accepts s s.opening leg.number

abbrev pub may_up : InProxy → Leg → Bool
may_up s leg = wants s leg || may_accept s leg

abbrev pub accepted : InProxy → Opening → ℕ → InProxy
accepted s AwaitsClient number = record s { opening = AwaitsPacket }
accepted s opening number = record s { successor = Up number; newest_lost = false }

abbrev pub connected : InProxy → Opening → InProxy
connected s (WantsServer opener) = record s { opening = Announces opener }
connected s opening = s

-- where the leg may not be up, nothing changes
abbrev pub up : InProxy → Leg → InProxy
up s leg =
    if may_accept s leg then accepted s s.opening leg.number
    else (if wants s leg then connected s s.opening else s)

abbrev pub newest_by : ClientLeg → Successor → ℕ
newest_by current Absent = current.number
newest_by current (Up number) = number
newest_by current (Joined leg stage) = leg.number

-- the number of the newest ci leg
abbrev pub newest : InProxy → ℕ
newest s = newest_by s.current s.successor

abbrev pub had_client : Opening → Bool
had_client AwaitsClient = false
had_client opening = true

abbrev pub has_server : Opening → Bool
has_server (Announces opener) = true
has_server (Announced opener) = true
has_server opening = false

abbrev pub was_up : InProxy → Leg → Bool
was_up s leg =
    (is_client_leg leg && had_client s.opening
    && nat_le s.config.number leg.number && nat_le leg.number (newest s))
    || (is_server_leg s leg && has_server s.opening)

-- packets come from the client on ci, and from the server on is
abbrev pub pipe : InProxy → Leg → Option Pipe
pipe s leg =
    if is_client_leg leg then Some CiU else (if is_server_leg s leg then Some IsD else None)

-- the client is told on the first ci leg that the server cannot be connected
abbrev pub answers_on : InProxy → Option Leg
answers_on s = Some (record { kind = ClientIn; number = s.config.number })

-- ---- requests

-- a Content-Length of 16 at most asks for an echo; the body is passed over
abbrev pub echo_asked : InProxy → ℕ → Asked → InProxy × Result HeadTaken HeadRefused
echo_asked s number asked = (
  record s { work = EchoDue number },
  Ok (record { behind = PassedOver; length = asked.length }),
)

-- the server that the first request names
abbrev pub target_by : Option (List ℕ × ℕ) → Asked → Option (List ℕ × ℕ)
target_by None asked = Some (asked.host, asked.port)
target_by (Some target) asked = Some target

abbrev pub added_to : ℕ → ℕ → ℕ
added_to lengths length = min (lengths + length) (2 ^ 64 - 1)

abbrev pub channel_asked : InProxy → Asked → InProxy × Result HeadTaken HeadRefused
channel_asked s asked = (
  record s { target = target_by s.target asked; lengths = added_to s.lengths asked.length },
  Ok (record { behind = Frames; length = asked.length }),
)

abbrev pub head_by : InProxy → ℕ → Result Asked HttpFault
    → InProxy × Result HeadTaken HeadRefused
head_by s number (Err fault) = (s, Err (Request fault))
head_by s number (Ok asked) =
    if nat_le asked.length ECHO_LENGTH then echo_asked s number asked else channel_asked s asked

-- an in proxy is asked by RPC_IN_DATA
abbrev pub head : InProxy → Leg → List ℕ → InProxy × Result HeadTaken HeadRefused
head s leg text = head_by s leg.number (request_verdict true text)

-- ---- the answer to an echo request (MS-RPCH 2.1.2)

-- the head of success, with the length of the packet behind it
abbrev pub echo_head : List ℕ
echo_head = head_of (
    status_line (codes "200") (codes "Success")
    ∷ field_line (codes "Content-Type", codes "application/rpc")
    ∷ field_line (codes "Content-Length", codes "20")
    ∷ []
    )

abbrev pub echo_packet : List ℕ
echo_packet = packet_bytes (parts ECHO [])

unfoldable pub echo_answer : List ℕ
echo_answer = echo_head ++ echo_packet

abbrev pub echo_by : InProxy → Work → ℕ → Pick
echo_by s (EchoDue asked_on) number =
    if asked_on == number then Some (record s { work = EchoPut asked_on }, Text echo_answer)
    else None
echo_by s work number = None

-- it is put on the ci leg that asked
abbrev pub put_echo : InProxy → ℕ → Pick
put_echo s number = echo_by s s.work number

abbrev pub drawn_by : InProxy → Work → ℕ → InProxy
drawn_by s (EchoPut asked_on) number =
    if asked_on == number then record s { work = Done } else s
drawn_by s work number = s

-- the work is done when it is drawn to its end
abbrev pub drawn : InProxy → Leg → InProxy
drawn s leg = if is_client_leg leg then drawn_by s s.work leg.number else s

-- ---- the first packet on the first ci leg

abbrev pub awaits_packet : Opening → Bool
awaits_packet AwaitsPacket = true
awaits_packet opening = false

-- the first packet on this ci leg is the first of all
abbrev pub is_first : InProxy → ℕ → Bool
is_first s number = awaits_packet s.opening && (s.current.number == number)

abbrev pub leg_of : ℕ → Cookie → ClientLeg
leg_of number cookie = record { number = number; cookie = cookie }

abbrev pub opened : InProxy → Opener → ℕ → row.Done
opened s opener keepalive = taken (record s {
  opening = WantsServer opener;
  current = leg_of s.current.number opener.channel;
  keepalive = keepalive;
})

-- 0 stands for the one agreed by default, in milliseconds (MS-RPCH 2.2.3.5; the number is this
-- profile's)
abbrev pub kept_for : ℕ → ℕ
kept_for keepalive = if keepalive == DEFAULT_KEEPALIVE then KEEPALIVE else keepalive

abbrev pub opener : Cookie → Cookie → Entry → Opener
opener connection channel entry =
    record { connection = connection; channel = channel; entry = entry }

-- CONN/B1 is first on the first ci leg
abbrev pub on_conn_b1 : InProxy → ℕ → Cookie → Cookie → ℕ → Cookie → row.Done
on_conn_b1 s number connection channel keepalive group =
    if is_first s number
    then opened s (opener connection channel (Connects group)) (kept_for keepalive)
    else unexpected s

-- so is IN_R1/A1 (profile)
abbrev pub on_first_in_r1_a1 : InProxy → Cookie → Cookie → Cookie → row.Done
on_first_in_r1_a1 s connection predecessor channel =
    opened s (opener connection channel (Replaces predecessor)) KEEPALIVE

-- ---- the first packet on is

abbrev pub announcement : InProxy → Opener → Entry → Named
announcement s o (Connects group) =
    ConnB2 PROTOCOL_VERSION o.connection o.channel s.config.window s.config.timeout group
    (V4 s.config.address) (replicate 12 0)
announcement s o (Replaces predecessor) =
    InR1A2 PROTOCOL_VERSION o.connection predecessor o.channel s.config.window s.config.timeout

abbrev pub first_by : InProxy → Opening → Pick
first_by s (Announces o) =
    Some (record s { opening = Announced o }, Packet (announcement s o o.entry))
first_by s opening = None

-- 1. CONN/B2 or IN_R1/A2, once the leg is up
abbrev pub put_first : InProxy → Pick
put_first s = first_by s s.opening

-- ---- the window of the server

abbrev pub is_unknown : Edge → Bool
is_unknown Unknown = true
is_unknown Known = false

-- what the first packet told, once it came
abbrev pub opener_of : Opening → Option Opener
opener_of (WantsServer o) = Some o
opener_of (Announces o) = Some o
opener_of (Announced o) = Some o
opener_of opening = None

abbrev pub connects : Entry → Bool
connects (Connects group) = true
connects (Replaces predecessor) = false

-- CONN/B1 was the first packet of all
abbrev pub is_connection : Option Opener → Bool
is_connection None = false
is_connection (Some o) = connects o.entry

-- IN_R1/A1 was
abbrev pub is_replacement : Option Opener → Bool
is_replacement None = false
is_replacement (Some o) = not (connects o.entry)

-- the edge is the window
abbrev pub with_edge : InProxy → ℕ → row.Done
with_edge s size = taken (record s { window = unsent size; edge = Known })

-- CONN/B3: CONN/B1 came, and no CONN/B3
abbrev pub on_conn_b3 : InProxy → ℕ → row.Done
on_conn_b3 s size =
    if is_connection (opener_of s.opening) && is_unknown s.edge then with_edge s size
    else unexpected s
