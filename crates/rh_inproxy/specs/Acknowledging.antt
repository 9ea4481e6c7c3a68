-- acknowledgements: those that an in proxy forwards, takes and makes (MS-RPCH 3.2; when one is due,
-- and how many are forwarded, is this profile's)
use Rattle.std.specs.Prelude.{ℕ, ◌==◌, ◌&&◌, ◌||◌, Bool, true, false, not, if◌then◌else◌, Some, None, Ok, Err}
use Rattle.std.specs.declared.option.Option.{Option}
use Rattle.std.specs.declared.result.Result.{Result}
use Rattle.rh_rts.specs.declared.command.Cookie.{Cookie}
use Rattle.rh_rts.specs.declared.command.TheConstants.{TO_CLIENT, TO_OUT_PROXY}
use Rattle.rh_sig.specs.declared.named.Named.{Named}
use Rattle.rh_sig.specs.declared.named.Named.TheVariants.{AckTo}
use Rattle.rh_window.specs.declared.fault.BadAck.{BadAck}
use Rattle.rh_window.specs.declared.recv_window.Ack.{Ack}
use Rattle.rh_window.specs.Sending.{ack_verdict, after_acked}
use Rattle.rh_line.specs.Lines as line
use Rattle.rh_line.specs.declared.leg.Leg.{Leg}
use Rattle.rh_line.specs.declared.leg.LegKind.TheVariants.{InServer}
use Rattle.rh_line.specs.declared.which.Which.{Which}
use Rattle.rh_line.specs.declared.which.Which.TheVariants.{Current, Next}
use Rattle.rh_shell.specs.declared.answers.Refused.TheVariants as refused
use Rattle.rh_shell.specs.Rules.{Packet}
use Rattle.rh_shell.specs.Waiting as waiting
use Rattle.rh_inproxy.specs.declared.state.Opener.{Opener}
use Rattle.rh_inproxy.specs.declared.state.Successor.{Successor}
use Rattle.rh_inproxy.specs.declared.state.Successor.TheVariants.{Joined}
use Rattle.rh_inproxy.specs.Answers.{Done, Pick, or_else, taken, refuse, unexpected}
use Rattle.rh_inproxy.specs.Opening.{is_unknown, opener_of}
use Rattle.rh_inproxy.specs.State.{InProxy, has_a5, same_cookie}

-- ---- forwarding

abbrev pub server_leg : InProxy → Leg
server_leg s = record { kind = InServer; number = s.config.number }

abbrev pub forward_by : InProxy → waiting.Waiting × Bool → Done
forward_by s (w, true) = taken (record s { waiting = w })
forward_by s (w, false) = refuse (record s { waiting = w }) (refused.Full (server_leg s))

-- the packet waits for the is leg, where there is room
abbrev pub forwarded : InProxy → Named → Done
forwarded s packet = forward_by s (waiting.forwarded s.waiting packet)

-- AckTo 3 on a ci leg: no IN_R1/A5 came there
abbrev pub on_ack_to : InProxy → Which → ℕ → ℕ → ℕ → Cookie → Done
on_ack_to s which to received available channel =
    if not (has_a5 s which) && (to == TO_OUT_PROXY)
    then forwarded s (AckTo TO_OUT_PROXY received available channel)
    else unexpected s

-- ---- those of the server

abbrev pub acked_by : InProxy → Result (Unit {0}) BadAck → Done
acked_by s (Ok applied) = taken s
acked_by s (Err bad) = refuse s (refused.OutOfRange bad.command bad.value)

abbrev pub acked : InProxy → ℕ → ℕ → Done
acked s received available =
    acked_by (record s { window = after_acked s.window received available })
    (ack_verdict s.window received available)

abbrev pub ack_for : InProxy → Option Opener → ℕ → ℕ → Cookie → Done
ack_for s None received available channel = unexpected s
ack_for s (Some opener) received available channel =
    if same_cookie opener.channel channel then acked s received available
    else refuse s (refused.Cookie opener.channel channel)

-- Ack: CONN/B3 or IN_R1/B2 came; it names the channel with which the is leg was opened
abbrev pub on_ack : InProxy → ℕ → ℕ → Cookie → Done
on_ack s received available channel =
    if is_unknown s.edge then unexpected s
    else ack_for s (opener_of s.opening) received available channel

-- ---- its own

-- none is due for a channel on which END or IN_R1/A5 came
abbrev pub ack_due : InProxy → Which → Option Ack
ack_due s which =
    if (line.channel_of s.line which).ended || has_a5 s which then None
    else line.due s.line which

abbrev pub ack_by : InProxy → Which → Cookie → Option Ack → Pick
ack_by s which cookie None = None
ack_by s which cookie (Some ack) = Some (
  record s { line = line.after_told s.line which ack },
  Packet (AckTo TO_CLIENT ack.received ack.available cookie),
)

-- with the cookie of the channel
abbrev pub put_ack : InProxy → Which → Cookie → Pick
put_ack s which cookie = ack_by s which cookie (ack_due s which)

abbrev pub current_ack : InProxy → Pick
current_ack s = put_ack s Current s.current.cookie

abbrev pub next_ack : InProxy → Successor → Pick
next_ack s (Joined leg stage) = put_ack s Next leg.cookie
next_ack s successor = None

-- 3. the lower channel's first
abbrev pub put_acks : InProxy → Pick
put_acks s = or_else (current_ack s) (next_ack s s.successor)
