-- bytes come on a leg: what a role makes of them, byte by byte (MS-RPCH 3.2; the order of tries is
-- this profile's)
use Rattle.std.specs.Prelude.{ℕ, ◌==◌, ◌&&◌, ◌||◌, ◌+◌, List, [], ◌∷◌, codes, length, Bool, true, false, if◌then◌else◌, slice_index, Some, None, Ok, Err}
use Rattle.std.specs.Str.{bytes_eq}
use Rattle.std.specs.declared.option.Option.{Option}
use Rattle.std.specs.declared.result.Result.{Result}
use Rattle.rh_http.specs.Refusals.{refusal_of}
use Rattle.rh_pdu.specs.declared.header.TheConstants.{PTYPE_AT}
use Rattle.rh_pdu.specs.Header.{rts}
use Rattle.rh_sig.specs.declared.fault.SigFault.TheVariants as sig
use Rattle.rh_sig.specs.declared.name.Pipe.{Pipe}
use Rattle.rh_sig.specs.declared.name.Pipe.TheVariants.{CiU, IsU, CoU, OsU}
use Rattle.rh_sig.specs.declared.named.Named.{Named}
use Rattle.rh_sig.specs.declared.named.Named.TheVariants.{Ping}
use Rattle.rh_line.specs.declared.leg.Leg.{Leg}
use Rattle.rh_line.specs.declared.cause.Cause.{Cause}
use Rattle.rh_line.specs.declared.cause.Cause.TheVariants as cause
use Rattle.rh_shell.specs.declared.answers.Behind.{Behind}
use Rattle.rh_shell.specs.declared.answers.Behind.TheVariants as passed
use Rattle.rh_shell.specs.declared.answers.Count.{Count}
use Rattle.rh_shell.specs.declared.answers.Count.TheVariants as count
use Rattle.rh_shell.specs.declared.answers.HeadRefused.{HeadRefused}
use Rattle.rh_shell.specs.declared.answers.HeadRefused.TheVariants as head
use Rattle.rh_shell.specs.declared.answers.HeadTaken.{HeadTaken}
use Rattle.rh_shell.specs.declared.answers.Refused.{Refused}
use Rattle.rh_shell.specs.declared.answers.Refused.TheVariants as refused
use Rattle.rh_shell.specs.declared.heading.Heading.{Heading}
use Rattle.rh_shell.specs.declared.reading.PacketFault.{PacketFault}
use Rattle.rh_shell.specs.declared.reading.PacketFault.TheVariants as unread
use Rattle.rh_shell.specs.declared.stage.Stage.{Stage}
use Rattle.rh_shell.specs.declared.stage.Stage.TheVariants as stage
use Rattle.rh_shell.specs.declared.stop.Stop.{Stop}
use Rattle.rh_shell.specs.Intakes.{Intake, Came, Nothing, Head, Greeting, Frame, Fault, Over, Scanned, on_byte, scan, body_of}
use Rattle.rh_shell.specs.Readings.{packet_of}
use Rattle.rh_shell.specs.NearEnds.{NearEnd, is_over}
use Rattle.rh_shell.specs.Rules.{Rules, Row}

-- ---- heads

abbrev pub stop : Cause → Stop
stop why = record { cause = why; refusal = None }

-- a request that is at fault is refused by a head; the place of a fault is the end of the head
abbrev pub stop_head : Leg → ℕ → HeadRefused → Stop
stop_head leg place (head.Request fault) =
    record { cause = cause.BadHead leg place fault; refusal = Some (refusal_of fault) }
stop_head leg place (head.Response fault) = stop (cause.BadHead leg place fault)
stop_head leg place (head.Status status) = stop (cause.HttpRefused leg status)

abbrev pub head_row : {S : Type 0} → Leg → ℕ → S × Result HeadTaken HeadRefused
    → S × Result HeadTaken Stop
head_row leg place (role, Ok taken) = (role, Ok taken)
head_row leg place (role, Err why) = (role, Err (stop_head leg place why))

-- the role takes a head, or refuses it
abbrev pub take_head : {S : Type 0} → Rules S → Leg → S → List ℕ → S × Result HeadTaken Stop
take_head rules leg role text = head_row leg (length text) (rules.head role leg text)

-- ---- frames

abbrev pub cause_of : Leg → ℕ → Refused → Cause
cause_of leg place refused.Unexpected = cause.Unexpected leg place
cause_of leg place (refused.Cookie expected got) = cause.CookieMismatch leg expected got
cause_of leg place (refused.Window window) = cause.WindowExceeded leg window.reached window.edge
cause_of leg place (refused.OutOfRange command value) = cause.OutOfRange leg command value
cause_of leg place (refused.Full full) = cause.ControlFull full

abbrev pub cause_unread : Leg → ℕ → PacketFault → Cause
cause_unread leg place (unread.Rts fault) = cause.BadPacket leg place fault
cause_unread leg place (unread.Sig sig.Unknown) = cause.Unexpected leg place
cause_unread leg place (unread.Sig (sig.OutOfRange command value)) =
    cause.OutOfRange leg command value

abbrev pub row_by : Heading → Count → Row → Result Count Cause
row_by at next (Ok taken) = Ok next
row_by at next (Err why) = Err (cause_of at.leg at.place why)

-- a row takes a packet or PDU, and then so many packets came; or it refuses it
abbrev pub close_row : {S : Type 0} → Heading → Count → S × Row → S × Result Count Cause
close_row at next row = (row.0, row_by at next row.1)

abbrev pub one_more : Count → Count
one_more count.Zero = count.One
one_more count.One = count.More
one_more count.More = count.More

abbrev pub is_zero : Count → Bool
is_zero count.Zero = true
is_zero n = false

-- a pipe towards the server
abbrev pub is_upward : Option Pipe → Bool
is_upward (Some CiU) = true
is_upward (Some IsU) = true
is_upward (Some CoU) = true
is_upward (Some OsU) = true
is_upward pipe = false

abbrev pub is_ping : Named → Bool
is_ping Ping = true
is_ping named = false

-- towards the server a Ping comes behind the first packet; it does nothing
abbrev pub take_ping : Heading → Result Count Cause
take_ping at =
    if is_zero at.count && is_upward at.pipe
    then Err (cause.Unexpected at.leg at.place)
    else Ok at.count

abbrev pub take_named : {S : Type 0} → Rules S → Heading → S → Named → S × Result Count Cause
take_named rules at role named =
    if is_ping named
    then (role, take_ping at)
    else close_row at (one_more at.count) (rules.packet role at.leg at.count named)

abbrev pub take_packet : {S : Type 0} → Rules S → Heading → S → Result Named PacketFault
    → S × Result Count Cause
take_packet rules at role (Ok named) = take_named rules at role named
take_packet rules at role (Err fault) = (role, Err (cause_unread at.leg at.place fault))

-- a frame is a packet, or else an RPC PDU
unfoldable pub take_frame : {S : Type 0} → Rules S → Heading → S → List ℕ → S × Result Count Cause
take_frame rules at role frame =
    if slice_index frame PTYPE_AT == rts
    then take_packet rules at role (packet_of frame at.pipe)
    else close_row at at.count (rules.pdu role at.leg at.count frame)

-- ---- what became whole

-- a leg's end and the role, and why the node stops
pub record Turn (S : Type 0) : Type 0 where
  pub end : NearEnd
  pub role : S
  pub stop : Option Stop

abbrev pub goes : {S : Type 0} → NearEnd → S → Turn S
goes end role = record { end = end; role = role; stop = None }

abbrev pub stops : {S : Type 0} → NearEnd → S → Stop → Turn S
stops end role why = record { end = end; role = role; stop = Some why }

abbrev pub stage_of : Behind → Stage
stage_of passed.Frames = stage.Frames
stage_of passed.PassedOver = stage.PassedOver

abbrev pub begun_body : NearEnd → Stage → Option ℕ → NearEnd
begun_body end s length =
    record end { intake = record end.intake { stage = s; body = body_of length } }

abbrev pub behind_head : {S : Type 0} → NearEnd → S × Result HeadTaken Stop → Turn S
behind_head end (role, Ok taken) =
    goes (begun_body end (stage_of taken.behind) (Some taken.length)) role
behind_head end (role, Err why) = stops end role why

-- what a server says first on a leg
abbrev pub greeting : List ℕ
greeting = codes "ncacn_http/1.0"

abbrev pub is_greeting : List ℕ → Bool
is_greeting text = bytes_eq text greeting

abbrev pub take_greeting : {S : Type 0} → NearEnd → S → List ℕ → Turn S
take_greeting end role text =
    if is_greeting text
    then goes (begun_body end stage.Frames None) role
    else stops end role (stop (cause.Unexpected end.leg 0))

abbrev pub heading : NearEnd → ℕ → Heading
heading end place =
    record { leg = end.leg; pipe = end.pipe; place = place; count = end.count }

abbrev pub behind_frame : {S : Type 0} → NearEnd → S × Result Count Cause → Turn S
behind_frame end (role, Ok next) = goes (record end { count = next }) role
behind_frame end (role, Err why) = stops end role (stop why)

-- what became whole is taken
unfoldable pub take : {S : Type 0} → Rules S → NearEnd → S → Came → Turn S
take rules end role Nothing = goes end role
take rules end role (Head text) = behind_head end (take_head rules end.leg role text)
take rules end role (Greeting text) = take_greeting end role text
take rules end role (Frame place frame) =
    behind_frame end (take_frame rules (heading end place) role frame)
take rules end role (Fault place fault) =
    stops end role (stop (cause.BadFrame end.leg place fault))
take rules end role (Over length) =
    stops end role (stop (cause.BodyOver end.leg (length + 1) length))

-- ---- bytes

-- the end when bytes came just now
abbrev pub touched : NearEnd → ℕ → NearEnd
touched end now = record end { since = now }

abbrev pub with_intake : NearEnd → Intake → NearEnd
with_intake end intake = record end { intake = intake }

abbrev pub take_next : {S : Type 0} → Rules S → NearEnd → S → Intake × Came → Turn S
take_next rules end role next = take rules (with_intake end next.0) role next.1

-- a byte on a leg that is heard
abbrev pub heard : {S : Type 0} → Rules S → ℕ → NearEnd → S → ℕ → Turn S
heard rules now end role b = take_next rules (touched end now) role (on_byte end.intake b)

abbrev pub is_stopped : Option Stop → Bool
is_stopped None = false
is_stopped (Some why) = true

unfoldable pub hear_byte : {S : Type 0} → Rules S → ℕ → Turn S → ℕ → Turn S
hear_byte rules now t b =
    if is_stopped t.stop || is_over rules t.end t.role then t else heard rules now t.end t.role b

-- the bytes of a piece, one after the other
unfoldable pub hear : {S : Type 0} → Rules S → ℕ → Turn S → List ℕ → Turn S
hear rules now t [] = t
hear rules now t (b ∷ bs) = hear rules now (hear_byte rules now t b) bs

-- ---- the same, a piece at a time

abbrev pub take_scanned : {S : Type 0} → Rules S → NearEnd → S → Scanned → Turn S × List ℕ
take_scanned rules end role s = (take_next rules end role (s.intake, s.came), s.left)

-- bytes of a piece come up to what they first make whole, which is taken; some are left
abbrev pub hear_next : {S : Type 0} → Rules S → NearEnd → S → List ℕ → Turn S × List ℕ
hear_next rules end role piece = take_scanned rules end role (scan end.intake piece)
