-- what a client puts: the next message of a leg (the order is this profile's)
use Rattle.std.specs.Prelude.{ℕ, ◌&&◌, Bool, true, false, not, if◌then◌else◌, Some, None}
use Rattle.std.specs.declared.option.Option.{Option}
use Rattle.rh_keep.specs.Meters.{may_put, fits}
use Rattle.rh_window.specs.Sending.{may_send}
use Rattle.rh_window.specs.declared.recv_window.Ack.{Ack}
use Rattle.rh_http.specs.Texts.{in_request, out_request}
use Rattle.rh_rts.specs.declared.command.TheConstants.{TO_OUT_PROXY, TO_SERVER}
use Rattle.rh_sig.specs.declared.named.Named.{Named}
use Rattle.rh_sig.specs.declared.named.Named.TheVariants as named
use Rattle.rh_sig.specs.declared.ranges.TheConstants.{PROTOCOL_VERSION}
use Rattle.rh_line.specs.Lines.{after_told, is_empty}
use Rattle.rh_line.specs.Queue.{behind, front_length}
use Rattle.rh_line.specs.declared.leg.Leg.{Leg}
use Rattle.rh_line.specs.declared.leg.LegKind.{LegKind}
use Rattle.rh_line.specs.declared.leg.LegKind.TheVariants.{ClientOut, OutServer, ClientIn, InServer}
use Rattle.rh_line.specs.declared.which.Which.{Which}
use Rattle.rh_line.specs.declared.which.Which.TheVariants.{Current, Next}
use Rattle.rh_shell.specs.declared.answers.Phase.TheVariants as phase
use Rattle.rh_shell.specs.Rules.{Message, Text, Pdu, Packet}
use Rattle.rh_shell.specs.NearEnds.{first_of}
use Rattle.rh_client.specs.declared.channels.InChannel.{InChannel}
use Rattle.rh_client.specs.declared.channels.OutChannel.{OutChannel}
use Rattle.rh_client.specs.declared.channels.Opening.{Opening}
use Rattle.rh_client.specs.declared.channels.Opening.TheVariants.{NotUp, Request, First, Second, Put}
use Rattle.rh_sig.specs.declared.lengths.TheConstants.{CONN_B1_LEN, IN_R1_A1_LEN, IN_R1_A5_LEN}
use Rattle.rh_sig.specs.declared.lengths.TheConstants.{OUT_R1_A7_LEN, END_A1_LEN, ACK_TO_LEN}
use Rattle.rh_sig.specs.declared.lengths.TheConstants.{PING_LEN}
use Rattle.rh_client.specs.declared.lengths.TheConstants.{CONN_A1_LEN, OUT_R1_A3_C1_LEN}
use Rattle.rh_client.specs.declared.replacement.Replacement.{Replacement}
use Rattle.rh_client.specs.declared.replacement.Replacement.TheVariants.{NoneUnderWay, In, Out}
use Rattle.rh_client.specs.declared.replacement.InStage.{InStage}
use Rattle.rh_client.specs.declared.replacement.InStage.TheVariants as in_stage
use Rattle.rh_client.specs.declared.replacement.OutStage.{OutStage}
use Rattle.rh_client.specs.declared.replacement.OutStage.TheVariants as out_stage
use Rattle.rh_client.specs.declared.replacement.Waits.{Waits}
use Rattle.rh_client.specs.declared.state.ClientRole.{ClientRole}
use Rattle.rh_client.specs.Channels.{metered, sent}
use Rattle.rh_client.specs.State.{is_open, is_writing, is_in_successor, is_current, is_out_successor, is_over}
use Rattle.rh_client.specs.Acknowledging.{ack_due, cookie_of}
use Rattle.rh_client.specs.InReplacement.{wished, handed_over}

-- a message that may go, and the client behind it
abbrev pub Pick : Type 0
Pick = Option (ClientRole × Message)

abbrev pub or_else : Pick → Pick → Pick
or_else None later = later
or_else (Some pick) later = Some pick

-- ---- 1. what a leg begins with (MS-RPCH 2.1.2, 2.2.4)

abbrev pub begun_in : InChannel → Opening → InChannel
begun_in c opening = record c { opening = opening }

abbrev pub begun_out : OutChannel → Opening → OutChannel
begun_out c opening = record c { opening = opening }

-- CONN/B1
abbrev pub conn_b1 : ClientRole → Named
conn_b1 s =
    named.ConnB1 PROTOCOL_VERSION s.config.connection s.writing.cookie s.config.lifetime
    s.config.keepalive s.config.group

unfoldable pub put_conn_b1 : ClientRole → Pick
put_conn_b1 s =
    if may_put s.writing.meter CONN_B1_LEN
    then Some (
      record s { writing = begun_in (metered s.writing CONN_B1_LEN) Put },
      Packet (conn_b1 s),
    )
    else None

-- IN_R1/A1
abbrev pub in_r1_a1 : ClientRole → Named
in_r1_a1 s =
    named.InR1A1 PROTOCOL_VERSION s.config.connection s.writing.cookie s.in_successor.cookie

unfoldable pub put_in_r1_a1 : ClientRole → Pick
put_in_r1_a1 s =
    if may_put s.in_successor.meter IN_R1_A1_LEN
    then Some (
      record s { in_successor = begun_in (metered s.in_successor IN_R1_A1_LEN) Put },
      Packet (in_r1_a1 s),
    )
    else None

-- CONN/A1
abbrev pub conn_a1 : ClientRole → Named
conn_a1 s =
    named.ConnA1 PROTOCOL_VERSION s.config.connection s.current.cookie s.config.window

-- OUT_R1/A3
abbrev pub out_r1_a3 : ClientRole → Named
out_r1_a3 s =
    named.OutR1A3 PROTOCOL_VERSION s.config.connection s.current.cookie s.out_successor.cookie
    s.config.window

-- on the current OUT channel: the request, then CONN/A1
unfoldable pub put_current : ClientRole → Opening → Pick
put_current s NotUp = None
put_current s Request =
    Some (record s { current = begun_out s.current First }, Text (out_request s.config CONN_A1_LEN))
put_current s First = Some (record s { current = begun_out s.current Put }, Packet (conn_a1 s))
put_current s Second = None
put_current s Put = None

-- on its successor: the request, then OUT_R1/A3 and OUT_R2/C1
unfoldable pub put_out_successor : ClientRole → Opening → Pick
put_out_successor s NotUp = None
put_out_successor s Request = Some (
  record s { out_successor = begun_out s.out_successor First },
  Text (out_request s.config OUT_R1_A3_C1_LEN),
)
put_out_successor s First = Some (
  record s { out_successor = begun_out s.out_successor Second },
  Packet (out_r1_a3 s),
)
put_out_successor s Second = Some (
  record s { out_successor = begun_out s.out_successor Put },
  Packet named.OutR2C1,
)
put_out_successor s Put = None

unfoldable pub put_out : ClientRole → ℕ → Pick
put_out s n =
    if is_current s n then put_current s s.current.opening
    else (if is_out_successor s n then put_out_successor s s.out_successor.opening else None)

-- ---- 2. what is due on the writing channel: a packet of the replacement under way, which has at
-- most one

-- IN_R1/A5: the predecessor's meter counts no more
abbrev pub put_in_r1_a5 : ClientRole → Bool → Pick
put_in_r1_a5 s out_waits =
    if fits s.writing.meter IN_R1_A5_LEN
    then Some (handed_over s out_waits, Packet (named.InR1A5 s.in_successor.cookie))
    else None

-- OUT_R1/A7, to the server
abbrev pub put_out_r1_a7 : ClientRole → Waits → Pick
put_out_r1_a7 s waiting =
    if fits s.writing.meter OUT_R1_A7_LEN
    then Some (
      record s {
        writing = metered s.writing OUT_R1_A7_LEN;
        replacement = Out out_stage.Switched waiting;
      },
      Packet (named.OutR1A7 TO_SERVER s.out_successor.cookie),
    )
    else None

abbrev pub in_due : ClientRole → Bool → InStage → Pick
in_due s out_waits in_stage.Asked = None
in_due s out_waits in_stage.Answered = put_in_r1_a5 s out_waits

abbrev pub out_due : ClientRole → Waits → OutStage → Pick
out_due s waiting out_stage.Asked = None
out_due s waiting out_stage.Answered = put_out_r1_a7 s waiting
out_due s waiting out_stage.Switched = None
out_due s waiting out_stage.Finished = None

abbrev pub due_by : ClientRole → Replacement → Pick
due_by s NoneUnderWay = None
due_by s (In stage out_waits) = in_due s out_waits stage
due_by s (Out stage waiting) = out_due s waiting stage

unfoldable pub put_due : ClientRole → Pick
put_due s = due_by s s.replacement

-- ---- 3. an acknowledgement, to the out proxy, of the lower channel first (MS-RPCH 3.2.1.1)

abbrev pub ack_by : ClientRole → Which → Option Ack → Pick
ack_by s which None = None
ack_by s which (Some ack) =
    if may_put s.writing.meter ACK_TO_LEN
    then Some (
      record s {
        line = after_told s.line which ack;
        writing = metered s.writing ACK_TO_LEN;
      },
      Packet (named.AckTo TO_OUT_PROXY ack.received ack.available (cookie_of s which)),
    )
    else None

unfoldable pub put_ack_of : ClientRole → Which → Pick
put_ack_of s which = ack_by s which (ack_due s which)

unfoldable pub put_ack : ClientRole → Pick
put_ack s = or_else (put_ack_of s Current) (put_ack_of s Next)

-- ---- 4. the front PDU, once the client is Open, where the window and the meter allow it

abbrev pub lets_pdu : ClientRole → ℕ → Bool
lets_pdu s len =
    is_open s.phase && (may_send s.writing.window len && may_put s.writing.meter len)

abbrev pub pdu_by : ClientRole → Option ℕ → Pick
pdu_by s None = None
pdu_by s (Some len) =
    if lets_pdu s len
    then Some (
      record s { queue = behind s.queue; writing = sent s.writing len },
      Pdu (first_of s.queue),
    )
    else None

unfoldable pub put_pdu : ClientRole → Pick
put_pdu s = pdu_by s (front_length s.queue)

-- ---- 5. END/A1, where no PDU will be given any more and none is left; once on each channel

abbrev pub is_end_due : ClientRole → Bool
is_end_due s =
    (is_open s.phase && s.is_closing) && (is_empty s.queue && not s.writing.is_end_put)

abbrev pub with_end_put : InChannel → InChannel
with_end_put c = record c { is_end_put = true }

unfoldable pub put_end : ClientRole → Pick
put_end s =
    if is_end_due s && fits s.writing.meter END_A1_LEN
    then Some (
      record s { writing = with_end_put (metered s.writing END_A1_LEN) },
      Packet named.EndA1,
    )
    else None

-- ---- 6. a Ping that is due (MS-RPCH 3.2.2.6)

abbrev pub without_ping : InChannel → InChannel
without_ping c = record c { is_ping_due = false }

unfoldable pub put_ping : ClientRole → Pick
put_ping s =
    if s.writing.is_ping_due && may_put s.writing.meter PING_LEN
    then Some (
      record s { writing = without_ping (metered s.writing PING_LEN) },
      Packet named.Ping,
    )
    else None

unfoldable pub put_successor_ping : ClientRole → Pick
put_successor_ping s =
    if s.in_successor.is_ping_due && may_put s.in_successor.meter PING_LEN
    then Some (
      record s { in_successor = without_ping (metered s.in_successor PING_LEN) },
      Packet named.Ping,
    )
    else None

-- ---- the next message

-- on the writing channel, behind what its leg begins with
unfoldable pub put_next : ClientRole → Pick
put_next s =
    or_else (put_due s)
    (or_else (put_ack s) (or_else (put_pdu s) (or_else (put_end s) (put_ping s))))

unfoldable pub put_writing : ClientRole → Opening → Pick
put_writing s NotUp = None
put_writing s Request =
    Some (record s { writing = begun_in s.writing First }, Text (in_request s.config))
put_writing s First = put_conn_b1 s
put_writing s Second = None
put_writing s Put = put_next s

-- on its successor there is nothing else but Pings
unfoldable pub put_in_successor : ClientRole → Opening → Pick
put_in_successor s NotUp = None
put_in_successor s Request =
    Some (record s { in_successor = begun_in s.in_successor First }, Text (in_request s.config))
put_in_successor s First = put_in_r1_a1 s
put_in_successor s Second = None
put_in_successor s Put = put_successor_ping s

unfoldable pub put_in : ClientRole → ℕ → Pick
put_in s n =
    if is_writing s n then put_writing s s.writing.opening
    else (if is_in_successor s n then put_in_successor s s.in_successor.opening else None)

-- ---- behind a put

-- the work may be done, and no wish is made; else the meter may want a successor
abbrev pub settled_or_wished : ClientRole → ClientRole
settled_or_wished s = if is_over s then record s { phase = phase.Ended } else wished s

abbrev pub settled_pick : Pick → Pick
settled_pick None = None
settled_pick (Some pick) = Some (settled_or_wished pick.0, pick.1)

unfoldable pub put_by : ClientRole → ℕ → LegKind → Pick
put_by s n ClientOut = put_out s n
put_by s n ClientIn = put_in s n
put_by s n OutServer = None
put_by s n InServer = None

abbrev pub put : ClientRole → Leg → Pick
put s leg = settled_pick (put_by s leg.number leg.kind)
