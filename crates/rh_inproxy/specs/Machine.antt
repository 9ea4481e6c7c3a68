-- an in proxy as a role of a node: its table and its rules (MS-RPCH 3.2)
use Rattle.std.specs.Prelude.{ℕ, List, if◌then◌else◌, Some, None}
use Rattle.std.specs.declared.option.Option.{Option}
use Rattle.rh_line.specs.declared.leg.Leg.{Leg}
use Rattle.rh_line.specs.declared.which.Which.{Which}
use Rattle.rh_sig.specs.declared.named.Named.{Named}
use Rattle.rh_sig.specs.declared.named.Named.TheVariants.{ConnB1, ConnB3, InR1A1, InR1A5, InR1B1, InR1B2, OutR1A7, EndA1, Ack, AckTo, KeepAlive}
use Rattle.rh_shell.specs.declared.answers.Count.{Count}
use Rattle.rh_shell.specs.declared.rooms.Rooms.{Rooms}
use Rattle.rh_shell.specs.Rules.{Rules}
use Rattle.rh_shell.specs.Shells.{Shell, begun}
use Rattle.rh_inproxy.specs.declared.in_proxy.TheConstants.{ROOMS}
use Rattle.rh_inproxy.specs.declared.state.InProxyConfig.{InProxyConfig}
use Rattle.rh_inproxy.specs.Acknowledging.{on_ack_to, on_ack}
use Rattle.rh_inproxy.specs.Answers.{Done, unexpected}
use Rattle.rh_inproxy.specs.Ending.{on_end_a1, is_done, only_marks, mark}
use Rattle.rh_inproxy.specs.InReplacement.{on_in_r1_a1, on_in_r1_a5, on_in_r1_b1, on_in_r1_b2}
use Rattle.rh_inproxy.specs.Opening.{phase_of, wants, may_up, was_up, up, pipe, head, drawn, answers_on, on_conn_b1, on_conn_b3}
use Rattle.rh_inproxy.specs.OutReplacement.{on_out_r1_a7}
use Rattle.rh_inproxy.specs.Passing.{on_pdu}
use Rattle.rh_inproxy.specs.Putting.{put}
use Rattle.rh_inproxy.specs.State.{InProxy, first, channel_of, is_client_leg, is_server_leg}
use Rattle.rh_inproxy.specs.Time.{on_keep_alive, silence, ping_after, ping}

-- ---- the table

-- behind the first packet of a ci leg
abbrev pub on_channel : InProxy → Which → Named → Done
on_channel s which (AckTo to received available channel) =
    on_ack_to s which to received available channel
on_channel s which (OutR1A7 to successor) = on_out_r1_a7 s which to successor
on_channel s which (KeepAlive keepalive) = on_keep_alive s which keepalive
on_channel s which EndA1 = on_end_a1 s which
on_channel s which (InR1A5 successor) = on_in_r1_a5 s which successor
on_channel s which packet = unexpected s

abbrev pub on_channel_by : InProxy → Option Which → Named → Done
on_channel_by s None packet = unexpected s
on_channel_by s (Some which) packet = on_channel s which packet

-- on the ci leg of this number
abbrev pub on_ci : InProxy → ℕ → Named → Done
on_ci s number (ConnB1 version connection channel lifetime keepalive group) =
    on_conn_b1 s number connection channel keepalive group
on_ci s number (InR1A1 version connection predecessor channel) =
    on_in_r1_a1 s number connection predecessor channel
on_ci s number packet = on_channel_by s (channel_of s number) packet

abbrev pub on_is : InProxy → Named → Done
on_is s (ConnB3 size version) = on_conn_b3 s size
on_is s (InR1B2 size) = on_in_r1_b2 s size
on_is s InR1B1 = on_in_r1_b1 s
on_is s (Ack received available channel) = on_ack s received available channel
on_is s packet = unexpected s

-- what came first on a leg is known by its stage, so that packets need no count
abbrev pub packet : InProxy → Leg → Count → Named → Done
packet s leg count named =
    if is_client_leg leg then on_ci s leg.number named
    else (if is_server_leg s leg then on_is s named else unexpected s)

abbrev pub pdu_by : InProxy → Option Which → List ℕ → Done
pdu_by s None bytes = unexpected s
pdu_by s (Some which) bytes = on_pdu s which bytes

abbrev pub pdu : InProxy → Leg → Count → List ℕ → Done
pdu s leg count bytes =
    if is_client_leg leg then pdu_by s (channel_of s leg.number) bytes else unexpected s

-- ---- the rules

abbrev pub rules : Rules InProxy
rules = record {
  phase = phase_of;
  wants = wants;
  may_up = may_up;
  was_up = was_up;
  up = λ s leg cookie. up s leg;
  pipe = pipe;
  head = head;
  pdu = pdu;
  packet = packet;
  is_done = is_done;
  put = put;
  drawn = drawn;
  only_marks = only_marks;
  mark = mark;
  answers_on = answers_on;
  silence = silence;
  ping_after = ping_after;
  ping = ping;
}

-- ---- the node

-- two ci legs may be unfinished, and one is leg
abbrev pub rooms : Rooms
rooms = ROOMS

abbrev pub first_node : InProxyConfig → Shell InProxy
first_node config = begun (first config) rooms
