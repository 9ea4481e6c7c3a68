-- a client, as a role and as an end (MS-RPCH 3.2.2)
use Rattle.std.specs.Prelude.{ℕ, ◌||◌, List, false, if◌then◌else◌, None}
use Rattle.rh_http.specs.declared.config.ClientConfig.{ClientConfig}
use Rattle.rh_sig.specs.declared.named.Named.{Named}
use Rattle.rh_sig.specs.declared.named.Named.TheVariants as named
use Rattle.rh_line.specs.declared.leg.Leg.{Leg}
use Rattle.rh_line.specs.declared.leg.LegKind.{LegKind}
use Rattle.rh_line.specs.declared.leg.LegKind.TheVariants.{ClientOut, OutServer, ClientIn, InServer}
use Rattle.rh_shell.specs.declared.answers.Count.{Count}
use Rattle.rh_shell.specs.declared.rooms.Rooms.{Rooms}
use Rattle.rh_shell.specs.Rules.{Rules, Acts}
use Rattle.rh_shell.specs.Shells.{Shell, begun}
use Rattle.rh_client.specs.declared.client.TheConstants.{ROOMS}
use Rattle.rh_client.specs.declared.state.ClientRole.{ClientRole}
use Rattle.rh_client.specs.State.{Done, first, unexpected, is_current, is_out_successor}
use Rattle.rh_client.specs.Opening.{wants, was_up, up, pipe_by, head, on_conn_a3, on_conn_c2}
use Rattle.rh_client.specs.Acknowledging.{on_pdu, on_ack_to}
use Rattle.rh_client.specs.InReplacement.{recycle, on_in_r1_a4, on_in_r2_a4}
use Rattle.rh_client.specs.OutReplacement.{on_out_r1_a2, on_out_r1_a6, on_out_r1_a10}
use Rattle.rh_client.specs.Ending.{give, close, take, on_end_b2, is_done, drawn}
use Rattle.rh_client.specs.Time.{silence, ping_after, ping}
use Rattle.rh_client.specs.Putting.{put}

-- ---- what comes

-- an RPC PDU comes on OUT channels alone
abbrev pub pdu_by : ClientRole → ℕ → List ℕ → LegKind → Done
pdu_by s n pdu ClientOut = on_pdu s n pdu
pdu_by s n pdu OutServer = unexpected s
pdu_by s n pdu ClientIn = unexpected s
pdu_by s n pdu InServer = unexpected s

abbrev pub pdu : ClientRole → Leg → Count → List ℕ → Done
pdu s leg count bytes = pdu_by s leg.number bytes leg.kind

-- the client's table, by packet
abbrev pub on_packet : ClientRole → ℕ → Count → Named → Done
on_packet s n count (named.ConnA3 timeout) = on_conn_a3 s n count timeout
on_packet s n count (named.ConnC2 version window timeout) = on_conn_c2 s n window timeout
on_packet s n count (named.AckTo to received available of) = on_ack_to s to received available of
on_packet s n count (named.InR1A4 to version window timeout) = on_in_r1_a4 s to window timeout
on_packet s n count (named.InR2A4 to) = on_in_r2_a4 s to
on_packet s n count (named.OutR1A2 to) = on_out_r1_a2 s n to
on_packet s n count (named.OutR1A6 to version timeout) = on_out_r1_a6 s n to timeout
on_packet s n count named.OutR1A10 = on_out_r1_a10 s n
on_packet s n count named.EndB2 = on_end_b2 s n
on_packet s n count packet = unexpected s

-- on a leg that is the current channel's or its successor's
abbrev pub packet_on : ClientRole → ℕ → Count → Named → Done
packet_on s n count packet =
    if is_current s n || is_out_successor s n then on_packet s n count packet else unexpected s

abbrev pub packet_by : ClientRole → ℕ → Count → Named → LegKind → Done
packet_by s n count packet ClientOut = packet_on s n count packet
packet_by s n count packet OutServer = unexpected s
packet_by s n count packet ClientIn = unexpected s
packet_by s n count packet InServer = unexpected s

abbrev pub packet : ClientRole → Leg → Count → Named → Done
packet s leg count named = packet_by s leg.number count named leg.kind

-- ---- the role

-- each leg of a client is wanted before it may be up; no leg may be lost before the end, and none
-- is refused by a head
abbrev pub rules : Rules ClientRole
rules = record {
  phase = λ s. s.phase;
  wants = wants;
  may_up = wants;
  was_up = was_up;
  up = up;
  pipe = λ s leg. pipe_by leg.kind;
  head = head;
  pdu = pdu;
  packet = packet;
  is_done = is_done;
  put = put;
  drawn = drawn;
  only_marks = λ s leg. false;
  mark = λ s leg. s;
  answers_on = λ s. None;
  silence = silence;
  ping_after = ping_after;
  ping = ping;
}

-- the IN channel on which it writes, and the OUT channel from which is taken
abbrev pub channels : ClientRole → ℕ × ℕ
channels s = (s.writing.number, s.current.number)

abbrev pub acts : Acts ClientRole
acts = record {
  give = give;
  line = λ s. s.line;
  take = take;
  close = close;
  recycle = recycle;
  channels = channels;
}

-- ---- the node

-- a channel and its successor may be unfinished in each direction
abbrev pub rooms : Rooms
rooms = ROOMS

abbrev pub first_client : ClientConfig → Shell ClientRole
first_client config = begun (first config) rooms
