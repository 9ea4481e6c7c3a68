-- the server by its rules (MS-RPCH 3.2.5)
use Rattle.std.specs.Prelude.{ℕ, List, [], false, Some, None, Err}
use Rattle.std.specs.declared.option.Option.{Option}
use Rattle.std.specs.declared.result.Result.{Result}
use Rattle.rh_sig.specs.declared.name.Pipe.{Pipe}
use Rattle.rh_sig.specs.declared.name.Pipe.TheVariants.{IsU, OsU}
use Rattle.rh_sig.specs.declared.named.Named.{Named}
use Rattle.rh_sig.specs.declared.named.Named.TheVariants as named
use Rattle.rh_line.specs.Lines.{first_line}
use Rattle.rh_line.specs.declared.leg.Leg.{Leg}
use Rattle.rh_line.specs.declared.leg.LegKind.{LegKind}
use Rattle.rh_line.specs.declared.leg.LegKind.TheVariants.{ClientOut, OutServer, ClientIn, InServer}
use Rattle.rh_shell.specs.declared.answers.Count.{Count}
use Rattle.rh_shell.specs.declared.answers.HeadRefused.{HeadRefused}
use Rattle.rh_shell.specs.declared.answers.HeadRefused.TheVariants.{Status}
use Rattle.rh_shell.specs.declared.answers.HeadTaken.{HeadTaken}
use Rattle.rh_shell.specs.declared.rooms.Rooms.{Rooms}
use Rattle.rh_shell.specs.Rules.{Rules, Acts}
use Rattle.rh_shell.specs.Shells.{Shell, begun}
use Rattle.rh_shell.specs.Waiting.{empty}
use Rattle.rh_server.specs.declared.server.TheConstants.{ROOMS}
use Rattle.rh_server.specs.declared.out_line.TheConstants.{LINE_ROOM}
use Rattle.rh_server.specs.declared.state.Stage.TheVariants.{Waits}
use Rattle.rh_server.specs.declared.state.Giving.TheVariants.{Going}
use Rattle.rh_server.specs.declared.state.EndMark.TheVariants.{Unput}
use Rattle.rh_server.specs.declared.state.Edge.TheVariants.{Told}
use Rattle.rh_server.specs.declared.state.Replacement.TheVariants.{Steady}
use Rattle.rh_server.specs.States.{Server, phase_of, no_cookie}
use Rattle.rh_server.specs.Opening.{Done, unexpected, may_up, was_up, up, on_conn_a2, on_conn_b2}
use Rattle.rh_server.specs.Acknowledging.{on_pdu, on_ack_to, on_ack, on_ping_traffic}
use Rattle.rh_server.specs.InReplacement.{take, on_in_r1_a2, on_in_r1_a6, on_in_r2_a2}
use Rattle.rh_server.specs.OutReplacement.{recycle, on_out_r1_a4, on_out_r1_a8}
use Rattle.rh_server.specs.Ending.{give, close, on_end_a2, is_done, drawn, only_marks, mark}
use Rattle.rh_server.specs.Time.{silence, ping_after, ping}
use Rattle.rh_server.specs.Putting.{put}

-- ---- the table

abbrev pub pipe_of : LegKind → Option Pipe
pipe_of InServer = Some IsU
pipe_of OutServer = Some OsU
pipe_of ClientIn = None
pipe_of ClientOut = None

-- the rows of an is leg
abbrev pub on_is : Server → ℕ → Count → Named → Done
on_is s number count (named.ConnB2 version connection cookie window timeout group address padding) =
    on_conn_b2 s number count connection cookie window timeout
on_is s number count (named.InR1A2 version connection predecessor successor window timeout) =
    on_in_r1_a2 s number count connection predecessor successor window timeout
on_is s number count (named.InR1A6 successor) = on_in_r1_a6 s number successor
on_is s number count (named.InR2A2 successor) = on_in_r2_a2 s number count successor
on_is s number count (named.AckTo destination received window cookie) =
    on_ack_to s count destination received window cookie
on_is s number count (named.OutR1A8 destination successor) =
    on_out_r1_a8 s count destination successor
on_is s number count named.EndA2 = on_end_a2 s number count
on_is s number count packet = unexpected s

-- the rows of an os leg
abbrev pub on_os : Server → ℕ → Count → Named → Done
on_os s number count (named.ConnA2 version connection cookie lifetime window) =
    on_conn_a2 s number count connection cookie lifetime window
on_os s number count
    (named.OutR1A4 version connection predecessor successor lifetime window timeout) =
    on_out_r1_a4 s number count connection predecessor successor lifetime window timeout
on_os s number count (named.Ack received window cookie) =
    on_ack s number count received window cookie
on_os s number count (named.PingTraffic bytes) = on_ping_traffic s count
on_os s number count packet = unexpected s

abbrev pub packet_by : Server → ℕ → Count → Named → LegKind → Done
packet_by s number count named InServer = on_is s number count named
packet_by s number count named OutServer = on_os s number count named
packet_by s number count named ClientIn = unexpected s
packet_by s number count named ClientOut = unexpected s

abbrev pub packet : Server → Leg → Count → Named → Done
packet s leg count named = packet_by s leg.number count named leg.kind

abbrev pub pdu_by : Server → ℕ → List ℕ → LegKind → Done
pdu_by s number bytes InServer = on_pdu s number bytes
pdu_by s number bytes OutServer = unexpected s
pdu_by s number bytes ClientIn = unexpected s
pdu_by s number bytes ClientOut = unexpected s

abbrev pub pdu : Server → Leg → Count → List ℕ → Done
pdu s leg count bytes = pdu_by s leg.number bytes leg.kind

-- no head comes to a server
abbrev pub head : Server → Leg → List ℕ → Server × Result HeadTaken HeadRefused
head s leg text = (s, Err (Status 0))

-- the server's rules
abbrev pub rules : Rules Server
rules = record {
  phase = λ s. phase_of s.stage;
  wants = λ s leg. false;
  may_up = may_up;
  was_up = was_up;
  up = up;
  pipe = λ s leg. pipe_of leg.kind;
  head = head;
  pdu = pdu;
  packet = packet;
  is_done = is_done;
  put = put;
  drawn = drawn;
  only_marks = only_marks;
  mark = mark;
  answers_on = λ s. None;
  silence = silence;
  ping_after = ping_after;
  ping = ping;
}

-- what it does as an end
abbrev pub acts : Acts Server
acts = record {
  give = give;
  line = λ s. s.line;
  take = take;
  close = close;
  recycle = recycle;
  channels = λ s. (s.current.number, s.writing);
}

-- ---- the first state

-- a server before its first legs are up, with a window of so many bytes for each IN channel
abbrev pub first : ℕ → Server
first window = record {
  stage = Waits;
  line = first_line window;
  current = record { leg = 1; number = 1; cookie = no_cookie };
  next = record { leg = 0; number = 0; cookie = no_cookie };
  edge = Told;
  newest = record { leg = 0; cookie = no_cookie };
  newest_in = 0;
  ins = [];
  queue = [];
  giving = Going;
  writing = 1;
  end_mark = Unput;
  replacement = Steady;
  waiting = empty LINE_ROOM;
  newest_out = 0;
  outs = [];
}

-- four legs of each kind
abbrev pub rooms : Rooms
rooms = ROOMS

abbrev pub new_server : ℕ → Shell Server
new_server window = begun (first window) rooms
