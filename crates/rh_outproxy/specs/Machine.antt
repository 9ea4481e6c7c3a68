-- an out proxy as a role (MS-RPCH 3.2)
use Rattle.std.specs.Prelude.{ℕ, List, if◌then◌else◌}
use Rattle.rh_sig.specs.declared.named.Named.{Named}
use Rattle.rh_sig.specs.declared.named.Named.TheVariants.{ConnA1, ConnC1, OutR1A3, OutR2C1, InR1A3, InR2A3, OutR1A1, OutR1A5, OutR1A9, EndB1, AckTo}
use Rattle.rh_line.specs.declared.leg.Leg.{Leg}
use Rattle.rh_shell.specs.declared.answers.Count.{Count}
use Rattle.rh_shell.specs.Rules.{Rules}
use Rattle.rh_outproxy.specs.OutProxy.{OutProxy, phase}
use Rattle.rh_outproxy.specs.Rows.{Done, is_co, is_os, unexpected}
use Rattle.rh_outproxy.specs.Opening.{wants, may_up, was_up, up, pipe, head, on_conn_a1, on_out_r1_a3, on_out_r2_c1, on_conn_c1}
use Rattle.rh_outproxy.specs.Acknowledging.{on_pdu, on_ack_to}
use Rattle.rh_outproxy.specs.InReplacement.{on_in_r1_a3, on_in_r2_a3}
use Rattle.rh_outproxy.specs.OutReplacement.{on_out_r1_a1, on_out_r1_a5, on_out_r1_a9}
use Rattle.rh_outproxy.specs.Ending.{on_end_b1, is_done, drawn, only_marks, mark, answers_on}
use Rattle.rh_outproxy.specs.Time.{silence, ping_after, ping}
use Rattle.rh_outproxy.specs.Putting.{put}

-- ---- the table (MS-RPCH 2.2.4; the packets of replacement and of the end are this profile's)

-- what comes from the client
abbrev pub on_co : OutProxy → Count → Named → Done
on_co s count (ConnA1 version connection cookie size) = on_conn_a1 s count connection cookie size
on_co s count (OutR1A3 version connection predecessor cookie size) =
    on_out_r1_a3 s count connection predecessor cookie size
on_co s count OutR2C1 = on_out_r2_c1 s count
on_co s count _ = unexpected s

-- what comes from the server
abbrev pub on_os : OutProxy → Named → Done
on_os s (ConnC1 version size timeout) = on_conn_c1 s version size timeout
on_os s (AckTo to received available of) = on_ack_to s to received available of
on_os s (InR1A3 to version size timeout) = on_in_r1_a3 s to version size timeout
on_os s (InR2A3 to) = on_in_r2_a3 s to
on_os s (OutR1A1 to) = on_out_r1_a1 s to
on_os s (OutR1A5 to version timeout) = on_out_r1_a5 s to version timeout
on_os s OutR1A9 = on_out_r1_a9 s
on_os s EndB1 = on_end_b1 s
on_os s _ = unexpected s

-- on any other leg nothing is expected
abbrev pub packet : OutProxy → Leg → Count → Named → Done
packet s leg count named =
    if is_co s leg then on_co s count named
    else (if is_os s leg then on_os s named else unexpected s)

-- RPC PDUs come from the server alone
abbrev pub pdu : OutProxy → Leg → Count → List ℕ → Done
pdu s leg count bytes = if is_os s leg then on_pdu s bytes else unexpected s

-- ---- the role

abbrev pub rules : Rules OutProxy
rules = record {
  phase = phase;
  wants = wants;
  may_up = may_up;
  was_up = was_up;
  up = up;
  pipe = pipe;
  head = head;
  pdu = pdu;
  packet = packet;
  is_done = is_done;
  put = put;
  drawn = drawn;
  only_marks = only_marks;
  mark = mark;
  answers_on = answers_on;
  silence = silence;
  ping_after = ping_after;
  ping = ping;
}
