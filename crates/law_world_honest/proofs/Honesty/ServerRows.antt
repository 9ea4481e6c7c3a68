-- the rows of a server refuse a value out of range in an acknowledgement alone
use Rattle.law_order.proofs.Vocabulary.{ℕ, Bool, true, false, List, ◌==◌, ◌&&◌, not, nat_lt, Some, None, Ok, Err, slice_get, Option, Result}
use Rattle.rh_sig.specs.declared.named.Named.TheVariants as named
use Rattle.rh_line.specs.declared.line_fault.LineFault.TheVariants as line_fault
use Rattle.rh_server.specs.Servers.{pdu_by}
use Rattle.rh_server.specs.declared.out_line.Kind.TheVariants as kind
use Rattle.rh_server.specs.declared.state.InStage.TheVariants as ins
use Rattle.rh_server.specs.declared.state.Replacement.TheVariants as outs
use Rattle.rh_server.specs.declared.state.Stage.TheVariants as stage
use Rattle.law_moves.proofs.Vocabulary.{BadAck, ack_verdict, Cookie, Named, LegKind, ClientOut, OutServer, ClientIn, InServer, LineFault, Which, admit_verdict, Count, Waiting, forwarded, takes}
use Rattle.law_role_server.proofs.Vocabulary.{InLeg, InStage, OutLeg, Replacement, Stage, acked_at, acked_cookie, acked_in, admitted_by, admitted_on, channel_at, channel_leg, forward_by, forwards_to, forwards_writing, is_full, on_ack_to, end_a2_at, end_a2_on_leg, end_a2_waiting, is_over_on, has_fresh_below, in_r1_a2_at, in_r1_a2_by, in_r2_a2_on, conn_a2_at, conn_b2_at, is_first, unexpected, acked_by, answered_by, may_answer, out_r1_a4_at, out_r1_a4_by, out_r1_a8_at, on_is}
use Rattle.law_role_server.proofs.Vocabulary.{on_os, packet_by, rules, Server, in_leg, is_fresh, is_open, out_at, out_cookie, out_place, same_cookie, has, waits}
use Rattle.law_world_honest.proofs.Honesty.AckRows.{IsBadAck, IsPlain, PlainRow, RowFits, either, fits, plain, verdict_is}
use Rattle.law_world_honest.specs.Honesty.Rows.{RefusesAcks}

no_row : (s : Server) → PlainRow (unexpected s)
no_row s = record { is = tt }

none : (s : Server) → RowFits (unexpected s)
none s = record { is = tt }

-- ---- PDUs

verdict_row : (s : Server) (which : Which) (pdu : List ℕ) (r : Result (Unit {0}) LineFault)
    → PlainRow (admitted_by s which pdu r)
verdict_row s which pdu (Ok admitted) = record { is = tt }
verdict_row s which pdu (Err line_fault.Over) = record { is = tt }
verdict_row s which pdu (Err (line_fault.Window exceeded)) = record { is = tt }

pdu_is : (s : Server) (pdu : List ℕ) (o : Option Which) → PlainRow (admitted_on s pdu o)
pdu_is s pdu None = no_row s
pdu_is s pdu (Some which) = verdict_row s which pdu (admit_verdict s.line which pdu)

pub any_pdu : (s : Server) (n : ℕ) (pdu : List ℕ) (kind : LegKind) → PlainRow (pdu_by s n pdu kind)
any_pdu s n pdu InServer = plain (is_open s.stage) _ _ (pdu_is s pdu (channel_at s n)) (no_row s)
any_pdu s n pdu OutServer = no_row s
any_pdu s n pdu ClientIn = no_row s
any_pdu s n pdu ClientOut = no_row s

-- ---- forwarding

room_is : (s : Server) (n : ℕ) (x : Waiting × Bool) → RowFits (forward_by s n x)
room_is s n (waiting, true) = record { is = tt }
room_is s n (waiting, false) = record { is = tt }

writing_is : (s : Server) (packet : Named) → RowFits (forwards_writing s packet)
writing_is s packet =
    either (is_full s && not (has (takes packet) s.waiting)) _ _ (record { is = tt })
    (room_is s s.writing (forwarded s.waiting packet))

to_is : (s : Server) (packet : Named) (o : Option ℕ) → RowFits (forwards_to s packet o)
to_is s packet None = record { is = tt }
to_is s packet (Some n) =
    either (n == s.writing) _ _ (writing_is s packet) (room_is s n (forwarded s.waiting packet))

ack_to : (s : Server) (count : Count) (to received window : ℕ) (cookie : Cookie)
    → RowFits (on_ack_to s count to received window cookie)
ack_to s count to received window cookie =
    either (is_first count) _ _ (none s)
    (either (to == 0) _ _ (writing_is s (named.AckTo 0 received window cookie))
    (either (to == 3) _ _
    (to_is s (named.AckTo 3 received window cookie) (channel_leg cookie s.outs)) (none s)))

-- ---- acknowledgements

row_is : (r : Result (Unit {0}) BadAck) → IsBadAck r → IsPlain (acked_by r)
row_is (Ok acked) is = tt
row_is (Err bad) is = is

at_is : (s : Server) (place received window : ℕ) (o : Option OutLeg)
    → PlainRow (acked_at s place received window o)
at_is s place received window None = no_row s
at_is s place received window (Some leg) =
    record {
      is = row_is (ack_verdict leg.window received window)
          (verdict_is leg.window received window);
    }

place_is : (s : Server) (received window : ℕ) (o : Option ℕ)
    → PlainRow (acked_in s received window o)
place_is s received window None = no_row s
place_is s received window (Some place) =
    at_is s place received window (slice_get s.outs place)

ack_is : (s : Server) (n received window : ℕ) (cookie : Cookie) (o : Option Cookie)
    → PlainRow (acked_cookie s n received window cookie o)
ack_is s n received window cookie None = no_row s
ack_is s n received window cookie (Some channel) =
    plain (same_cookie channel cookie) _ _ (place_is s received window (out_place n s.outs))
    (record { is = tt })

-- ---- opening

b2_is : (s : Server) (at : Stage) (connection cookie : Cookie) (window timeout : ℕ)
    → RowFits (conn_b2_at s at connection cookie window timeout)
b2_is s stage.Waits connection cookie window timeout = record { is = tt }
b2_is s (stage.OutCame first) connection cookie window timeout =
    either (same_cookie first connection) _ _ (record { is = tt }) (record { is = tt })
b2_is s (stage.InCame first in_window in_timeout) connection cookie window timeout = none s
b2_is s (stage.Open first) connection cookie window timeout = none s
b2_is s stage.Ended connection cookie window timeout = none s

a2_is : (s : Server) (at : Stage) (connection cookie : Cookie) (lifetime window : ℕ)
    → PlainRow (conn_a2_at s at connection cookie lifetime window)
a2_is s stage.Waits connection cookie lifetime window = record { is = tt }
a2_is s (stage.InCame first in_window in_timeout) connection cookie lifetime window =
    plain (same_cookie first connection) _ _ (record { is = tt }) (record { is = tt })
a2_is s (stage.OutCame first) connection cookie lifetime window = no_row s
a2_is s (stage.Open first) connection cookie lifetime window = no_row s
a2_is s stage.Ended connection cookie lifetime window = no_row s

-- ---- replacements

in_a2_by : (s : Server) (first connection predecessor successor : Cookie) (window timeout : ℕ)
    (o : Option InLeg)
    → RowFits (in_r1_a2_by s first connection predecessor successor window timeout o)
in_a2_by s first connection predecessor successor window timeout None = none s
in_a2_by s first connection predecessor successor window timeout (Some leg) =
    either (not (is_fresh leg.stage)) _ _ (none s)
    (either (not (same_cookie first connection)) _ _ (record { is = tt })
    (either (not (same_cookie s.newest.cookie predecessor)) _ _ (record { is = tt })
    (record { is = tt })))

in_a2_is : (s : Server) (at : Stage) (n : ℕ) (connection predecessor successor : Cookie)
    (window timeout : ℕ)
    → RowFits (in_r1_a2_at s at n connection predecessor successor window timeout)
in_a2_is s (stage.Open first) n connection predecessor successor window timeout =
    in_a2_by s first connection predecessor successor window timeout (in_leg n s.ins)
in_a2_is s stage.Waits n connection predecessor successor window timeout = none s
in_a2_is s (stage.OutCame first) n connection predecessor successor window timeout = none s
in_a2_is s (stage.InCame first in_window in_timeout) n connection predecessor successor window
    timeout = none s
in_a2_is s stage.Ended n connection predecessor successor window timeout = none s

r2_is : (s : Server) (n : ℕ) (successor : Cookie) (o : Option Which)
    → RowFits (in_r2_a2_on s n successor o)
r2_is s n successor None = none s
r2_is s n successor (Some which) = record { is = tt }

answer_is : (s : Server) (successor : Cookie) (lifetime window timeout : ℕ) (place : Option ℕ)
    (leg : Option OutLeg)
    → PlainRow (answered_by s successor lifetime window timeout place leg)
answer_is s successor lifetime window timeout (Some place) (Some leg) = record { is = tt }
answer_is s successor lifetime window timeout (Some place) None = no_row s
answer_is s successor lifetime window timeout None (Some leg) = no_row s
answer_is s successor lifetime window timeout None None = no_row s

a4_by : (s : Server) (n : ℕ) (first connection predecessor successor : Cookie)
    (lifetime window timeout : ℕ) (o : Option Cookie)
    → PlainRow (out_r1_a4_by s n first connection predecessor successor lifetime window timeout o)
a4_by s n first connection predecessor successor lifetime window timeout None = no_row s
a4_by s n first connection predecessor successor lifetime window timeout (Some writing) =
    plain (not (same_cookie first connection)) _ _ (record { is = tt })
    (plain (not (same_cookie writing predecessor)) _ _ (record { is = tt })
    (answer_is s successor lifetime window timeout (out_place n s.outs)
    (out_at s.outs (out_place n s.outs))))

a4_is : (s : Server) (at : Stage) (n : ℕ) (connection predecessor successor : Cookie)
    (lifetime window timeout : ℕ)
    → PlainRow (out_r1_a4_at s at n connection predecessor successor lifetime window timeout)
a4_is s (stage.Open first) n connection predecessor successor lifetime window timeout =
    a4_by s n first connection predecessor successor lifetime window timeout
    (out_cookie s.writing s.outs)
a4_is s stage.Waits n connection predecessor successor lifetime window timeout = no_row s
a4_is s (stage.OutCame first) n connection predecessor successor lifetime window timeout =
    no_row s
a4_is s (stage.InCame first in_window in_timeout) n connection predecessor successor lifetime
    window timeout = no_row s
a4_is s stage.Ended n connection predecessor successor lifetime window timeout = no_row s

a8_is : (s : Server) (successor : Cookie) (r : Replacement) → RowFits (out_r1_a8_at s successor r)
a8_is s successor (outs.Answered cookie) =
    either (same_cookie cookie successor) _ _ (record { is = tt }) (record { is = tt })
a8_is s successor outs.Steady = none s
a8_is s successor outs.Asked = none s
a8_is s successor outs.Confirmed = none s

-- ---- the end

end_on_leg : (s : Server) (leg : InLeg) (at : InStage) → RowFits (end_a2_on_leg s leg at)
end_on_leg s leg ins.Fresh = none s
end_on_leg s leg ins.Opened = none s
end_on_leg s leg (ins.Waits window timeout ended) =
    either ended _ _ (none s) (record { is = tt })

end_waiting : (s : Server) (o : Option InLeg) → RowFits (end_a2_waiting s o)
end_waiting s None = none s
end_waiting s (Some leg) = end_on_leg s leg leg.stage

end_is : (s : Server) (n : ℕ) (o : Option Which) → RowFits (end_a2_at s n o)
end_is s n (Some which) = either (is_over_on s which) _ _ (none s) (record { is = tt })
end_is s n None = end_waiting s (in_leg n s.ins)

-- ---- the table

is_rows : (s : Server) (n : ℕ) (count : Count) (packet : Named) → RowFits (on_is s n count packet)
is_rows s n count
    (named.ConnB2 version connection cookie window timeout group address padding) =
    either (is_first count && ((n == 1) && not (waits kind.ConnC1 s.waiting))) _ _
    (b2_is s s.stage connection cookie window timeout) (none s)
is_rows s n count (named.InR1A2 version connection predecessor successor window timeout) =
    either (is_first count && not (has_fresh_below n s.ins)) _ _
    (in_a2_is s s.stage n connection predecessor successor window timeout) (none s)
is_rows s n count (named.InR1A6 successor) =
    either ((n == s.current.leg)
    && (not s.line.finished && (s.line.has_next && not (waits kind.InR1A3 s.waiting)))) _ _
    (either (same_cookie s.next.cookie successor) _ _ (record { is = tt }) (record { is = tt }))
    (none s)
is_rows s n count (named.InR2A2 successor) =
    either (not (is_first count)
    && (is_open s.stage
    && (not (waits kind.InR2A3 s.waiting) && nat_lt s.newest_in 4294967295))) _ _
    (r2_is s n successor (channel_at s n)) (none s)
is_rows s n count (named.AckTo to received window cookie) =
    ack_to s count to received window cookie
is_rows s n count (named.OutR1A8 to successor) =
    either (not (is_first count) && ((to == 2) && not (waits kind.OutR1 s.waiting))) _ _
    (a8_is s successor s.replacement) (none s)
is_rows s n count named.EndA2 = either (is_first count) _ _ (none s) (end_is s n (channel_at s n))
is_rows s n count packet = none s

pub os_rows : (s : Server) (n : ℕ) (count : Count) (packet : Named) → PlainRow (on_os s n count packet)
os_rows s n count (named.ConnA2 version connection cookie lifetime window) =
    plain (is_first count && ((n == 1) && not (waits kind.ConnC1 s.waiting))) _ _
    (a2_is s s.stage connection cookie lifetime window) (no_row s)
os_rows s n count
    (named.OutR1A4 version connection predecessor successor lifetime window timeout) =
    plain (may_answer s n count) _ _
    (a4_is s s.stage n connection predecessor successor lifetime window timeout)
    (no_row s)
os_rows s n count (named.Ack received window cookie) =
    plain (is_first count) _ _ (no_row s) (ack_is s n received window cookie (out_cookie n s.outs))
os_rows s n count (named.PingTraffic bytes) =
    plain (is_first count) _ _ (no_row s) (record { is = tt })
os_rows s n count packet = no_row s

any_packet : (s : Server) (n : ℕ) (count : Count) (packet : Named) (kind : LegKind)
    → RowFits (packet_by s n count packet kind)
any_packet s n count packet InServer = is_rows s n count packet
any_packet s n count packet OutServer = fits _ (os_rows s n count packet)
any_packet s n count packet ClientIn = none s
any_packet s n count packet ClientOut = none s

pub server_rows : RefusesAcks rules
server_rows = record {
  packet = λ s leg count packet. (any_packet s leg.number count packet leg.kind).is;
  pdu = λ s leg count pdu. let row = fits _ (any_pdu s leg.number pdu leg.kind) in row.is;
}
