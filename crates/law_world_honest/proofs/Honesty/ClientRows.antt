-- the rows of a client refuse a value out of range in an acknowledgement alone, and find no leg full
use Rattle.std.specs.Option.{is_some}
use Rattle.law_order.proofs.Vocabulary.{ℕ, Bool, true, false, List, ◌==◌, ◌&&◌, ◌||◌, not, nat_lt, Some, None, Ok, Err, Option, Result}
use Rattle.rh_sig.specs.declared.named.Named.TheVariants as named
use Rattle.rh_line.specs.declared.line_fault.LineFault.TheVariants as line_fault
use Rattle.rh_client.specs.declared.replacement.InStage.TheVariants as ins
use Rattle.rh_client.specs.declared.replacement.OutStage.TheVariants as outs
use Rattle.law_moves.proofs.Vocabulary.{BadAck, ack_verdict, Cookie, Named, LegKind, ClientOut, OutServer, ClientIn, InServer, LineFault, Which, admit_verdict, channel_of, Count, is_zero}
use Rattle.law_role_client.proofs.Vocabulary.{InStage, OutStage, Replacement, NoneUnderWay, In, Out, Waits, ClientRole, ack_row, ack_row_by, admit_row, on_ack_to, pdu_channel, pdu_on, InChannel, LAST_NUMBER, on_packet, packet_by, pdu_by, rules, end_channel, end_on, answer_at, answer_by, a10_at, a10_by, a2_by, a6_at, a6_by, is_current, is_open, is_opening, is_out_successor, unexpected, has_out, is_asked, is_named, is_put}
use Rattle.law_world_honest.proofs.Honesty.AckRows.{IsBadAck, IsPlain, PlainRow, fits, plain, verdict_is}
use Rattle.law_world_honest.specs.Honesty.Rows.{RefusesAcks}

no_row : (s : ClientRole) → PlainRow (unexpected s)
no_row s = record { is = tt }

-- ---- PDUs

admit_is : (r : Result (Unit {0}) LineFault) → IsPlain (admit_row r)
admit_is (Ok admitted) = tt
admit_is (Err line_fault.Over) = tt
admit_is (Err (line_fault.Window exceeded)) = tt

pdu_is : (s : ClientRole) (pdu : List ℕ) (o : Option Which) → PlainRow (pdu_on s pdu o)
pdu_is s pdu None = no_row s
pdu_is s pdu (Some which) = record { is = admit_is (admit_verdict s.line which pdu) }

pub any_pdu : (s : ClientRole) (n : ℕ) (pdu : List ℕ) (kind : LegKind)
    → PlainRow (pdu_by s n pdu kind)
any_pdu s n pdu ClientOut = pdu_is s pdu (pdu_channel s n)
any_pdu s n pdu OutServer = no_row s
any_pdu s n pdu ClientIn = no_row s
any_pdu s n pdu InServer = no_row s

-- ---- acknowledgements

ack_by : (r : Result (Unit {0}) BadAck) → IsBadAck r → IsPlain (ack_row_by r)
ack_by (Ok acked) is = tt
ack_by (Err bad) is = is

ack_is : (c : InChannel) (received available : ℕ) → IsPlain (ack_row c received available)
ack_is c received available =
    ack_by (ack_verdict c.window received available) (verdict_is c.window received available)

ack_to : (s : ClientRole) (to received available : ℕ) (of : Cookie)
    → PlainRow (on_ack_to s to received available of)
ack_to s to received available of =
    plain (is_open s.phase && (to == 0)) _ _
    (plain (is_named s.writing of) _ _ (record { is = ack_is s.writing received available })
    (plain (is_named s.in_successor of) _ _
    (record { is = ack_is s.in_successor received available })
    (plain (is_named s.leaving of) _ _ (record { is = ack_is s.leaving received available })
    (record { is = tt })))) (no_row s)

-- ---- replacements

answer_stage : (s : ClientRole) (out_waits : Bool) (window timeout : ℕ) (stage : InStage)
    → PlainRow (answer_at s out_waits window timeout stage)
answer_stage s out_waits window timeout ins.Asked =
    plain (is_put s.in_successor.opening) _ _ (record { is = tt }) (no_row s)
answer_stage s out_waits window timeout ins.Answered = no_row s

answer_is : (s : ClientRole) (window timeout : ℕ) (r : Replacement)
    → PlainRow (answer_by s window timeout r)
answer_is s window timeout NoneUnderWay = no_row s
answer_is s window timeout (In stage out_waits) = answer_stage s out_waits window timeout stage
answer_is s window timeout (Out stage waiting) = no_row s

a2_is : (s : ClientRole) (n : ℕ) (r : Replacement) → PlainRow (a2_by s n r)
a2_is s n NoneUnderWay = record { is = tt }
a2_is s n (In stage false) = record { is = tt }
a2_is s n (In stage true) = no_row s
a2_is s n (Out stage waiting) =
    plain (is_out_successor s n && not (has_out waiting)) _ _ (record { is = tt }) (no_row s)

a6_stage : (s : ClientRole) (waiting : Waits) (timeout : ℕ) (stage : OutStage)
    → PlainRow (a6_at s waiting timeout stage)
a6_stage s waiting timeout outs.Asked =
    plain (is_asked s.out_successor.opening) _ _ (record { is = tt }) (no_row s)
a6_stage s waiting timeout outs.Answered = no_row s
a6_stage s waiting timeout outs.Switched = no_row s
a6_stage s waiting timeout outs.Finished = no_row s

a6_is : (s : ClientRole) (timeout : ℕ) (r : Replacement) → PlainRow (a6_by s timeout r)
a6_is s timeout NoneUnderWay = no_row s
a6_is s timeout (In stage out_waits) = no_row s
a6_is s timeout (Out stage waiting) = a6_stage s waiting timeout stage

a10_stage : (s : ClientRole) (n : ℕ) (waiting : Waits) (stage : OutStage)
    → PlainRow (a10_at s n waiting stage)
a10_stage s n waiting outs.Asked = no_row s
a10_stage s n waiting outs.Answered = no_row s
a10_stage s n waiting outs.Switched =
    plain (s.line.has_next && is_current s n) _ _ (record { is = tt }) (no_row s)
a10_stage s n waiting outs.Finished = no_row s

a10_is : (s : ClientRole) (n : ℕ) (r : Replacement) → PlainRow (a10_by s n r)
a10_is s n NoneUnderWay = no_row s
a10_is s n (In stage out_waits) = no_row s
a10_is s n (Out stage waiting) = a10_stage s n waiting stage

end_is : (s : ClientRole) (o : Option Which) → PlainRow (end_on s o)
end_is s None = no_row s
end_is s (Some which) = plain (channel_of s.line which).ended _ _ (no_row s) (record { is = tt })

-- ---- the table

rows : (s : ClientRole) (n : ℕ) (count : Count) (packet : Named)
    → PlainRow (on_packet s n count packet)
rows s n count (named.ConnA3 timeout) =
    plain ((n == 1) && (is_current s n && is_zero count)) _ _ (record { is = tt }) (no_row s)
rows s n count (named.ConnC2 version window timeout) =
    plain (((n == 1) && is_current s n) && (is_opening s.phase && is_some s.current.timeout)) _ _
    (record { is = tt }) (no_row s)
rows s n count (named.AckTo to received available of) = ack_to s to received available of
rows s n count (named.InR1A4 to version window timeout) =
    plain (to == 0) _ _ (answer_is s window timeout s.replacement) (no_row s)
rows s n count (named.InR2A4 to) =
    plain (to == 0) _ _ (answer_is s s.writing.told s.writing.timeout s.replacement) (no_row s)
rows s n count (named.OutR1A2 to) =
    plain (is_open s.phase && ((to == 0) && nat_lt n LAST_NUMBER)) _ _ (a2_is s n s.replacement)
    (no_row s)
rows s n count (named.OutR1A6 to version timeout) =
    plain ((to == 0) && is_current s n) _ _ (a6_is s timeout s.replacement) (no_row s)
rows s n count named.OutR1A10 = a10_is s n s.replacement
rows s n count named.EndB2 = plain (is_open s.phase) _ _ (end_is s (end_channel s n)) (no_row s)
rows s n count packet = no_row s

pub any_packet : (s : ClientRole) (n : ℕ) (count : Count) (packet : Named) (kind : LegKind)
    → PlainRow (packet_by s n count packet kind)
any_packet s n count packet ClientOut =
    plain (is_current s n || is_out_successor s n) _ _ (rows s n count packet) (no_row s)
any_packet s n count packet OutServer = no_row s
any_packet s n count packet ClientIn = no_row s
any_packet s n count packet InServer = no_row s

pub client_rows : RefusesAcks rules
client_rows = record {
  packet = λ s leg count packet.
      let row = fits _ (any_packet s leg.number count packet leg.kind) in row.is;
  pdu = λ s leg count pdu. let row = fits _ (any_pdu s leg.number pdu leg.kind) in row.is;
}
