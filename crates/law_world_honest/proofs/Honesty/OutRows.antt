-- the rows of an out proxy refuse a value out of range in an acknowledgement alone
use Rattle.law_order.proofs.Vocabulary.{ℕ, Bool, true, false, List, ◌==◌, ◌&&◌, Some, None, Ok, Err, Option, Result}
use Rattle.rh_sig.specs.declared.named.Named.TheVariants as named
use Rattle.rh_line.specs.declared.line_fault.LineFault.TheVariants as line_fault
use Rattle.rh_shell.specs.Waiting as waits
use Rattle.rh_outproxy.specs.Acknowledging.{ack_by}
use Rattle.rh_outproxy.specs.declared.state.Channel.TheVariants as channels
use Rattle.law_moves.proofs.Vocabulary.{BadAck, ack_verdict, Cookie, TO_OUT_PROXY, Named, Leg, LineFault, Current, admit_verdict, Count, Waiting}
use Rattle.law_role_outproxy.proofs.Vocabulary.{Channel, ack_row, line_row, on_ack_to, on_pdu, on_co, on_os, rules, conn_c1_by, new_length, successor_length, told_length, OutProxy, is_client_marked, is_successor, joined, forwarded, forwarded_by, is_carrying, is_co, is_first, is_os, is_second, passed_on, same_cookie, takes_pdus, unexpected}
use Rattle.law_world_honest.proofs.Honesty.AckRows.{IsBadAck, IsPlain, PlainRow, RowFits, either, fits, plain, verdict_is}
use Rattle.law_world_honest.specs.Honesty.Rows.{IsOfAck, RefusesAcks}

pub no_row : (s : OutProxy) → PlainRow (unexpected s)
no_row s = record { is = tt }

none : (s : OutProxy) → RowFits (unexpected s)
none s = record { is = tt }

line_is : (r : Result (Unit {0}) LineFault) → IsPlain (line_row r)
line_is (Ok admitted) = tt
line_is (Err line_fault.Over) = tt
line_is (Err (line_fault.Window exceeded)) = tt

pdu_is : (s : OutProxy) (pdu : List ℕ) → PlainRow (on_pdu s pdu)
pdu_is s pdu =
    plain (takes_pdus s) _ _ (record { is = line_is (admit_verdict s.line Current pdu) })
    (no_row s)

-- ---- forwarding

room_is : (s : OutProxy) (x : Waiting × Bool) → RowFits (forwarded_by s x)
room_is s (waiting, true) = record { is = tt }
room_is s (waiting, false) = record { is = tt }

forward_is : (s : OutProxy) (packet : Named) → RowFits (forwarded s packet)
forward_is s packet =
    either (is_client_marked s.client) _ _ (record { is = tt })
    (room_is s (waits.forwarded s.waiting packet))

passed_is : (s : OutProxy) (to : ℕ) (packet : Named) → RowFits (passed_on s to packet)
passed_is s to packet = either (is_carrying s && (to == 0)) _ _ (forward_is s packet) (none s)

c1_is : (c : Channel) (s : OutProxy) (version size timeout : ℕ)
    → RowFits (conn_c1_by c s version size timeout)
c1_is channels.Unknown s version size timeout = none s
c1_is (channels.New connection cookie) s version size timeout =
    forward_is (record s { channel = channels.Joined connection cookie })
    (named.ConnC2 version size timeout)
c1_is (channels.Joined connection cookie) s version size timeout = none s
c1_is (channels.Successor connection predecessor cookie) s version size timeout = none s

-- ---- acknowledgements

row_is : (r : Result (Unit {0}) BadAck) → IsBadAck r → IsOfAck (ack_row r)
row_is (Ok acked) is = tt
row_is (Err bad) is = is

ack_is : (o : Option Cookie) (s : OutProxy) (received available : ℕ) (of : Cookie)
    → RowFits (ack_by o s received available of)
ack_is None s received available of = none s
ack_is (Some cookie) s received available of =
    either (same_cookie cookie of) _ _ (record {
      is = row_is (ack_verdict s.window received available)
          (verdict_is s.window received available);
    }) (record { is = tt })

ack_to : (s : OutProxy) (to received available : ℕ) (of : Cookie)
    → RowFits (on_ack_to s to received available of)
ack_to s to received available of =
    either (to == TO_OUT_PROXY) _ _ (ack_is (joined s.channel) s received available of)
    (passed_is s to (named.AckTo 0 received available of))

-- ---- the table

pub co_rows : (s : OutProxy) (count : Count) (packet : Named) → PlainRow (on_co s count packet)
co_rows s count (named.ConnA1 version connection cookie size) =
    plain (is_first count && told_length s.request new_length) _ _ (record { is = tt }) (no_row s)
co_rows s count (named.OutR1A3 version connection predecessor cookie size) =
    plain (is_first count && told_length s.request successor_length) _ _ (record { is = tt })
    (no_row s)
co_rows s count named.OutR2C1 =
    plain (is_second count && is_successor s.channel) _ _ (record { is = tt }) (no_row s)
co_rows s count packet = no_row s

os_rows : (s : OutProxy) (packet : Named) → RowFits (on_os s packet)
os_rows s (named.ConnC1 version size timeout) = c1_is s.channel s version size timeout
os_rows s (named.AckTo to received available of) = ack_to s to received available of
os_rows s (named.InR1A3 to version size timeout) =
    passed_is s to (named.InR1A4 0 version size timeout)
os_rows s (named.InR2A3 to) = passed_is s to (named.InR2A4 0)
os_rows s (named.OutR1A1 to) = passed_is s to (named.OutR1A2 0)
os_rows s (named.OutR1A5 to version timeout) = passed_is s to (named.OutR1A6 0 version timeout)
os_rows s named.OutR1A9 = either (is_carrying s) _ _ (record { is = tt }) (none s)
os_rows s named.EndB1 = either (takes_pdus s) _ _ (record { is = tt }) (none s)
os_rows s packet = none s

-- ---- all rows

pub any_pdu : (s : OutProxy) (leg : Leg) (count : Count) (pdu : List ℕ)
    → PlainRow (rules.pdu s leg count pdu)
any_pdu s leg count pdu = plain (is_os s leg) _ _ (pdu_is s pdu) (no_row s)

pub out_rows : RefusesAcks rules
out_rows = record {
  packet = λ s leg count packet.
      let row = either (is_co s leg) _ _ (fits _ (co_rows s count packet))
      (either (is_os s leg) _ _ (os_rows s packet) (none s)) in row.is;
  pdu = λ s leg count pdu. let row = fits _ (any_pdu s leg count pdu) in row.is;
}
