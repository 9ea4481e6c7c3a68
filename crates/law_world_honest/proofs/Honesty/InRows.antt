-- the rows of an in proxy refuse a value out of range in an acknowledgement alone
use Rattle.law_order.proofs.Vocabulary.{ℕ, Bool, true, false, List, ◌==◌, ◌&&◌, ◌||◌, not, if◌then◌else◌, Some, None, Ok, Err, Option, Result}
use Rattle.rh_sig.specs.declared.named.Named.TheVariants as named
use Rattle.rh_line.specs.declared.line_fault.LineFault.TheVariants as line_fault
use Rattle.rh_line.specs.Lines as line
use Rattle.rh_shell.specs.Waiting as waiting
use Rattle.rh_inproxy.specs.declared.state.Joining.TheVariants as joins
use Rattle.rh_inproxy.specs.Machine as machine
use Rattle.rh_inproxy.specs.Passing as passing
use Rattle.law_moves.proofs.Vocabulary.{BadAck, ack_verdict, after_acked, Cookie, Named, Leg, LineFault, Which, Current, Next, Count}
use Rattle.law_role_inproxy.proofs.Vocabulary.{Opener, Successor, Absent, Up, Joined, ack_for, acked_by, forward_by, forwarded, unexpected, finish_by, hand_over, has_passed, is_newcomer, join, on_later_in_r1_a1, on_channel, on_channel_by, on_ci, on_is, rules, InProxy, channel_of, has_a5, is_client_leg, is_server_leg, same_cookie, has_later, is_connection, is_first, is_replacement, is_unknown, opener_of}
use Rattle.law_world_honest.proofs.Honesty.AckRows.{IsBadAck, PlainRow, RowFits, either, fits, plain, verdict_is}
use Rattle.law_world_honest.specs.Honesty.Rows.{RefusesAcks}

no_row : (s : InProxy) → PlainRow (unexpected s)
no_row s = record { is = tt }

none : (s : InProxy) → RowFits (unexpected s)
none s = record { is = tt }

-- ---- PDUs

verdict_row : (s : InProxy) (r : Result (Unit {0}) LineFault) → PlainRow (passing.pdu_by s r)
verdict_row s (Ok admitted) = record { is = tt }
verdict_row s (Err line_fault.Over) = record { is = tt }
verdict_row s (Err (line_fault.Window exceeded)) = record { is = tt }

pdu_is : (s : InProxy) (pdu : List ℕ) (o : Option Which) → PlainRow (machine.pdu_by s o pdu)
pdu_is s pdu None = no_row s
pdu_is s pdu (Some which) =
    plain (has_a5 s which || line.is_ended s.line) _ _ (no_row s)
    (verdict_row (record s { line = line.after_admit s.line which pdu })
    (line.admit_verdict s.line which pdu))

-- ---- forwarding

room_is : (s : InProxy) (x : waiting.Waiting × Bool) → RowFits (forward_by s x)
room_is s (w, true) = record { is = tt }
room_is s (w, false) = record { is = tt }

forward_is : (s : InProxy) (packet : Named) → RowFits (forwarded s packet)
forward_is s packet = room_is s (waiting.forwarded s.waiting packet)

-- ---- acknowledgements

row_is : (s : InProxy) (r : Result (Unit {0}) BadAck) → IsBadAck r → PlainRow (acked_by s r)
row_is s (Ok acked) is = record { is = tt }
row_is s (Err bad) is = record { is = is }

ack_is : (s : InProxy) (o : Option Opener) (received available : ℕ) (channel : Cookie)
    → PlainRow (ack_for s o received available channel)
ack_is s None received available channel = no_row s
ack_is s (Some opener) received available channel =
    plain (same_cookie opener.channel channel) _ _
    (row_is (record s { window = after_acked s.window received available })
    (ack_verdict s.window received available) (verdict_is s.window received available))
    (record { is = tt })

-- ---- replacements

join_is : (s : InProxy) (opener : Opener) (number : ℕ) (connection predecessor channel : Cookie)
    → RowFits (join s opener number connection predecessor channel)
join_is s opener number connection predecessor channel =
    either (not (same_cookie opener.connection connection)) _ _ (record { is = tt })
    (either (not (same_cookie s.current.cookie predecessor)) _ _ (record { is = tt })
    (record { is = tt }))

later_is : (s : InProxy) (o : Option Opener) (number : ℕ)
    (connection predecessor channel : Cookie)
    → RowFits (on_later_in_r1_a1 s o number connection predecessor channel)
later_is s None number connection predecessor channel = none s
later_is s (Some opener) number connection predecessor channel =
    either (is_newcomer s.successor number) _ _
    (join_is s opener number connection predecessor channel) (none s)

finish_is : (s : InProxy) (next : Successor) (cookie : Cookie) → RowFits (finish_by s next cookie)
finish_is s Absent cookie = record { is = tt }
finish_is s (Up number) cookie = none s
finish_is s (Joined leg joins.Told) cookie =
    either (same_cookie leg.cookie cookie) _ _ (record { is = tt }) (record { is = tt })
finish_is s (Joined leg joins.Follows) cookie = none s
finish_is s (Joined leg (joins.TellsServer behind)) cookie = none s

hand_is : (s : InProxy) (which : Which) (cookie : Cookie) → RowFits (hand_over s which cookie)
hand_is s Current cookie = finish_is s s.successor cookie
hand_is s Next cookie = record { is = tt }

-- ---- the table

channel_rows : (s : InProxy) (which : Which) (packet : Named) → RowFits (on_channel s which packet)
channel_rows s which (named.AckTo to received available channel) =
    either (not (has_a5 s which) && (to == 3)) _ _
    (forward_is s (named.AckTo 3 received available channel)) (none s)
channel_rows s which (named.OutR1A7 to successor) =
    either (not (has_a5 s which) && (to == 2)) _ _ (forward_is s (named.OutR1A8 2 successor))
    (none s)
channel_rows s which (named.KeepAlive keepalive) =
    either (has_a5 s which) _ _ (none s) (record { is = tt })
channel_rows s which named.EndA1 =
    either (has_a5 s which || (line.channel_of s.line which).ended || has_later s which) _ _
    (none s) (record { is = tt })
channel_rows s which (named.InR1A5 successor) =
    either (has_a5 s which) _ _ (none s) (hand_is s which successor)
channel_rows s which packet = none s

channel_by : (s : InProxy) (o : Option Which) (packet : Named)
    → RowFits (on_channel_by s o packet)
channel_by s None packet = none s
channel_by s (Some which) packet = channel_rows s which packet

ci_rows : (s : InProxy) (number : ℕ) (packet : Named) → RowFits (on_ci s number packet)
ci_rows s number (named.ConnB1 version connection channel lifetime keepalive group) =
    either (is_first s number) _ _ (record { is = tt }) (none s)
ci_rows s number (named.InR1A1 version connection predecessor channel) =
    either (is_first s number) _ _ (record { is = tt })
    (later_is s (opener_of s.opening) number connection predecessor channel)
ci_rows s number packet = channel_by s (channel_of s number) packet

is_rows : (s : InProxy) (packet : Named) → PlainRow (on_is s packet)
is_rows s (named.ConnB3 size version) =
    plain (is_connection (opener_of s.opening) && is_unknown s.edge) _ _ (record { is = tt })
    (no_row s)
is_rows s (named.InR1B2 size) =
    plain (is_replacement (opener_of s.opening) && is_unknown s.edge) _ _ (record { is = tt })
    (no_row s)
is_rows s named.InR1B1 = plain (has_passed s.handover) _ _ (record { is = tt }) (no_row s)
is_rows s (named.Ack received available channel) =
    plain (is_unknown s.edge) _ _ (no_row s)
    (ack_is s (opener_of s.opening) received available channel)
is_rows s packet = no_row s

-- ---- all rows

pub any_pdu : (s : InProxy) (leg : Leg) (count : Count) (pdu : List ℕ)
    → PlainRow (rules.pdu s leg count pdu)
any_pdu s leg count pdu =
    plain (is_client_leg leg) _ _ (pdu_is s pdu (channel_of s leg.number)) (no_row s)

pub server_packet : (s : InProxy) (leg : Leg) (packet : Named)
    → PlainRow (if is_server_leg s leg then on_is s packet else unexpected s)
server_packet s leg packet = plain (is_server_leg s leg) _ _ (is_rows s packet) (no_row s)

pub in_rows : RefusesAcks rules
in_rows = record {
  packet = λ s leg count packet.
      let row = either (is_client_leg leg) _ _ (ci_rows s leg.number packet)
      (fits _ (server_packet s leg packet)) in row.is;
  pdu = λ s leg count pdu. let row = fits _ (any_pdu s leg count pdu) in row.is;
}
