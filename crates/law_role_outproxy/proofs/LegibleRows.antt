-- each row of an out proxy keeps it sound
use Rattle.rh_window.specs.Receiving.{after_admit}
use Rattle.law_order.proofs.Vocabulary.{ℕ, ◌≤◌, Bool, true, false, ◌&&◌, ◌==◌, nat_lt, is_ok, if◌then◌else◌, List, [], ◌∷◌, ◌++◌, Some, None, Ok, Err, length, arith, nat_tests, Option, Result, list_any}
use Rattle.rh_sig.specs.declared.named.Named.TheVariants as named
use Rattle.rh_line.specs.declared.line_fault.LineFault.TheVariants as line_fault
use Rattle.rh_shell.specs.declared.answers.Refused.TheVariants as refused
use Rattle.rh_shell.specs.Waiting as waits
use Rattle.rh_outproxy.specs.Acknowledging.{ack_by}
use Rattle.rh_outproxy.specs.declared.state.Channel.TheVariants as channels
use Rattle.rh_outproxy.specs.declared.state.Mark.TheVariants as marks
use Rattle.rh_outproxy.specs.Machine as machine
use Rattle.law_moves.proofs.Vocabulary.{Receiver, after_acked, ack_verdict, by_test, IsPdu, Cookie, TO_OUT_PROXY, CoD, Named, each_push, Leg, LineFault, channel_verdict, Count, Due, Forwarded, Message, Pdu, Packet, Waiting, better, edge_of, merged, takes, MayGo, IsFineMessage}
use Rattle.law_role_outproxy.proofs.Vocabulary.{Channel, OutProxy, is_successor, is_client_marked, joined, is_co, is_os, is_first, is_second, same_cookie, refuse, is_carrying, takes_pdus, taken, unexpected, forwarded, forwarded_by, passed_on, told_length, new_length, successor_length, opened, conn_c1_by, acked, ack_row, admitted, line_row, on_pdu, on_ack_to, on_ack}
use Rattle.law_role_outproxy.proofs.FinePackets.{conn_c2_goes, ack_to_goes, in_r1_a4_goes, in_r2_a4_goes, out_r1_a2_goes, out_r1_a6_goes}
use Rattle.law_role_outproxy.proofs.LegibleKept.{HasCookies, MayWait, IsSound, Keeps, keeps_anyhow, keeps_from}

-- ---- what is to be forwarded

-- where it waits by then, it may go
abbrev pub Joins : Named → Waiting → Waiting × Bool → Type 0
Joins m w (after, true) = MayGo CoD m → MayWait w.due → MayWait after.due
Joins m w (after, false) = MayWait w.due → MayWait after.due

pub better_goes : (due : Due) (m : Named) → MayGo CoD m → MayGo CoD due.packet
    → MayGo CoD (better due m).packet
better_goes due m new old =
    by_test (λ (d : Due). MayGo CoD d.packet) (nat_lt (edge_of m) (edge_of due.packet)) due
    (record { packet = m; origin = due.origin }) (λ t. old) (λ t. new)

pub merged_wait : (dues : List Due) (m : Named) → MayGo CoD m → MayWait dues
    → MayWait (merged dues m)
merged_wait [] m new old = tt
merged_wait (due ∷ dues) m new old =
    by_test MayWait (takes m due) (better due m ∷ dues) (due ∷ merged dues m)
    (λ t. (better_goes due m new old.0, old.1)) (λ t. (old.0, merged_wait dues m new old.1))

pub forwarded_joins : (w : Waiting) (m : Named) → Joins m w (waits.forwarded w m)
forwarded_joins w m =
    by_test (Joins m w) (list_any (takes m) w.due) (waits.with_due w (merged w.due m), true)
    (if nat_lt (waits.count Forwarded w.due) w.room
    then (waits.pushed w (waits.to_forward m), true) else (w, false))
    (λ t. λ new old. merged_wait w.due m new old)
    (λ t. by_test (Joins m w) (nat_lt (waits.count Forwarded w.due) w.room)
    (waits.pushed w (waits.to_forward m), true) (w, false)
    (λ u. λ new old.
    each_push (λ (due : Due). MayGo CoD due.packet) w.due (waits.to_forward m) old new)
    (λ u. λ old. old))

pub room_keeps : (s : OutProxy) (m : Message) (packet : Named) (r : Waiting × Bool)
    → (IsFineMessage m → MayGo CoD packet) → Joins packet s.waiting r
    → Keeps s m (forwarded_by s r)
room_keeps s m packet (w, true) goes joins = λ fine before. record {
  own = before.own;
  cookies = before.cookies;
  held = before.held;
  single = before.single;
  waits = joins (goes fine) before.waits;
}
room_keeps s m packet (w, false) goes joins = λ before. record {
  own = before.own;
  cookies = before.cookies;
  held = before.held;
  single = before.single;
  waits = joins before.waits;
}

pub forward_keeps : (s : OutProxy) (m : Message) (packet : Named)
    → (IsFineMessage m → MayGo CoD packet) → Keeps s m (forwarded s packet)
forward_keeps s m packet goes =
    by_test (Keeps s m) (is_client_marked s.client) (taken s)
    (forwarded_by s (waits.forwarded s.waiting packet)) (λ t. λ fine before. before)
    (λ t. room_keeps s m packet (waits.forwarded s.waiting packet) goes
    (forwarded_joins s.waiting packet))

pub passed_keeps : (s : OutProxy) (to : ℕ) (m : Message) (packet : Named)
    → (IsFineMessage m → MayGo CoD packet) → Keeps s m (passed_on s to packet)
passed_keeps s to m packet goes =
    by_test (Keeps s m) (is_carrying s && (to == 0)) (forwarded s packet) (unexpected s)
    (λ t. forward_keeps s m packet goes) (λ t. λ before. before)

-- ---- what comes from the client

-- a channel begins
pub opened_keeps : (s : OutProxy) (m : Message) (channel : Channel) (size : ℕ) (test : Bool)
    → (IsFineMessage m → HasCookies channel)
    → Keeps s m (if test then taken (opened s channel size) else unexpected s)
opened_keeps s m channel size test cookies =
    by_test (Keeps s m) test (taken (opened s channel size)) (unexpected s)
    (λ t. λ fine before. record {
      own = before.own;
      cookies = cookies fine;
      held = before.held;
      single = before.single;
      waits = before.waits;
    }) (λ t. λ before. before)

pub co_keeps : (s : OutProxy) (count : Count) (m : Named)
    → Keeps s (Packet m) (machine.on_co s count m)
co_keeps s count (named.ConnA1 version connection cookie size) =
    opened_keeps s (Packet (named.ConnA1 version connection cookie size))
    (channels.New connection cookie) size (is_first count && told_length s.request new_length)
    (λ fine. (fine.sizes.1.0, fine.sizes.1.1.0))
co_keeps s count (named.OutR1A3 version connection predecessor cookie size) =
    opened_keeps s (Packet (named.OutR1A3 version connection predecessor cookie size))
    (channels.Successor connection predecessor cookie) size
    (is_first count && told_length s.request successor_length)
    (λ fine. (fine.sizes.1.0, fine.sizes.1.1.0, fine.sizes.1.1.1.0))
co_keeps s count named.OutR2C1 =
    by_test (Keeps s (Packet named.OutR2C1)) (is_second count && is_successor s.channel) (taken s)
    (unexpected s) (λ t. λ fine before. before) (λ t. λ before. before)
co_keeps s count _ = λ before. before

-- ---- what comes from the server

pub conn_c1_keeps : (channel : Channel) (s : OutProxy) (version size timeout : ℕ)
    → (IsSound s → HasCookies channel)
    → Keeps s (Packet (named.ConnC1 version size timeout))
    (conn_c1_by channel s version size timeout)
conn_c1_keeps channels.Unknown s version size timeout cookies = λ before. before
conn_c1_keeps (channels.New connection cookie) s version size timeout cookies =
    let m = Packet (named.ConnC1 version size timeout) in
    let now : OutProxy = record s { channel = channels.Joined connection cookie } in
    let packet = named.ConnC2 version size timeout in
    keeps_from s now m (forwarded now packet)
    (λ before. record {
      own = before.own;
      cookies = cookies before;
      held = before.held;
      single = before.single;
      waits = before.waits;
    })
    (forward_keeps now m packet (conn_c2_goes version size timeout))
conn_c1_keeps (channels.Joined connection cookie) s version size timeout cookies =
    λ before. before
conn_c1_keeps (channels.Successor connection predecessor cookie) s version size timeout cookies =
    λ before. before

pub ack_keeps : (channel : Option Cookie) (s : OutProxy) (m : Message) (received available : ℕ)
    (of : Cookie) → Keeps s m (ack_by channel s received available of)
ack_keeps None s m received available of = λ before. before
ack_keeps (Some cookie) s m received available of =
    let now : OutProxy = record s { window = after_acked s.window received available } in
    by_test (Keeps s m) (same_cookie cookie of) (acked s received available)
    (refuse s (refused.Cookie cookie of))
    (λ t. keeps_anyhow s now m (ack_row (ack_verdict s.window received available))
    (λ before. before))
    (λ t. λ before. before)

pub ack_to_keeps : (s : OutProxy) (to received available : ℕ) (of : Cookie)
    → Keeps s (Packet (named.AckTo to received available of)) (on_ack_to s to received available of)
ack_to_keeps s to received available of =
    let m = Packet (named.AckTo to received available of) in
    by_test (Keeps s m) (to == TO_OUT_PROXY) (on_ack s received available of)
    (passed_on s to (named.AckTo 0 received available of))
    (λ t. ack_keeps (joined s.channel) s m received available of)
    (λ t. passed_keeps s to m (named.AckTo 0 received available of)
    (ack_to_goes to received available of))

pub os_keeps : (s : OutProxy) (m : Named) → Keeps s (Packet m) (machine.on_os s m)
os_keeps s (named.ConnC1 version size timeout) =
    conn_c1_keeps s.channel s version size timeout (λ before. before.cookies)
os_keeps s (named.AckTo to received available of) = ack_to_keeps s to received available of
os_keeps s (named.InR1A3 to version size timeout) =
    passed_keeps s to (Packet (named.InR1A3 to version size timeout))
    (named.InR1A4 0 version size timeout) (in_r1_a4_goes to version size timeout)
os_keeps s (named.InR2A3 to) =
    passed_keeps s to (Packet (named.InR2A3 to)) (named.InR2A4 0) (in_r2_a4_goes to)
os_keeps s (named.OutR1A1 to) =
    passed_keeps s to (Packet (named.OutR1A1 to)) (named.OutR1A2 0) (out_r1_a2_goes to)
os_keeps s (named.OutR1A5 to version timeout) =
    passed_keeps s to (Packet (named.OutR1A5 to version timeout)) (named.OutR1A6 0 version timeout)
    (out_r1_a6_goes to version timeout)
os_keeps s named.OutR1A9 =
    by_test (Keeps s (Packet named.OutR1A9)) (is_carrying s)
    (taken (record s { handover = marks.Came })) (unexpected s) (λ t. λ fine before. before)
    (λ t. λ before. before)
os_keeps s named.EndB1 =
    by_test (Keeps s (Packet named.EndB1)) (takes_pdus s) (taken (record s { end = marks.Came }))
    (unexpected s) (λ t. λ fine before. before) (λ t. λ before. before)
os_keeps s _ = λ before. before

pub packet_keeps : (s : OutProxy) (leg : Leg) (count : Count) (m : Named)
    → Keeps s (Packet m) (machine.packet s leg count m)
packet_keeps s leg count m =
    by_test (Keeps s (Packet m)) (is_co s leg) (machine.on_co s count m)
    (if is_os s leg then machine.on_os s m else unexpected s)
    (λ t. co_keeps s count m)
    (λ t. by_test (Keeps s (Packet m)) (is_os s leg) (machine.on_os s m) (unexpected s)
    (λ u. os_keeps s m) (λ u. λ before. before))

-- ---- an RPC PDU

pub admit_within : (r : Receiver) (len : ℕ) → r.received ≤ r.told
    → (after_admit r len).received ≤ (after_admit r len).told
admit_within r len within = grind (arith, nat_tests)

-- what is admitted is held, whatever its window is then
pub admitted_keeps : (s : OutProxy) (pdu : List ℕ) (window : Receiver)
    (verdict : Result (Unit {0}) LineFault) → (IsSound s → window.received ≤ window.told)
    → Keeps s (Pdu pdu) (
      record s {
        line = record (s.line) {
          current = if is_ok verdict
              then record (s.line.current) {
                pdus = s.line.current.pdus ++ pdu ∷ [];
                window = window;
              }
              else s.line.current;
        };
      },
      line_row verdict,
    )
admitted_keeps s pdu window (Err (line_fault.Window exceeded)) within = λ before. before
admitted_keeps s pdu window (Err line_fault.Over) within = λ before. before
admitted_keeps s pdu window (Ok done) within = λ fine before. record {
  own = before.own;
  cookies = before.cookies;
  held = record {
    each = each_push IsPdu s.line.current.pdus pdu before.held.each fine;
    within = within before;
  };
  single = before.single;
  waits = before.waits;
}

pub pdu_keeps : (s : OutProxy) (leg : Leg) (count : Count) (pdu : List ℕ)
    → Keeps s (Pdu pdu) (machine.pdu s leg count pdu)
pdu_keeps s leg count pdu =
    let window = after_admit s.line.current.window (length pdu) in
    by_test (Keeps s (Pdu pdu)) (is_os s leg) (on_pdu s pdu) (unexpected s)
    (λ t. by_test (Keeps s (Pdu pdu)) (takes_pdus s) (admitted s pdu) (unexpected s)
    (λ u. admitted_keeps s pdu window (channel_verdict s.line.current pdu)
    (λ before. admit_within s.line.current.window (length pdu) before.held.within))
    (λ u. λ before. before))
    (λ t. λ before. before)
