-- each message that an out proxy puts may go where it goes
use Rattle.std.specs.Option.{IfSome}
use Rattle.rh_window.specs.Receiving as windows
use Rattle.law_order.proofs.Vocabulary.{◌≡◌, ℕ, ◌+◌, ◌^◌, ◌<◌, ◌≤◌, Bool, true, false, ◌&&◌, ◌==◌, nat_le, if◌then◌else◌, List, [], ◌∷◌, Some, None, length, arith, rules, refl, sym, subst, Option, AllByRecursion}
use Rattle.rh_sig.specs.declared.named.Named.TheVariants as named
use Rattle.rh_line.specs.Lines.{taken}
use Rattle.rh_line.specs.declared.leg.LegKind.TheVariants as kinds
use Rattle.rh_outproxy.specs.declared.state.Answer.TheVariants as answers
use Rattle.rh_outproxy.specs.declared.state.Channel.TheVariants as channels
use Rattle.rh_outproxy.specs.declared.state.Mark.TheVariants as marks
use Rattle.rh_outproxy.specs.Putting as putting
use Rattle.law_moves.proofs.Vocabulary.{Ack, Receiver, may_send, after_sent, by_test, IsPdu, Cookie, CoD, OsU, Leg, LegKind, Line, is_empty, released, moved_on, after_take, Due, Pdu, Packet, is_of}
use Rattle.law_role_outproxy.proofs.Vocabulary.{Answer, Channel, NotDue, OutProxy, is_server_first, is_ping_due, is_due, joined, is_co, is_os, first_packet, ack_due, or_else, pipe_put}
use Rattle.law_role_outproxy.proofs.Conditions.{both_left}
use Rattle.law_role_outproxy.proofs.FinePackets.{IsSized, timeout_goes, end_goes, handover_goes, ping_goes, conn_a2_goes, out_r1_a4_goes, ack_goes}
use Rattle.law_role_outproxy.proofs.LegibleKept.{HasCookies, IsHeld, MayWait, IsSound, PutsWell}
use Rattle.law_role_outproxy.proofs.OrderPuts.{first_else}

-- ---- to the client

pub answer_goes : (answer : Answer) (s : OutProxy) → IsSound s
    → PutsWell (Some CoD) (putting.answer_by answer s)
answer_goes answers.Awaited s before = tt
answer_goes answers.EchoDue s before = (before, tt)
answer_goes answers.EchoPut s before = tt
answer_goes answers.EchoDrawn s before = tt
answer_goes answers.ResponseDue s before = (before, tt)
answer_goes answers.TimeoutDue s before =
    (before, timeout_goes s.config.timeout before.own.timeout)
answer_goes answers.Put s before = tt

pub waiting_goes : (s : OutProxy) (dues : List Due) → MayWait dues → IsSound s
    → PutsWell (Some CoD) (putting.waiting_by s dues)
waiting_goes s [] wait before = tt
waiting_goes s (due ∷ dues) wait before = (
  record {
    own = before.own;
    cookies = before.cookies;
    held = before.held;
    single = before.single;
    waits = wait.1;
  },
  wait.0,
)

not_both : (b : Bool) → b ≡ true → b ≡ false → ⊥
not_both true yes' no' = absurd (cc)
not_both false yes' no' = absurd (cc)

-- what is left of a line with one channel, where the first PDU is taken
pub left_held : (line : Line) (pdu : List ℕ) (pdus : List (List ℕ))
    → AllByRecursion IsPdu pdus → IsHeld line.current → line.finished ≡ false
    → IsHeld (taken (pdu ∷ pdus) line).current × ((taken (pdu ∷ pdus) line).finished ≡ false)
left_held line pdu pdus each held single =
    let now : Line = record line { current = released (pdu ∷ pdus) line.current } in
    by_test (λ (l : Line). IsHeld l.current × (l.finished ≡ false))
    (line.finished && is_empty pdus) (moved_on now) now
    (λ t. absurd (not_both line.finished (both_left line.finished (is_empty pdus) t) single))
    (λ t. (record { each = each; within = held.within }, single))

pub pdu_goes : (s : OutProxy) (pdus : List (List ℕ)) → s.line.current.pdus ≡ pdus → IsSound s
    → PutsWell (Some CoD) (putting.pdu_by s pdus)
pdu_goes s [] here before = tt
pdu_goes s (pdu ∷ pdus) here before =
    let now : OutProxy = record s {
      line = after_take s.line;
      window = after_sent s.window (length pdu);
    } in
    let each : AllByRecursion IsPdu (pdu ∷ pdus) =
    subst (λ (x : List (List ℕ)). AllByRecursion IsPdu x) here before.held.each in
    let left : IsHeld (after_take s.line).current × ((after_take s.line).finished ≡ false) =
    subst
    (λ (x : List (List ℕ)). IsHeld (taken x s.line).current × ((taken x s.line).finished ≡ false))
    (sym here) (left_held s.line pdu pdus each.1 before.held before.single) in
    by_test (PutsWell (Some CoD)) (may_send s.window (length pdu)) (Some (now, Pdu pdu)) None
    (λ t. (
      record {
        own = before.own;
        cookies = before.cookies;
        held = left.0;
        single = left.1;
        waits = before.waits;
      },
      each.0,
    )) (λ t. tt)

pub mark_goes : (s : OutProxy) → IsSound s → PutsWell (Some CoD) (putting.put_mark s)
mark_goes s before =
    let Goes = PutsWell (Some CoD) in
    let ended : OutProxy = record s { end = marks.Put } in
    let handed : OutProxy = record s { handover = marks.Put } in
    let empty = is_empty s.line.current.pdus in
    first_else Goes (putting.put_end s) (putting.put_handover s)
    (by_test Goes (empty && is_due s.end) (Some (ended, Packet named.EndB2)) None
    (λ t. (before, end_goes)) (λ t. tt))
    (by_test Goes (empty && is_due s.handover) (Some (handed, Packet named.OutR1A10)) None
    (λ t. (before, handover_goes)) (λ t. tt))

pub ping_puts : (s : OutProxy) → IsSound s → PutsWell (Some CoD) (putting.put_ping s)
ping_puts s before =
    let now : OutProxy = record s { ping = NotDue; pinged = s.pinged + 20 } in
    by_test (PutsWell (Some CoD))
    (is_ping_due s.ping && nat_le (s.pinged + 20) putting.ping_room) (Some (now, Packet named.Ping))
    None (λ t. (before, ping_goes)) (λ t. tt)

pub co_goes : (s : OutProxy) → IsSound s → PutsWell (Some CoD) (putting.next_co s)
co_goes s before =
    let Goes = PutsWell (Some CoD) in
    let mark =
    first_else Goes (putting.put_mark s) (putting.put_ping s) (mark_goes s before)
    (ping_puts s before) in
    let pdu =
    first_else Goes (putting.put_pdu s) (or_else (putting.put_mark s) (putting.put_ping s))
    (pdu_goes s s.line.current.pdus refl before) mark in
    let waiting =
    first_else Goes (putting.put_waiting s)
    (or_else (putting.put_pdu s) (or_else (putting.put_mark s) (putting.put_ping s)))
    (waiting_goes s s.waiting.due before.waits before) pdu in
    first_else Goes (putting.put_answer s)
    (or_else (putting.put_waiting s)
    (or_else (putting.put_pdu s) (or_else (putting.put_mark s) (putting.put_ping s))))
    (answer_goes s.answer s before) waiting

-- ---- to the server

pub first_goes : (s : OutProxy) (channel : Channel) → HasCookies channel → IsSound s
    → PutsWell (Some OsU) (putting.first_by s (first_packet s channel))
first_goes s channels.Unknown cookies before = tt
first_goes s (channels.New connection cookie) cookies before =
    (before, conn_a2_goes s.config connection cookie before.own cookies.0 cookies.1)
first_goes s (channels.Joined connection cookie) cookies before =
    (before, conn_a2_goes s.config connection cookie before.own cookies.0 cookies.1)
first_goes s (channels.Successor connection predecessor cookie) cookies before = (
  before,
  out_r1_a4_goes s.config connection predecessor cookie before.own cookies.0 cookies.1 cookies.2,
)

pub joined_sized : (channel : Channel) → HasCookies channel → IfSome (joined channel) IsSized
joined_sized channels.Unknown cookies = tt
joined_sized (channels.New connection cookie) cookies = tt
joined_sized (channels.Joined connection cookie) cookies = cookies.1
joined_sized (channels.Successor connection predecessor cookie) cookies = cookies.2

-- the acknowledgement is of what came, and its numbers are in 32 bits
pub record Tells (r : Receiver) (ack : Ack) : Type 0 where
  pub received : ack.received ≡ r.received
  pub small : ack.received < 2 ^ 32
  pub few : ack.available < 2 ^ 32

pub due_tells : (r : Receiver) (ack : Ack) → r.received ≤ r.told → windows.due r ≡ Some ack
    → Tells r ack
due_tells r ack within due = search rules

pub ack_tells : (s : OutProxy) (ack : Ack) → IsSound s → ack_due s ≡ Some ack
    → Tells s.line.current.window ack
ack_tells s ack before due =
    let held = before.held.within in search (rules, due_tells s.line.current.window ack held)

pub ack_puts : (s : OutProxy) (cookie : Option Cookie) (ack : Option Ack) → IfSome cookie IsSized
    → ack_due s ≡ ack → IsSound s → PutsWell (Some OsU) (putting.ack_by s cookie ack)
ack_puts s None ack sized due before = tt
ack_puts s (Some cookie) None sized due before = tt
ack_puts s (Some cookie) (Some ack) sized due before =
    let tells = ack_tells s ack before due in (
      record {
        own = before.own;
        cookies = before.cookies;
        held = record { each = before.held.each; within = omega (arith, tells.received) };
        single = before.single;
        waits = before.waits;
      },
      ack_goes ack.received ack.available cookie tells.small tells.few sized,
    )

pub os_goes : (s : OutProxy) → IsSound s → PutsWell (Some OsU) (putting.next_os s)
os_goes s before =
    let Goes = PutsWell (Some OsU) in
    first_else Goes (putting.put_first s) (putting.put_ack s)
    (by_test Goes (is_server_first s.server) (putting.first_by s (first_packet s s.channel)) None
    (λ t. first_goes s s.channel before.cookies before) (λ t. tt))
    (ack_puts s (joined s.channel) (ack_due s) (joined_sized s.channel before.cookies) refl before)

-- ---- both

pub client_pipe : (kind : LegKind)
    → is_of kinds.ClientOut (record { kind = kind; number = 0 }) ≡ true
    → pipe_put (record { kind = kind; number = 0 }) ≡ Some CoD
client_pipe kinds.ClientOut here = refl
client_pipe kinds.OutServer here = absurd (cc)
client_pipe kinds.ClientIn here = absurd (cc)
client_pipe kinds.InServer here = absurd (cc)

pub server_pipe : (kind : LegKind)
    → is_of kinds.OutServer (record { kind = kind; number = 0 }) ≡ true
    → pipe_put (record { kind = kind; number = 0 }) ≡ Some OsU
server_pipe kinds.ClientOut here = absurd (cc)
server_pipe kinds.OutServer here = refl
server_pipe kinds.ClientIn here = absurd (cc)
server_pipe kinds.InServer here = absurd (cc)

pub put_goes : (s : OutProxy) (leg : Leg) → IsSound s
    → PutsWell (pipe_put leg) (putting.put s leg)
put_goes s leg before =
    let Goes = PutsWell (pipe_put leg) in
    by_test Goes (is_co s leg) (putting.next_co s) (if is_os s leg then putting.next_os s else None)
    (λ here.
    let kind = both_left (is_of kinds.ClientOut leg) (s.config.number == leg.number) here in
    rw (client_pipe leg.kind kind) (co_goes s before))
    (λ t. by_test Goes (is_os s leg) (putting.next_os s) None
    (λ here.
    let kind = both_left (is_of kinds.OutServer leg) (s.config.number == leg.number) here in
    rw (server_pipe leg.kind kind) (os_goes s before)) (λ u. tt))
