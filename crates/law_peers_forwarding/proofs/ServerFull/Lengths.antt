-- few packets wait at a server, whatever happens
use Rattle.law_order.proofs.Vocabulary.{◌≡◌, ℕ, ◌+◌, ◌≤◌, ◌==◌, ◌||◌, Bool, true, false, nat_lt, if◌then◌else◌, List, [], ◌∷◌, ◌++◌, length, Some, None, Ok, Err, refl, sym, ap, ◌∙◌, arith, false≢true, sum_by-cons, sum_by_push, AllByRecursion, list_any, Option}
use Rattle.rh_sig.specs.declared.named.Named.TheVariants as named
use Rattle.rh_shell.specs.Waiting.{is_of}
use Rattle.rh_shell.specs.declared.answers.Refused.TheVariants as refused
use Rattle.rh_server.specs.declared.out_line.Kind.TheVariants as kinds
use Rattle.law_moves.proofs.Vocabulary.{by_test, Cookie, Named, each_push, Leg, LegKind, ClientOut, OutServer, ClientIn, InServer, Count, Due, Origin, Forwarded, Packet, Pdu, Key, Waiting, added, are_one, better, count, edge_of, forwarded, key_of, merged, own, pushed, takes, to_forward, with_due, without_first, OnLeg, EndMove, end_started}
use Rattle.law_moves.proofs.Lemmas.{ActsKeep, PutKeeps, RowKeeps, StepsKeep, end_moves_keep, all_append}
use Rattle.law_role_inproxy.proofs.LegibleKeeps.{less_than}
use Rattle.law_role_client.proofs.Counted.Standing.{once_at_most as at_most_one}
use Rattle.law_role_server.proofs.Vocabulary.{Kind, are_kind, is_ack, is_kind, kind_of, waits, Server, is_some, Done, is_first, refuse, unexpected, up, channel_leg, forward_by, forwards, forwards_to, forwards_writing, on_ack_to, out_server, give, Pick, put_by as put_by_kind, acts, first, on_is, packet_by, pdu, rules as server_rules, waiting_of}
use Rattle.law_role_server.proofs.Counted.Dues.{Apart, HasOrigin, HaveOrigins, IsOfKind, adds_forwarded, alone_none, none_waits, others_have, push_waits}
use Rattle.law_peers_moments.proofs.GoingRound.Rounding.{once as once_if}
use Rattle.law_role_server_in.specs.Handovers.{passed}
use Rattle.law_peers_room.proofs.ServerRoom.Apart.{one_more}
use Rattle.law_peers_forwarding.proofs.ServerFull.Adding.{Goes, Keeps, all_go, drawn_serves, fewer, give_same, is_row, mark_serves, os_row, pdu_same, recycle_serves, same_serves, take_serves, up_same}

-- ---- kinds of the server's own packets

same_kinds : (a b : Kind) → are_kind a (Some b) ≡ true → a ≡ b
same_kinds kinds.ConnC1 kinds.ConnC1 e = refl
same_kinds kinds.InR1A3 kinds.InR1A3 e = refl
same_kinds kinds.InR2A3 kinds.InR2A3 e = refl
same_kinds kinds.OutR1 kinds.OutR1 e = refl
same_kinds a b e = absurd (false≢true e)

none_kind : (kind : Kind) → are_kind kind None ≡ false
none_kind kinds.ConnC1 = refl
none_kind kinds.InR1A3 = refl
none_kind kinds.InR2A3 = refl
none_kind kinds.OutR1 = refl

ack_apart : (kind : Kind) → Apart is_ack (is_kind kind)
ack_apart kind (named.AckTo a b c d) e = none_kind kind
ack_apart kind packet e = absurd (false≢true e)

all_kind : (kind : Kind) → IsOfKind kind (is_kind kind)
all_kind kind = record { kinds = λ packet e. e; acks = ack_apart kind }

-- ---- what waits

-- it is to be forwarded, or of such a kind
abbrev IsKnown : Due → Type 0
IsKnown due = is_of Forwarded due || is_some (kind_of due.packet) ≡ true

record Few (w : Waiting) : Type 0 where
  room : w.room ≡ 20
  most : count Forwarded w.due ≤ 20
  known : AllByRecursion IsKnown w.due
  origins : HaveOrigins w.due
  once : (kind : Kind) → waiting_of (is_kind kind) w.due ≤ 1

-- ---- one of its own more

count_push : (origin : Origin) (dues : List Due) (due : Due)
    → count origin (dues ++ due ∷ []) ≡ count origin dues + once_if (is_of origin due)
count_push origin dues due = sum_by_push (λ (d : Due). once_if (is_of origin d)) dues due

joins : (w : Waiting) (kind : Kind) (packet : Named) → kind_of packet ≡ Some kind
    → waits kind w ≡ false → Few w → Few (added w packet)
joins w kind packet is none h = record {
  room = h.room;
  most = let more = count_push Forwarded w.due (own packet) in
      let before = h.most in omega (arith, more, before);
  known = all_append IsKnown w.due (own packet ∷ []) h.known (ap is_some is, tt);
  origins = each_push HasOrigin w.due (own packet) h.origins refl;
  once = λ other. by other (is_kind other packet) refl;
}
  where
    none_yet : waiting_of (is_kind kind) w.due ≡ 0
    none_yet = none_waits kind (is_kind kind) (all_kind kind) w.due h.origins none

    by : (other : Kind) (b : Bool) → is_kind other packet ≡ b
        → waiting_of (is_kind other) (w.due ++ own packet ∷ []) ≤ 1
    by other false e =
        let more = push_waits (is_kind other) w.due (own packet) in
        let zero = alone_none (is_kind other) packet e in
        let before = h.once other in omega (arith, more, zero, before)
    by other true e =
        let more = push_waits (is_kind other) w.due (own packet) in
        let same = same_kinds other kind (ap (are_kind other) (sym is) ∙ e) in
        let before = ap (λ (k : Kind). waiting_of (is_kind k) w.due) same ∙ none_yet in
        let one = at_most_one (is_kind other packet) in omega (arith, more, before, one)

-- ---- one less

count_less : (origin : Origin) (may_go : Due → Bool) (dues : List Due)
    → count origin (without_first may_go dues) ≤ count origin dues
count_less origin may_go [] = omega arith
count_less origin may_go (due ∷ dues) =
    by_test (λ (ds : List Due). count origin ds ≤ count origin (due ∷ dues)) (may_go due) dues
    (due ∷ without_first may_go dues)
    (λ e. let was = sum_by-cons (λ (d : Due). once_if (is_of origin d)) due dues in
    omega (arith, was))
    (λ e. let was = sum_by-cons (λ (d : Due). once_if (is_of origin d)) due dues in
    let now = sum_by-cons (λ (d : Due). once_if (is_of origin d)) due
    (without_first may_go dues) in
    let rest = count_less origin may_go dues in omega (arith, was, now, rest))

known_less : (may_go : Due → Bool) (dues : List Due) → AllByRecursion IsKnown dues
    → AllByRecursion IsKnown (without_first may_go dues)
known_less may_go [] h = tt
known_less may_go (due ∷ dues) h =
    by_test (AllByRecursion IsKnown) (may_go due) dues (due ∷ without_first may_go dues)
    (λ e. h.1) (λ e. (h.0, known_less may_go dues h.1))

goes : (w : Waiting) (may_go : Due → Bool) → Few w
    → Few (with_due w (without_first may_go w.due))
goes w may_go h = record {
  room = h.room;
  most = let less = count_less Forwarded may_go w.due in
      let before = h.most in omega (arith, less, before);
  known = known_less may_go w.due h.known;
  origins = others_have may_go w.due h.origins;
  once = λ kind. let less = fewer (is_kind kind) may_go w.due in
      let before = h.once kind in omega (arith, less, before);
}

few_keeps : Keeps Few
few_keeps = record { joins = joins; goes = goes }

-- ---- acknowledgements

better_origin : (origin : Origin) (due : Due) (packet : Named)
    → is_of origin (better due packet) ≡ is_of origin due
better_origin origin due packet =
    by_test (λ (d : Due). is_of origin d ≡ is_of origin due)
    (nat_lt (edge_of packet) (edge_of due.packet)) due
    (record { packet = packet; origin = due.origin }) (λ e. refl) (λ e. refl)

count_merged : (origin : Origin) (dues : List Due) (packet : Named)
    → count origin (merged dues packet) ≡ count origin dues
count_merged origin [] packet = refl
count_merged origin (due ∷ dues) packet =
    by_test (λ (ds : List Due). count origin ds ≡ count origin (due ∷ dues))
    (takes packet due) (better due packet ∷ dues) (due ∷ merged dues packet)
    (λ e. let was = sum_by-cons (λ (d : Due). once_if (is_of origin d)) due dues in
    let now = sum_by-cons (λ (d : Due). once_if (is_of origin d)) (better due packet) dues in
    let same = ap {B = ℕ} once_if (better_origin origin due packet) in
    omega (arith, was, now, same))
    (λ e. let was = sum_by-cons (λ (d : Due). once_if (is_of origin d)) due dues in
    let now = sum_by-cons (λ (d : Due). once_if (is_of origin d)) due (merged dues packet) in
    let rest = count_merged origin dues packet in omega (arith, was, now, rest))

-- only an acknowledgement is merged, and that is of no kind
no_kind : (packet : Named) (key : Option Key) → are_one (key_of packet) key ≡ true
    → is_some (kind_of packet) ≡ false
no_kind (named.AckTo to received window channel) key e = refl
no_kind packet key e = absurd cc

or_left : (a b : Bool) → b ≡ false → a || b ≡ true → a ≡ true
or_left true b none e = refl
or_left false b none e = absurd (false≢true (sym none ∙ e))

better_known : (due : Due) (packet : Named) → takes packet due ≡ true → IsKnown due
    → IsKnown (better due packet)
better_known due packet e h =
    by_test IsKnown (nat_lt (edge_of packet) (edge_of due.packet)) due
    (record { packet = packet; origin = due.origin }) (λ f. h)
    (λ f. ap (λ (b : Bool). b || is_some (kind_of packet))
    (or_left (is_of Forwarded due) (is_some (kind_of due.packet))
    (no_kind due.packet (key_of packet) e) h))

known_merged : (dues : List Due) (packet : Named) → AllByRecursion IsKnown dues
    → AllByRecursion IsKnown (merged dues packet)
known_merged [] packet h = tt
known_merged (due ∷ dues) packet h =
    by_test (AllByRecursion IsKnown) (takes packet due) (better due packet ∷ dues)
    (due ∷ merged dues packet) (λ e. (better_known due packet e h.0, h.1))
    (λ e. (h.0, known_merged dues packet h.1))

module _ (w : Waiting) (packet : Named) (h : Few w) where
  record Fits (x : Waiting × Bool) : Type 0 where
    room : x.0.room ≡ 20
    most : count Forwarded x.0.due ≤ 20
    known : AllByRecursion IsKnown x.0.due

  fits : Fits (forwarded w packet)
  fits =
      by_test Fits (list_any (takes packet) w.due) (with_due w (merged w.due packet), true)
      (if nat_lt (count Forwarded w.due) w.room then (pushed w (to_forward packet), true)
      else (w, false))
      (λ e. record {
        room = h.room;
        most = let same = count_merged Forwarded w.due packet in
            let before = h.most in omega (arith, same, before);
        known = known_merged w.due packet h.known;
      })
      (λ e. by_test Fits (nat_lt (count Forwarded w.due) w.room)
      (pushed w (to_forward packet), true) (w, false)
      (λ f. record {
        room = h.room;
        most = let more = count_push Forwarded w.due (to_forward packet) in
            let less = less_than (count Forwarded w.due) w.room f in
            let room = h.room in omega (arith, more, less, room);
        known = all_append IsKnown w.due (to_forward packet ∷ []) h.known (refl, tt);
      })
      (λ f. record { room = h.room; most = h.most; known = h.known }))

  forwarded_few : is_ack packet ≡ true → Few (forwarded w packet).0
  forwarded_few is =
      let adds = adds_forwarded packet is w in record {
        room = fits.room;
        most = fits.most;
        known = fits.known;
        origins = adds.origins h.origins;
        once = λ kind. let same = adds.counts (is_kind kind) (ack_apart kind) in
            let before = h.once kind in omega (arith, same, before);
      }

abbrev Serves : Server → Type 0
Serves s = Few s.waiting

abbrev RowServes : Done → Type 0
RowServes x = Serves x.0

forward_serves : (s : Server) (n : ℕ) (packet : Named) → is_ack packet ≡ true → Serves s
    → RowServes (forwards s n packet)
forward_serves s n packet is h =
    by (forwarded s.waiting packet) (forwarded_few s.waiting packet h is)
  where
    by : (x : Waiting × Bool) → Few x.0 → RowServes (forward_by s n x)
    by (w, true) few = few
    by (w, false) few = h

writing_serves : (s : Server) (packet : Named) → is_ack packet ≡ true → Serves s
    → RowServes (forwards_writing s packet)
writing_serves s packet is h =
    by_test RowServes _ (refuse s (refused.Full (out_server s.writing)))
    (forwards s s.writing packet) (λ e. h) (λ e. forward_serves s s.writing packet is h)

ack_to_row : (s : Server) (count : Count) (to received window : ℕ) (cookie : Cookie)
    → Serves s → RowServes (on_ack_to s count to received window cookie)
ack_to_row s count to received window cookie h =
    by_test RowServes (is_first count) (unexpected s) _ (λ e. h)
    (λ e. by_test RowServes (to == 0)
    (forwards_writing s (named.AckTo 0 received window cookie)) _
    (λ f. writing_serves s (named.AckTo 0 received window cookie) refl h)
    (λ f. by_test RowServes (to == 3)
    (forwards_to s (named.AckTo 3 received window cookie) (channel_leg cookie s.outs))
    (unexpected s) (λ g. by (channel_leg cookie s.outs)) (λ g. h)))
  where
    by : (o : Option ℕ) → RowServes (forwards_to s (named.AckTo 3 received window cookie) o)
    by None = h
    by (Some n) =
        by_test RowServes (n == s.writing)
        (forwards_writing s (named.AckTo 3 received window cookie))
        (forwards s n (named.AckTo 3 received window cookie))
        (λ e. writing_serves s (named.AckTo 3 received window cookie) refl h)
        (λ e. forward_serves s n (named.AckTo 3 received window cookie) refl h)

-- ---- the role

is_serves : (s : Server) (n : ℕ) (count : Count) (m : Named) → Serves s
    → RowServes (on_is s n count m)
is_serves s n count (named.AckTo to received window cookie) h =
    ack_to_row s count to received window cookie h
is_serves s n count m h = is_row Few few_keeps s n count m refl h

packet_row : (s : Server) (n : ℕ) (count : Count) (m : Named) (k : LegKind) → Serves s
    → RowServes (packet_by s n count m k)
packet_row s n count m InServer h = is_serves s n count m h
packet_row s n count m OutServer h = os_row Few few_keeps s n count m h
packet_row s n count m ClientIn h = h
packet_row s n count m ClientOut h = h

abbrev Holds : Server → List OnLeg → List OnLeg → Type 0
Holds s came put = Serves s

row_keeps : (one : OnLeg) (came put : List OnLeg) (x : Done) → RowServes x
    → RowKeeps Holds one came put x
row_keeps one came put (t, Ok taken) h = h
row_keeps one came put (t, Err why) h = h

put_keeps : (leg : Leg) (came put : List OnLeg) (pick : Pick) → Goes Few few_keeps pick
    → PutKeeps Holds leg came put pick
put_keeps leg came put None h = tt
put_keeps leg came put (Some one) h = h

steps : StepsKeep server_rules Holds
steps = record {
  up = λ s leg cookie came put h.
      same_serves Few few_keeps s (up s leg cookie) (up_same s leg cookie) h;
  head = λ s leg text came put h. h;
  pdu = λ s leg count bytes came put h.
      row_keeps (leg, Pdu bytes) came put (pdu s leg count bytes)
      (same_serves Few few_keeps s (pdu s leg count bytes).0 (pdu_same s leg count bytes) h);
  packet = λ s leg count m came put h.
      row_keeps (leg, Packet m) came put (packet_by s leg.number count m leg.kind)
      (packet_row s leg.number count m leg.kind h);
  put = λ s leg came put h.
      put_keeps leg came put (put_by_kind s leg.number leg.kind)
      (all_go Few few_keeps s h leg.number leg.kind);
  drawn = λ s leg came put h. drawn_serves Few few_keeps s leg.number leg.kind h;
  mark = λ s leg came put h. mark_serves Few few_keeps s leg.number leg.kind h;
  ping = λ s leg came put h. h;
}

calls : ActsKeep acts Holds
calls = record {
  give = λ s bytes came put h.
      same_serves Few few_keeps s (give s bytes).0 (give_same s bytes) h;
  take = λ s came put h. take_serves Few few_keeps s h;
  close = λ s came put h. h;
  recycle = λ s came put h. recycle_serves Few few_keeps s h;
}

-- ---- how many

kinds_weigh : (o : Option Kind) → is_some o ≡ true
    → 1 ≤ once_if (are_kind kinds.ConnC1 o) + once_if (are_kind kinds.InR1A3 o)
    + once_if (are_kind kinds.InR2A3 o) + once_if (are_kind kinds.OutR1 o)
kinds_weigh None e = absurd cc
kinds_weigh (Some kinds.ConnC1) e = omega arith
kinds_weigh (Some kinds.InR1A3) e = omega arith
kinds_weigh (Some kinds.InR2A3) e = omega arith
kinds_weigh (Some kinds.OutR1) e = omega arith

weighs : (due : Due) → IsKnown due
    → 1 ≤ once_if (is_of Forwarded due) + (once_if (is_kind kinds.ConnC1 due.packet)
    + once_if (is_kind kinds.InR1A3 due.packet) + once_if (is_kind kinds.InR2A3 due.packet)
    + once_if (is_kind kinds.OutR1 due.packet))
weighs due h = by (is_of Forwarded due) h
  where
    by : (b : Bool) → b || is_some (kind_of due.packet) ≡ true
        → 1 ≤ once_if b + (once_if (is_kind kinds.ConnC1 due.packet)
        + once_if (is_kind kinds.InR1A3 due.packet) + once_if (is_kind kinds.InR2A3 due.packet)
        + once_if (is_kind kinds.OutR1 due.packet))
    by true e = omega arith
    by false e = let some = kinds_weigh (kind_of due.packet) e in omega (arith, some)

all_weigh : (dues : List Due) → AllByRecursion IsKnown dues
    → length dues ≤ count Forwarded dues + (waiting_of (is_kind kinds.ConnC1) dues
    + waiting_of (is_kind kinds.InR1A3) dues + waiting_of (is_kind kinds.InR2A3) dues
    + waiting_of (is_kind kinds.OutR1) dues)
all_weigh [] h = omega arith
all_weigh (due ∷ dues) h =
    let counted = sum_by-cons (λ (d : Due). once_if (is_of Forwarded d)) due dues in
    let conn_c1 = one_more (is_kind kinds.ConnC1) due dues in
    let in_r1_a3 = one_more (is_kind kinds.InR1A3) due dues in
    let in_r2_a3 = one_more (is_kind kinds.InR2A3) due dues in
    let out_r1 = one_more (is_kind kinds.OutR1) due dues in
    let one = weighs due h.0 in
    let rest = all_weigh dues h.1 in
    omega (arith, counted, conn_c1, in_r1_a3, in_r2_a3, out_r1, one, rest)

pub few_wait : (window : ℕ) (moves : List EndMove)
    → length (passed window moves).role.waiting.due ≤ 28
few_wait window moves =
    let dues = (passed window moves).role.waiting.due in
    let few = end_moves_keep server_rules Holds steps acts calls (end_started (first window)) moves
    (record {
      room = refl;
      most = omega arith;
      known = tt;
      origins = tt;
      once = λ kind. omega arith;
    }) in
    let most = few.most in
    let all = all_weigh dues few.known in
    let conn_c1 = few.once kinds.ConnC1 in
    let in_r1_a3 = few.once kinds.InR1A3 in
    let in_r2_a3 = few.once kinds.InR2A3 in
    let out_r1 = few.once kinds.OutR1 in
    omega (arith, most, all, conn_c1, in_r1_a3, in_r2_a3, out_r1)
