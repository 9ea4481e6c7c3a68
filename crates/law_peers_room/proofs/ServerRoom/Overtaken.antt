-- few answers overtake an acknowledgement to the client that waits at a server, whatever happens
use Rattle.law_order.proofs.Vocabulary.{◌≡◌, ℕ, suc, ◌+◌, ◌*◌, ◌≤◌, Bool, true, false, if◌then◌else◌, List, [], ◌∷◌, ◌++◌, length, Some, None, Ok, Err, refl, sym, ap, ◌∙◌, subst, arith, append-nil, IfSome, AllByRecursion}
use Rattle.rh_sig.specs.declared.named.Named.TheVariants as named
use Rattle.law_moves.proofs.Vocabulary.{Cookie, Named, Leg, LegKind, ClientOut, OutServer, ClientIn, InServer, Message, Text, Pdu, Packet, OnLeg, EndMove, EndPassage, Passage, all_end_moved, end_started, count_of, of_kind}
use Rattle.law_moves.proofs.Lemmas.{ActsKeep, PutKeeps, RowKeeps, StepsKeep, end_moves_keep, count_append, kind_more}
use Rattle.law_role_server.proofs.Vocabulary.{OutLeg, Server, no_cookie, out_place, Done, up, take, recycle, close, give, drawn_by, mark_by, Pick, put_in, put_out_at, put_by as put_by_kind, acts, first, packet_by, pdu, rules as server_rules, is_in_r1_a3, is_in_r2_a3, leg_at, often}
use Rattle.law_node_streams.proofs.Streams.EndMoves.{all_end_moved_append}
use Rattle.law_role_server_in.specs.Handovers.{passed}
use Rattle.law_peers_room.proofs.ServerRoom.Legs.{Sorted}
use Rattle.law_peers_room.proofs.ServerRoom.Meters.{Seen, Phase, InTurn, IsRefused, HasRoom, IsTotal, IsKept, seen, Base, Kept}
use Rattle.law_peers_room.proofs.ServerRoom.Lets.{bytes_in, is_acked}
use Rattle.law_peers_room.proofs.ServerRoom.Serving.{fine_kept, seen_in}
use Rattle.law_peers_room.proofs.ServerRoom.Serving as serving
use Rattle.law_peers_room.proofs.ServerRoom.ServerPuts.{fine_put}
use Rattle.law_peers_room.proofs.ServerRoom.ServerPuts as puts
use Rattle.law_peers_room.proofs.ServerRoom.ViewPuts.{os_goes}
use Rattle.law_peers_room.proofs.ServerRoom.ViewRows.{LongServes, drawn_serves, give_serves, mark_serves, packet_row, pdu_row, recycles, take_serves, up_serves}
use Rattle.law_peers_room.proofs.ServerRoom.ViewSteps.{all_long, in_same, long_before}
use Rattle.law_peers_room.proofs.ServerRoom.Views.{AreKept, View, view}
use Rattle.law_peers_room.proofs.ServerRoom.Ahead as ahead
use Rattle.law_peers_room.specs.ServerRoom.Overtaking.{AreLong, FewOvertake, IsLong, answer_bytes, is_ack_for}

-- ---- logs

-- a message more on an os leg, and on another
pub more_there : (test : Named → Bool) (n : ℕ) (m : Message) (log : List OnLeg)
    → often test OutServer (log ++ (leg_at OutServer n, m) ∷ [])
    ≡ often test OutServer log + count_of test (m ∷ [])
more_there test n m log =
    ap (count_of test) (kind_more OutServer log (leg_at OutServer n, m))
    ∙ count_append test (of_kind OutServer log) (m ∷ [])

pub same_there : (test : Named → Bool) (n : ℕ) (m : Message) (log : List OnLeg)
    → often test OutServer (log ++ (leg_at InServer n, m) ∷ []) ≡ often test OutServer log
same_there test n m log =
    ap (count_of test) (kind_more OutServer log (leg_at InServer n, m)
    ∙ append-nil (of_kind OutServer log))

abbrev answers : List OnLeg → ℕ
answers put = 52 * often is_in_r1_a3 OutServer put + 28 * often is_in_r2_a3 OutServer put

one_answer : (channel : Cookie) (m : Message)
    → 52 * count_of is_in_r1_a3 (m ∷ []) + 28 * count_of is_in_r2_a3 (m ∷ [])
    ≡ bytes_in channel m
one_answer channel (Text bytes) = omega arith
one_answer channel (Pdu pdu) = omega arith
one_answer channel (Packet (named.InR1A3 destination version window timeout)) = omega arith
one_answer channel (Packet (named.InR2A3 destination)) = omega arith
one_answer channel (Packet packet) = omega arith

more_answers : (channel : Cookie) (n : ℕ) (m : Message) (put : List OnLeg)
    → answers put + bytes_in channel m ≡ answers (put ++ (leg_at OutServer n, m) ∷ [])
more_answers channel n m put =
    let one = more_there is_in_r1_a3 n m put in
    let two = more_there is_in_r2_a3 n m put in
    let all = one_answer channel m in omega (arith, one, two, all)

pub acked_one : (channel : Cookie) (m : Message) → is_acked channel m ≡ true
    → count_of (is_ack_for channel) (m ∷ []) ≡ 1
acked_one channel (Text bytes) e = absurd cc
acked_one channel (Pdu pdu) e = absurd cc
acked_one channel (Packet packet) e = ap (λ (b : Bool). if b then suc 0 else 0) e

module _ (channel : Cookie) (least budget before : ℕ) (on : Bool) where
  abbrev acked : List OnLeg → ℕ
  acked put = often (is_ack_for channel) OutServer put

  record Facts (s : Server) (put : List OnLeg) : Type 0 where
    base : Base channel least budget (seen channel least budget s)
    since : on ≡ true → before ≤ acked put
    kept : on ≡ true → acked put ≤ before
        → Kept channel least budget (seen channel least budget s) (answers put)

  abbrev Holds : Server → List OnLeg → List OnLeg → Type 0
  Holds s came put = AreLong least came → Facts s put

  -- it waits since, and was not put
  abbrev Waits : List OnLeg → Type 0
  Waits put = (on ≡ true) × (acked put ≤ before)

  abbrev So : List OnLeg → View → Type 0
  So put v = serving.IsFine channel least budget (Waits put) (answers put) v

  keeps : (put : List OnLeg) → AreKept least (So put)
  keeps put = fine_kept channel least budget (Waits put) (answers put)

  abbrev IsFine : List OnLeg → Server → Type 0
  IsFine put s = So put (view s)

  fine_of : (s : Server) (put : List OnLeg) → Facts s put → IsFine put s
  fine_of s put h = record { base = h.base; kept = λ a. h.kept a.0 a.1 }

  of_fine : (s : Server) (put : List OnLeg) → (on ≡ true → before ≤ acked put) → IsFine put s
      → Facts s put
  of_fine s put since h = record {
    base = h.base;
    since = since;
    kept = λ e a. h.kept (e, a);
  }

  -- no message passes
  goes_on : (s t : Server) (came put : List OnLeg) → (IsFine put s → IsFine put t)
      → Holds s came put → Holds t came put
  goes_on s t came put so h = λ long.
      let facts = h long in of_fine t put facts.since (so (fine_of s put facts))

  row_keeps : (s : Server) (leg : Leg) (m : Named) (came put : List OnLeg) (x : Done)
      → (IsFine put s → LongServes least (So put) (keeps put) (IsLong least m) x)
      → Holds s came put → RowKeeps Holds (leg, Packet m) came put x
  row_keeps s leg m came put (t, Err why) so h = goes_on s t came put so h
  row_keeps s leg m came put (t, Ok taken) so h = λ long.
      let parts = long_before least came (leg, Packet m) long in
      let facts = h parts.0 in
      of_fine t put facts.since (so (fine_of s put facts) parts.1)

  pdu_keeps : (s : Server) (leg : Leg) (bytes : List ℕ) (came put : List OnLeg) (x : Done)
      → (IsFine put s → IsFine put x.0) → Holds s came put
      → RowKeeps Holds (leg, Pdu bytes) came put x
  pdu_keeps s leg bytes came put (t, Err why) so h = goes_on s t came put so h
  pdu_keeps s leg bytes came put (t, Ok taken) so h = λ long.
      let facts = h (long_before least came (leg, Pdu bytes) long).0 in
      of_fine t put facts.since (so (fine_of s put facts))

  -- ---- puts

  in_keeps : (s : Server) (n : ℕ) (came put : List OnLeg) (pick : Pick)
      → IfSome pick (λ (one : Server × Message). view one.0 ≡ view s)
      → Holds s came put → PutKeeps Holds (leg_at InServer n) came put pick
  in_keeps s n came put None same h = tt
  in_keeps s n came put (Some one) same h = λ long.
      let facts = h long in
      let more = sym (same_there (is_ack_for channel) n one.1 put) in
      let ones = same_there is_in_r1_a3 n one.1 put in
      let twos = same_there is_in_r2_a3 n one.1 put in
      let bytes : answers put ≡ answers (put ++ (leg_at InServer n, one.1) ∷ []) =
      omega (arith, ones, twos) in record {
        base = subst (λ (v : View). Base channel least budget (seen_in channel least budget v))
            (sym same) facts.base;
        since = λ e. subst (λ (k : ℕ). before ≤ k) more (facts.since e);
        kept = λ e a. subst (λ (v : View). Kept channel least budget
            (seen_in channel least budget v) (answers (put ++ (leg_at InServer n, one.1) ∷ []))) (sym same)
            (subst (Kept channel least budget (seen channel least budget s)) bytes
            (facts.kept e (subst (λ (k : ℕ). k ≤ before) (sym more) a)));
      }

  out_keeps : (s : Server) (n : ℕ) (came put : List OnLeg) (pick : Pick)
      → ((base : Base channel least budget (seen channel least budget s)) → IfSome pick
      (λ (one : Server × Message). puts.IsFine channel least budget (answers put) n s base one.1
      (view one.0)))
      → Holds s came put → PutKeeps Holds (leg_at OutServer n) came put pick
  out_keeps s n came put None goes h = tt
  out_keeps s n came put (Some one) goes h = λ long.
      let facts = h long in
      let fine = goes facts.base in
      let more = more_there (is_ack_for channel) n one.1 put in record {
        base = fine.base;
        since = λ e. let least_then = facts.since e in omega (arith, least_then, more);
        kept = λ e a.
            subst (Kept channel least budget (seen channel least budget one.0))
            (more_answers channel n one.1 put)
            (fine.kept (
              facts.kept e (omega (arith, a, more)),
              λ is. let once = acked_one channel one.1 is in
                  let since_then = facts.since e in
                  absurd (omega (arith, a, more, once, since_then)),
            ));
      }

  put_keeps : (s : Server) (n : ℕ) (k : LegKind) (came put : List OnLeg) → Holds s came put
      → PutKeeps Holds (leg_at k n) came put (put_by_kind s n k)
  put_keeps s n InServer came put h = in_keeps s n came put (put_in s n) (in_same s n) h
  put_keeps s n OutServer came put h =
      out_keeps s n came put (put_out_at s (out_place n s.outs))
      (λ base. os_goes n s (puts.IsFine channel least budget (answers put) n s base)
      (puts.IsFine channel least budget (answers put) n s base)
      (fine_put channel least budget (answers put) n s base) (out_place n s.outs) refl) h
  put_keeps s n ClientIn came put h = tt
  put_keeps s n ClientOut came put h = tt

  -- ---- the role

  steps : StepsKeep server_rules Holds
  steps = record {
    up = λ s leg cookie came put h.
        goes_on s (up s leg cookie) came put
        (up_serves least (So put) (keeps put) s leg cookie) h;
    head = λ s leg text came put h. h;
    pdu = λ s leg count bytes came put h.
        pdu_keeps s leg bytes came put (pdu s leg count bytes)
        (pdu_row least (So put) (keeps put) s leg count bytes) h;
    packet = λ s leg count m came put h.
        row_keeps s leg m came put (packet_by s leg.number count m leg.kind)
        (packet_row least (So put) (keeps put) s leg.number count m leg.kind) h;
    put = λ s leg came put h. put_keeps s leg.number leg.kind came put h;
    drawn = λ s leg came put h.
        goes_on s (drawn_by s leg.number leg.kind) came put
        (drawn_serves least (So put) (keeps put) s leg.number leg.kind) h;
    mark = λ s leg came put h.
        goes_on s (mark_by s leg.number leg.kind) came put
        (mark_serves least (So put) (keeps put) s leg.number leg.kind) h;
    ping = λ s leg came put h. h;
  }

  calls : ActsKeep acts Holds
  calls = record {
    give = λ s bytes came put h.
        goes_on s (give s bytes).0 came put
        (give_serves least (So put) (keeps put) s bytes) h;
    take = λ s came put h.
        goes_on s (take s) came put
        (take_serves least (So put) (keeps put) s) h;
    close = λ s came put h. goes_on s (close s) came put (λ fine. fine) h;
    recycle = λ s came put h.
        goes_on s (recycle s).0 came put
        (recycles least (So put) (keeps put) s) h;
  }

  kept_by : (p : EndPassage Server) (moves : List EndMove)
      → Holds p.passage.role p.passage.came p.passage.put
      → let q = (all_end_moved server_rules acts p moves).passage in Holds q.role q.came q.put
  kept_by p moves h = end_moves_keep server_rules Holds steps acts calls p moves h

-- ---- the law

started_holds : (channel : Cookie) (least budget window : ℕ)
    → Holds channel least budget 0 false (first window) [] []
started_holds channel least budget window long = record {
  base = record {
    answered = λ e. absurd cc;
    sorted = tt;
    legs = tt;
  };
  since = λ e. absurd cc;
  kept = λ e. absurd cc;
}

module _ (window : ℕ) (front later : List EndMove) (least : ℕ) (channel : Cookie)
    (room : 56 * length (passed window front).role.waiting.due + 312 ≤ least)
    (waits : ahead.is_there channel (passed window front).role.waiting.due ≡ true) where
  abbrev then_at : EndPassage Server
  then_at = all_end_moved server_rules acts (end_started (first window)) front

  abbrev p : Passage Server
  p = passed window front

  abbrev budget : ℕ
  budget = answer_bytes p + ahead.weight channel p.role.waiting.due

  abbrev acked_then : ℕ
  acked_then = often (is_ack_for channel) OutServer p.put

  front_holds : Holds channel least budget acked_then true p.role p.came p.put
  front_holds long = record {
    base = (kept_by channel least budget 0 false (end_started (first window)) front
        (started_holds channel least budget window) long).base;
    since = λ e. omega arith;
    kept = λ e a. record {
      there = waits;
      room = let fewer = ahead.count_at_most channel p.role.waiting.due in
          omega (arith, room, fewer);
      phase = InTurn;
      total = omega arith;
      now = each p.role.outs;
    };
  }
    where
      each : (legs : List OutLeg)
          → AllByRecursion (IsKept channel least budget InTurn
          (seen channel least budget p.role) budget) legs
      each [] = tt
      each (leg ∷ legs) = (λ e. tt, each legs)

  pub overtaken : (q : Passage Server) → q ≡ passed window (front ++ later)
      → AreLong least q.came → often (is_ack_for channel) OutServer q.put ≤ acked_then
      → answer_bytes q ≤ budget + 311
  overtaken q same long few =
      by (subst (λ (r : Passage Server). Holds channel least budget acked_then true r.role r.came
      r.put) (sym (same ∙ ap (λ (e : EndPassage Server). e.passage)
      (all_end_moved_append server_rules acts (end_started (first window)) front later)))
      (kept_by channel least budget acked_then true then_at later front_holds) long)
    where
      at_most : (phase : Phase) (x : Seen) (n : ℕ) → IsTotal channel least budget phase x n
          → n ≤ budget + 311
      at_most InTurn x n h = omega (arith, h)
      at_most IsRefused x n h = h.2
      at_most HasRoom x n h = h.2

      by : Facts channel least budget acked_then true q.role q.put
          → answer_bytes q ≤ budget + 311
      by facts =
          let k = facts.kept refl few in
          let most = at_most k.phase (seen channel least budget q.role)
          (answer_bytes q + ahead.weight channel q.role.waiting.due) k.total in
          omega (arith, most)

pub few_overtake : (window : ℕ) (front later : List EndMove) → FewOvertake window front later
few_overtake window front later least channel long room waits few =
    let most = overtaken window front later least channel room
    (ahead.waits_there channel (passed window front).role.waiting.due waits)
    (passed window (front ++ later)) refl long few in
    let due = ahead.weight_at_most channel (passed window front).role.waiting.due in
    omega (arith, most, due)

-- ---- legs in the order of their numbers

pub legs_sorted : (window : ℕ) (moves : List EndMove) → Sorted (passed window moves).role.outs
legs_sorted window moves =
    (kept_by no_cookie 0 0 0 false (end_started (first window)) moves
    (started_holds no_cookie 0 0 window) (all_long (passed window moves).came)).base.sorted

-- ---- what is known of the legs

pub bases : (channel : Cookie) (least window : ℕ) (moves : List EndMove)
    → AreLong least (passed window moves).came
    → Base channel least 0 (seen channel least 0 (passed window moves).role)
bases channel least window moves long =
    (kept_by channel least 0 0 false (end_started (first window)) moves
    (started_holds channel least 0 window) long).base
