-- a server's legs have the numbers behind those that were up
use Rattle.law_order.proofs.Vocabulary.{◌≡◌, ℕ, ◌+◌, ◌==◌, ◌≤◌, ◌&&◌, List, [], ◌∷◌, Bool, true, false, Some, None, Ok, Err, nat_lt, not, refl, sym, ◌∙◌, subst, rules, arith, Option, Result, nat_tests, slice_get, length, nat_le, ◌++◌}
use Rattle.rh_sig.specs.declared.named.Named.TheVariants as named
use Rattle.rh_shell.specs.declared.end_role.GiveRefused.TheVariants as give_refused
use Rattle.rh_server.specs.declared.state.InLeg.{InLeg}
use Rattle.rh_server.specs.declared.state.OutLeg.{OutLeg}
use Rattle.rh_server.specs.declared.state.Leaving.{Leaving}
use Rattle.rh_server.specs.declared.state.Tells.{Tells}
use Rattle.rh_server.specs.States.{Server, is_open, is_closing, is_due, is_waiting, stays, in_leg, with_in, without_in, without_out, out_place}
use Rattle.rh_server.specs.Opening.{Done, unexpected, is_first, may_up, may_up_by, was_up, was_up_by, up, up_by, has_room, on_conn_a2, on_conn_b2}
use Rattle.rh_server.specs.OutLines.{Gate, lets, length_of, waits}
use Rattle.rh_server.specs.Acknowledging.{channel_at, on_ack_to, on_ack, on_ping_traffic}
use Rattle.rh_server.specs.InReplacement.{take, in_r2_a2_on, on_in_r1_a2, on_in_r1_a6, on_in_r2_a2}
use Rattle.rh_server.specs.OutReplacement.{recycle, on_out_r1_a4, on_out_r1_a8}
use Rattle.rh_server.specs.Ending.{give, give_by, on_end_a2, drawn, drawn_by, in_is_drawn, mark, mark_by, lost_in, with_ack_dropped, settled}
use Rattle.rh_server.specs.Putting.{Pick, or_else, put, put_by, put_in_by, put_in_greeting, put_tells, put_tells_by, put_b1, put_b1_by, put_ack, put_ack_by, ack_due, put_out, put_out_at, put_open, next_in, next_out, out_greeting_at, put_out_greeting, put_waiting, waiting_at, waiting_by, was_put, goes, with_out, counts, counts_at, may_go_at, may_end_at, is_end_due, gate, gate_at, put_pdu, pdu_by, put_end, put_pdu_or_end, settled_pick}
use Rattle.rh_server.specs.Servers.{rules as server_rules, acts as server_acts, on_is, on_os, packet, packet_by, pdu}
use Rattle.rh_server.specs.declared.state.EndMark.TheVariants as end_mark
use Rattle.rh_server.specs.declared.state.Greeting.TheVariants as greeting
use Rattle.rh_server.specs.declared.state.Leaving.TheVariants as leaving
use Rattle.rh_server.specs.declared.state.Tells.TheVariants as tells
use Rattle.rh_server.specs.declared.out_line.Kind.TheVariants as kind
use Rattle.law_moves.proofs.Vocabulary.{Ack, by_test, pdu_fault, PduFault, Cookie, Named, Leg, LegKind, ClientOut, OutServer, ClientIn, InServer, Which, Current, Next, front_length, total, queue_bytes, Count, Due, Text, Pdu, Packet, Waiting, taken, GiveRefused, first_of, greeting as greeting_text, Move, Up, HeadCame, PduCame, PacketCame, Puts, IsDrawn, Marks, Pings, Passage, EndMove, EndPassage, Moves, Gives, Takes, Closes, Recycles, moved, end_moved, end_now_at}
use Rattle.law_moves.proofs.Lemmas.{both}
use Rattle.law_node_causes.proofs.MoveRoles.{by_row, behind_put, by_put, by_given, by_first}
use Rattle.law_node_causes.specs.Once.{ComesUpOnce, KeepsUp}

-- the newest number of each kind
pub record Newest : Type 0 where
  pub ins : ℕ
  pub outs : ℕ

abbrev pub newest : Server → Newest
newest s = record { ins = s.newest_in; outs = s.newest_out }

abbrev pub Same : Server → Server → Type 0
Same s t = newest t ≡ newest s

-- no number is given again
pub record Grows (x y : Newest) : Type 0 where
  pub ins : x.ins ≤ y.ins
  pub outs : x.outs ≤ y.outs

grows_self : (x : Newest) → Grows x x
grows_self x = record { ins = omega arith; outs = omega arith }

abbrev pub Later : Server → Server → Type 0
Later s t = Grows (newest s) (newest t)

later_same : (s t : Server) → Same s t → Later s t
later_same s t same = subst (Grows (newest s)) (sym same) (grows_self (newest s))

-- ---- rows

same_conn_a2 : (s : Server) (n : ℕ) (count : Count) (a b : Cookie) (c d : ℕ)
    → Same s (on_conn_a2 s n count a b c d).0
same_conn_a2 s n count a b c d = search rules

same_conn_b2 : (s : Server) (n : ℕ) (count : Count) (a b : Cookie) (c d : ℕ)
    → Same s (on_conn_b2 s n count a b c d).0
same_conn_b2 s n count a b c d = search rules

same_in_r1_a2 : (s : Server) (n : ℕ) (count : Count) (a b c : Cookie) (d f : ℕ)
    → Same s (on_in_r1_a2 s n count a b c d f).0
same_in_r1_a2 s n count a b c d f = search rules

same_in_r1_a6 : (s : Server) (n : ℕ) (a : Cookie) → Same s (on_in_r1_a6 s n a).0
same_in_r1_a6 s n a = search rules

same_ack_to : (s : Server) (count : Count) (a b c : ℕ) (d : Cookie)
    → Same s (on_ack_to s count a b c d).0
same_ack_to s count a b c d = search rules

same_out_r1_a8 : (s : Server) (count : Count) (a : ℕ) (b : Cookie)
    → Same s (on_out_r1_a8 s count a b).0
same_out_r1_a8 s count a b = search rules

same_end_a2 : (s : Server) (n : ℕ) (count : Count) → Same s (on_end_a2 s n count).0
same_end_a2 s n count = search rules

same_out_r1_a4 : (s : Server) (n : ℕ) (count : Count) (a b c : Cookie) (d f g : ℕ)
    → Same s (on_out_r1_a4 s n count a b c d f g).0
same_out_r1_a4 s n count a b c d f g = search rules

same_ack : (s : Server) (n : ℕ) (count : Count) (a b : ℕ) (c : Cookie)
    → Same s (on_ack s n count a b c).0
same_ack s n count a b c = search rules

same_ping_traffic : (s : Server) (count : Count) → Same s (on_ping_traffic s count).0
same_ping_traffic s count = search rules

same_pdu : (s : Server) (leg : Leg) (count : Count) (bytes : List ℕ)
    → Same s (pdu s leg count bytes).0
same_pdu s leg count bytes = search rules

abbrev may_carry : Server → Count → Bool
may_carry s count =
    not (is_first count) && (is_open s.stage
    && (not (waits kind.InR2A3 s.waiting) && nat_lt s.newest_in 4294967295))

-- IN_R2/A2 gives the next number to a channel, and no leg of that number comes up
later_in_r2_a2 : (s : Server) (n : ℕ) (count : Count) (a : Cookie)
    → Later s (on_in_r2_a2 s n count a).0
later_in_r2_a2 s n count a =
    by_test (λ (d : Done). Later s d.0) (may_carry s count) (in_r2_a2_on s n a (channel_at s n))
    (unexpected s)
    (λ e. by (channel_at s n)) (λ e. grows_self (newest s))
  where
    by : (o : Option Which) → Later s (in_r2_a2_on s n a o).0
    by None = grows_self (newest s)
    by (Some Current) = record { ins = omega arith; outs = omega arith }
    by (Some Next) = record { ins = omega arith; outs = omega arith }

later_is : (s : Server) (n : ℕ) (count : Count) (packet : Named)
    → Later s (on_is s n count packet).0
later_is s n count (named.ConnB2 v1 v2 v3 v4 v5 v6 v7 v8) =
    later_same s (on_conn_b2 s n count v2 v3 v4 v5).0 (same_conn_b2 s n count v2 v3 v4 v5)
later_is s n count (named.InR1A2 v1 v2 v3 v4 v5 v6) =
    later_same s (on_in_r1_a2 s n count v2 v3 v4 v5 v6).0
    (same_in_r1_a2 s n count v2 v3 v4 v5 v6)
later_is s n count (named.InR1A6 v1) =
    later_same s (on_in_r1_a6 s n v1).0 (same_in_r1_a6 s n v1)
later_is s n count (named.InR2A2 v1) = later_in_r2_a2 s n count v1
later_is s n count (named.OutR1A8 v1 v2) =
    later_same s (on_out_r1_a8 s count v1 v2).0 (same_out_r1_a8 s count v1 v2)
later_is s n count named.EndA2 =
    later_same s (on_end_a2 s n count).0 (same_end_a2 s n count)
later_is s n count (named.AckTo v1 v2 v3 v4) =
    later_same s (on_ack_to s count v1 v2 v3 v4).0 (same_ack_to s count v1 v2 v3 v4)
later_is s n count packet = grows_self (newest s)

later_os : (s : Server) (n : ℕ) (count : Count) (packet : Named)
    → Later s (on_os s n count packet).0
later_os s n count (named.ConnA2 v1 v2 v3 v4 v5) =
    later_same s (on_conn_a2 s n count v2 v3 v4 v5).0 (same_conn_a2 s n count v2 v3 v4 v5)
later_os s n count (named.OutR1A4 v1 v2 v3 v4 v5 v6 v7) =
    later_same s (on_out_r1_a4 s n count v2 v3 v4 v5 v6 v7).0
    (same_out_r1_a4 s n count v2 v3 v4 v5 v6 v7)
later_os s n count (named.Ack v1 v2 v3) =
    later_same s (on_ack s n count v1 v2 v3).0 (same_ack s n count v1 v2 v3)
later_os s n count (named.PingTraffic v1) =
    later_same s (on_ping_traffic s count).0 (same_ping_traffic s count)
later_os s n count packet = grows_self (newest s)

later_packet : (s : Server) (leg : Leg) (count : Count) (named : Named)
    → Later s (packet s leg count named).0
later_packet s leg count named = by leg.kind
  where
    by : (kind : LegKind) → Later s (packet_by s leg.number count named kind).0
    by InServer = later_is s leg.number count named
    by OutServer = later_os s leg.number count named
    by ClientIn = grows_self (newest s)
    by ClientOut = grows_self (newest s)

-- ---- legs come up

later_up : (s : Server) (leg : Leg) (cookie : Cookie) → Later s (up s leg cookie)
later_up s leg cookie =
    by_test (Later s) (may_up s leg) (up_by s leg.number leg.kind) s (λ e. by leg.kind e)
    (λ e. grows_self (newest s))
  where
    number : (n m : ℕ) (room : Bool) → ((n == m + 1) && room) ≡ true → m ≤ n
    number n m room e =
        let same : (n == m + 1) ≡ true = (both (n == m + 1) room e).0 in
        grind (arith, nat_tests)

    by : (kind : LegKind) → may_up_by s leg.number kind ≡ true
        → Later s (up_by s leg.number kind)
    by InServer e = record {
      ins = number leg.number s.newest_in (has_room s.ins) e;
      outs = omega arith;
    }
    by OutServer e = record {
      ins = omega arith;
      outs = number leg.number s.newest_out (has_room s.outs) e;
    }
    by ClientIn e = absurd cc
    by ClientOut e = absurd cc

-- ---- what is put, drawn and lost

same_settled : (s : Server) → Same s (settled s)
same_settled s = search rules

same_drawn : (s : Server) (leg : Leg) → Same s (drawn s leg)
same_drawn s leg = by leg.kind
  where
    by : (kind : LegKind) → Same s (drawn_by s leg.number kind)
    by InServer =
        by_test (Same s) (in_is_drawn (in_leg leg.number s.ins)) (settled (without_in s leg.number))
        s (λ e. same_settled (without_in s leg.number)) (λ e. refl)
    by OutServer = refl
    by ClientIn = refl
    by ClientOut = refl

same_mark : (s : Server) (leg : Leg) → Same s (mark s leg)
same_mark s leg = by leg.kind
  where
    lost : (o : Option InLeg) → Same s (lost_in s leg.number o)
    lost None = refl
    lost (Some one) =
        by_test (Same s) (is_waiting one.stage && stays one.leaving)
        (with_in s (record one { leaving = leaving.Lost })) (without_in s leg.number) (λ e. refl)
        (λ e. refl)

    by : (kind : LegKind) → Same s (mark_by s leg.number kind)
    by InServer =
        same_settled (lost_in s leg.number (in_leg leg.number s.ins))
        ∙ lost (in_leg leg.number s.ins)
    by OutServer = same_settled (without_out (with_ack_dropped s leg.number) leg.number)
    by ClientIn = refl
    by ClientOut = refl

-- what may go leaves the numbers alone
abbrev SamePick : Server → Pick → Type 0
SamePick s pick = Same s (behind_put s pick)

or_same : (s : Server) (a b : Pick) → SamePick s a → SamePick s b → SamePick s (or_else a b)
or_same s None b p q = q
or_same s (Some pick) b p q = p

in_same : (s : Server) (leg : InLeg) → SamePick s (next_in s leg)
in_same s leg =
    or_same s (put_in_greeting s leg) (or_else (put_tells s leg) (or_else (put_b1 s leg)
    (put_ack s leg))) (search rules)
    (or_same s (put_tells s leg) (or_else (put_b1 s leg) (put_ack s leg)) (by_tells leg.tells)
    (or_same s (put_b1 s leg) (put_ack s leg) (by_leaving leg.leaving) (by_ack (ack_due s leg))))
  where
    by_tells : (t : Tells) → SamePick s (put_tells_by s leg t)
    by_tells tells.Nothing = refl
    by_tells tells.ConnB3 = search rules
    by_tells tells.InR1B2 = search rules

    by_leaving : (l : Leaving) → SamePick s (put_b1_by s leg l)
    by_leaving leaving.Stays = refl
    by_leaving leaving.InR1B1 = refl
    by_leaving leaving.Left = refl
    by_leaving leaving.Lost = refl

    by_ack : (o : Option Ack) → SamePick s (put_ack_by s o)
    by_ack None = refl
    by_ack (Some ack) = refl

counts_same : (s : Server) (place len : ℕ) → Same s (counts s place len)
counts_same s place len = by (slice_get s.outs place)
  where
    by : (o : Option OutLeg) → Same s (counts_at s place len o)
    by None = refl
    by (Some leg) = refl

was_same : (s : Server) (place : ℕ) (packet : Named) → Same s (was_put s place packet)
was_same s place (named.AckTo to received window cookie) =
    by_test (Same s) (to == 3) s (counts s place 56) (λ e. refl) (λ e. counts_same s place 56)
was_same s place named.OutR1A9 = counts_same s place 24
was_same s place packet = counts_same s place (length_of packet)

waiting_same : (s : Server) (place : ℕ) (q : Waiting × Option Due)
    → SamePick s (waiting_by s place q)
waiting_same s place (w, None) = refl
waiting_same s place (w, Some due) = was_same (record s { waiting = w }) place due.packet

out_waiting_same : (s : Server) (place : ℕ) → SamePick s (put_waiting s place)
out_waiting_same s place = by (gate_at s (slice_get s.outs place))
  where
    by : (o : Option Gate) → SamePick s (waiting_at s place o)
    by None = refl
    by (Some gate) = waiting_same s place (taken (lets gate) s.waiting)

out_pdu_same : (s : Server) (place : ℕ) → SamePick s (put_pdu s place)
out_pdu_same s place = by (front_length s.queue)
  where
    by : (o : Option ℕ) → SamePick s (pdu_by s place o)
    by None = refl
    by (Some len) =
        by_test (SamePick s) (may_go_at s len (slice_get s.outs place))
        (Some (goes s place len, Pdu (first_of s.queue))) None (λ e. refl) (λ e. refl)

out_end_same : (s : Server) (place : ℕ) → SamePick s (put_end s place)
out_end_same s place =
    by_test (SamePick s) (is_end_due s && may_end_at s (slice_get s.outs place))
    (Some (record (counts s place 24) { end_mark = end_mark.Put }, Packet named.EndB1)) None
    (λ e. counts_same s place 24) (λ e. refl)

settled_same : (s : Server) (pick : Pick) → SamePick s pick → SamePick s (settled_pick pick)
settled_same s None p = p
settled_same s (Some pick) p = same_settled pick.0 ∙ p

out_greeting_same : (s : Server) (place : ℕ) → SamePick s (put_out_greeting s place)
out_greeting_same s place = by (slice_get s.outs place)
  where
    by : (o : Option OutLeg) → SamePick s (out_greeting_at s place o)
    by None = refl
    by (Some leg) =
        by_test (SamePick s) (is_due leg.greeting)
        (Some (with_out s place (record leg { greeting = greeting.Put }), Text greeting_text)) None
        (λ e. refl) (λ e. refl)

open_same : (s : Server) (place : ℕ) → SamePick s (put_open s place)
open_same s place =
    by_test (SamePick s) (is_open s.stage) (settled_pick (next_out s place)) None
    (λ e. settled_same s (next_out s place)
    (or_same s (put_waiting s place) (put_pdu_or_end s place) (out_waiting_same s place)
    (or_same s (put_pdu s place) (put_end s place) (out_pdu_same s place) (out_end_same s place))))
    (λ e. refl)

out_same : (s : Server) (n : ℕ) → SamePick s (put_out s n)
out_same s n = by (out_place n s.outs)
  where
    by : (o : Option ℕ) → SamePick s (put_out_at s o)
    by None = refl
    by (Some place) =
        or_same s (put_out_greeting s place) (put_open s place) (out_greeting_same s place)
        (open_same s place)

put_same : (s : Server) (leg : Leg) → SamePick s (put s leg)
put_same s leg = by leg.kind
  where
    by_leg : (o : Option InLeg) → SamePick s (put_in_by s o)
    by_leg None = refl
    by_leg (Some one) = in_same s one

    by : (kind : LegKind) → SamePick s (put_by s leg.number kind)
    by InServer = by_leg (in_leg leg.number s.ins)
    by OutServer = out_same s leg.number
    by ClientIn = refl
    by ClientOut = refl

-- ---- moves

later_move : (p : Passage Server) (move : Move) → Later p.role (moved server_rules p move).role
later_move p (Up leg cookie) = later_up p.role leg cookie
later_move p (HeadCame leg text) = grows_self (newest p.role)
later_move p (PduCame leg count bytes) =
    by_row (Later p.role) p leg (Pdu bytes) (pdu p.role leg count bytes)
    (later_same p.role (pdu p.role leg count bytes).0 (same_pdu p.role leg count bytes))
later_move p (PacketCame leg count named) =
    by_row (Later p.role) p leg (Packet named) (packet p.role leg count named)
    (later_packet p.role leg count named)
later_move p (Puts leg) =
    by_put (Later p.role) p leg (put p.role leg)
    (later_same p.role (behind_put p.role (put p.role leg)) (put_same p.role leg))
later_move p (IsDrawn leg) = later_same p.role (drawn p.role leg) (same_drawn p.role leg)
later_move p (Marks leg) = later_same p.role (mark p.role leg) (same_mark p.role leg)
later_move p (Pings leg) = grows_self (newest p.role)

-- ---- calls

same_give : (s : Server) (bytes : List ℕ) → Same s (give s bytes).0
same_give s bytes =
    by_test (λ (x : Server × Result (Unit {0}) GiveRefused). Same s x.0) (is_closing s.giving)
    (s, Err give_refused.Closing) (give_by s bytes (pdu_fault bytes)) (λ e. refl)
    (λ e. by (pdu_fault bytes))
  where
    by : (o : Option PduFault) → Same s (give_by s bytes o).0
    by (Some fault) = refl
    by None =
        by_test (λ (x : Server × Result (Unit {0}) GiveRefused). Same s x.0)
        (nat_le (total s.queue + length bytes) queue_bytes)
        (record s { queue = s.queue ++ bytes ∷ [] }, Ok tt)
        (s, Err (give_refused.Full (total s.queue) (length bytes))) (λ e. refl) (λ e. refl)

same_take : (s : Server) → Same s (take s)
same_take s = search rules

same_recycle : (s : Server) → Same s (recycle s).0
same_recycle s = search rules

later_call : (p : EndPassage Server) (move : EndMove)
    → Later p.passage.role (end_moved server_rules server_acts p move).passage.role
later_call p (Moves move) = later_move p.passage move
later_call p (Gives bytes) =
    by_given (Later p.passage.role) p bytes (give p.passage.role bytes)
    (later_same p.passage.role (give p.passage.role bytes).0 (same_give p.passage.role bytes))
later_call p Takes =
    by_first (Later p.passage.role) (end_now_at p (take p.passage.role))
    p.passage.role.line.current.pdus
    (later_same p.passage.role (take p.passage.role) (same_take p.passage.role))
later_call p Closes = grows_self (newest p.passage.role)
later_call p Recycles =
    later_same p.passage.role (recycle p.passage.role).0 (same_recycle p.passage.role)

-- ---- what was up

below : (n m k : ℕ) → m ≤ k → (nat_lt n (m + 1) && nat_lt 0 n) ≡ true
    → (nat_lt n (k + 1) && nat_lt 0 n) ≡ true
below n m k le h = grind (arith, nat_tests)

stays_up : (s t : Server) (leg : Leg) → Later s t → was_up s leg ≡ true → was_up t leg ≡ true
stays_up s t leg g = by leg.kind
  where
    by : (kind : LegKind) → was_up_by s leg.number kind ≡ true
        → was_up_by t leg.number kind ≡ true
    by InServer h = below leg.number s.newest_in t.newest_in g.ins h
    by OutServer h = below leg.number s.newest_out t.newest_out g.outs h
    by ClientIn h = absurd cc
    by ClientOut h = absurd cc

is_next : (n m : ℕ) (room : Bool) → ((n == m + 1) && room) ≡ true
    → (nat_lt n (n + 1) && nat_lt 0 n) ≡ true
is_next n m room e =
    let same : (n == m + 1) ≡ true = (both (n == m + 1) room e).0 in
    grind (arith, nat_tests)

comes_up : (s : Server) (leg : Leg) (cookie : Cookie) → may_up s leg ≡ true
    → was_up (up s leg cookie) leg ≡ true
comes_up s leg cookie may = rw may (by leg.kind may)
  where
    by : (kind : LegKind) → may_up_by s leg.number kind ≡ true
        → was_up_by (up_by s leg.number kind) leg.number kind ≡ true
    by InServer e = is_next leg.number s.newest_in (has_room s.ins) e
    by OutServer e = is_next leg.number s.newest_out (has_room s.outs) e
    by ClientIn e = absurd cc
    by ClientOut e = absurd cc

not_next : (n m : ℕ) (room : Bool) → (nat_lt n (m + 1) && nat_lt 0 n) ≡ true
    → ((n == m + 1) && room) ≡ false
not_next n m room h =
    let below : nat_lt n (m + 1) ≡ true = (both (nat_lt n (m + 1)) (nat_lt 0 n) h).0 in
    let other : (n == m + 1) ≡ false = grind (arith, nat_tests) in
    rw other refl

not_again : (s : Server) (leg : Leg) → was_up s leg ≡ true → may_up s leg ≡ false
not_again s leg = by leg.kind
  where
    by : (kind : LegKind) → was_up_by s leg.number kind ≡ true
        → may_up_by s leg.number kind ≡ false
    by InServer h = not_next leg.number s.newest_in (has_room s.ins) h
    by OutServer h = not_next leg.number s.newest_out (has_room s.outs) h
    by ClientIn h = refl
    by ClientOut h = refl

-- nothing need hold of a server besides
pub server_once : ComesUpOnce server_rules (λ s. Unit {0})
server_once = record {
  kept = λ p move holds may. tt;
  stays = λ p move leg holds may h.
      stays_up p.role (moved server_rules p move).role leg (later_move p move) h;
  up = λ s leg cookie holds may. comes_up s leg cookie may.1;
  once = λ s leg holds h. not_again s leg h;
  unwanted = λ s leg holds h. refl;
}

pub server_keeps : KeepsUp server_rules server_acts (λ s. Unit {0})
server_keeps = record {
  kept = λ p move holds may. tt;
  stays = λ p move leg holds may h.
      stays_up p.passage.role (end_moved server_rules server_acts p move).passage.role leg
      (later_call p move) h;
}
