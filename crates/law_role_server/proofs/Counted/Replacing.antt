-- a server replaces OUT channels one by one
use Rattle.law_order.proofs.Vocabulary.{◌≡◌, ℕ, ◌==◌, Bool, true, List, [], ◌∷◌, ◌++◌, Some, None, arith, refl, rules, sym, ap, ◌∙◌, subst, position-Some, get_or_from_slice_get, IfSome, slice_get, find, Option}
use Rattle.rh_sig.specs.declared.named.Named.TheVariants as named
use Rattle.law_moves.proofs.Vocabulary.{Ack, by_test, same_number, Cookie, Named, front_length, Leg, LegKind, ClientOut, OutServer, ClientIn, InServer, Count, Due, Message, Pdu, Packet, Waiting, taken, OnLeg, Passage, EndMove, end_started, all_end_moved}
use Rattle.law_moves.proofs.Lemmas.{PutKeeps, StepsKeep, ActsKeep, end_moves_keep}
use Rattle.law_role_server.proofs.Vocabulary.{InLeg, OutLeg, Leaving, Tells, lets, length_of, is_ack, Server, is_open, in_leg, out_place, without_in, without_out, up, take, give, settled, drawn_by, in_is_drawn, mark_by, lost_in, with_ack_dropped, Pick, or_else, put_in_greeting, put_tells_by, put_tells, put_b1_by, put_b1, put_ack_by, put_ack, ack_due, put_in_by, out_greeting_at, put_out_greeting, counts, was_put, waiting_by, waiting_at, put_waiting, gate, gate_at, pdu_by}
use Rattle.law_role_server.proofs.Vocabulary.{put_pdu, put_end, put_pdu_or_end, next_out, settled_pick, put_open, put_out_at, put_by, acts, first, pdu, rules as server_rules, is_in_r1_a3, is_out_r1_a1, is_out_r1_a5, is_out_r1_a9, leg_at, AreReplaced, AreInTurn, ArePutInTurn}
use Rattle.law_role_server.proofs.Counted.Dues.{Went, first_goes, found_may, others_have}
use Rattle.law_role_server.proofs.Counted.Adding.{take_adds, dropped_adds}
use Rattle.law_role_server.proofs.Counted.Stages.{Kept, IsQuiet, IsQuietPut, starts, asked_once, put_quiet, goes_kept, at_behind, writing_behind}
use Rattle.law_role_server.proofs.Counted.Packets.{r1_apart, ack_apart}
use Rattle.law_role_server.proofs.Counted.OutRows.{channel, Seen, seen, Holds, same_holds, added_holds, settled_holds, recycle_holds, row_same, packet_row}

-- ---- what is put

counts_same : (s : Server) (place len : ℕ) → seen (counts s place len) ≡ seen s
counts_same s place len = search rules

abbrev behind : Named → Seen → Seen
behind packet x = record {
  now = record {
    at = at_behind packet x.now.at;
    writing = writing_behind packet x.now.writing;
  };
  waiting = x.waiting;
}

was_put_seen : (s : Server) (place : ℕ) (packet : Named)
    → seen (was_put s place packet) ≡ behind packet (seen s)
was_put_seen s place named.OutR1A9 = ap (behind named.OutR1A9) (counts_same s place 24)
was_put_seen s place (named.AckTo destination received window cookie) =
    by_test (λ (t : Server). seen t ≡ seen s) (destination == 3) s (counts s place 56) (λ e. refl)
    (λ e. counts_same s place 56)
was_put_seen s place packet = counts_same s place (length_of packet)

-- the leg that is found has the number
pub found_number : (n place : ℕ) (legs : List OutLeg) (leg : OutLeg) → out_place n legs ≡ Some place
    → slice_get legs place ≡ Some leg → leg.number ≡ n
found_number n place legs leg e at =
    let found = position-Some (λ (one : OutLeg). one.number == n) legs place leg e in
    same_number leg.number n (ap (λ (one : OutLeg). one.number == n)
    (sym (get_or_from_slice_get legs place leg leg at)) ∙ found.1)

module _ (n : ℕ) (came put : List OnLeg) where
  abbrev Puts : LegKind → Pick → Type 0
  Puts kind pick = PutKeeps Holds (leg_at kind n) came put pick

  or_put : (kind : LegKind) (a b : Pick) → Puts kind a → Puts kind b → Puts kind (or_else a b)
  or_put kind None b h k = k
  or_put kind (Some pick) b h k = h

  -- what leaves these alone
  abbrev Quiet : LegKind → Server → Pick → Type 0
  Quiet kind s pick =
      IfSome pick (λ (one : Server × Message).
      (seen one.0 ≡ seen s) × IsQuietPut (leg_at kind n, one.1))

  quiet_puts : (kind : LegKind) (s : Server) (pick : Pick) → Quiet kind s pick
      → Holds s came put → Puts kind pick
  quiet_puts kind s None quiet h = tt
  quiet_puts kind s (Some one) quiet h =
      same_holds s one.0 came (put ++ (leg_at kind n, one.1) ∷ []) quiet.0
      (put_quiet s.replacement s.writing s.waiting.due came put (leg_at kind n, one.1) quiet.1 h)

  -- on an is leg
  in_puts : (s : Server) (o : Option InLeg) → Holds s came put → Puts InServer (put_in_by s o)
  in_puts s None h = tt
  in_puts s (Some leg) h =
      or_put InServer (put_in_greeting s leg) _
      (quiet_puts InServer s (put_in_greeting s leg) (search rules) h)
      (or_put InServer (put_tells s leg) _
      (quiet_puts InServer s (put_tells s leg) (tells leg.tells) h)
      (or_put InServer (put_b1 s leg) (put_ack s leg)
      (quiet_puts InServer s (put_b1 s leg) (b1 leg.leaving) h)
      (quiet_puts InServer s (put_ack s leg) (ack (ack_due s leg)) h)))
    where
      tells : (t : Tells) → Quiet InServer s (put_tells_by s leg t)
      tells t = search rules

      b1 : (x : Leaving) → Quiet InServer s (put_b1_by s leg x)
      b1 x = search rules

      ack : (a : Option Ack) → Quiet InServer s (put_ack_by s a)
      ack a = search rules

  -- on an os leg
  waiting_puts : (s : Server) (place : ℕ) (o : Option OutLeg) → out_place n s.outs ≡ Some place
      → slice_get s.outs place ≡ o → Holds s came put
      → Puts OutServer (waiting_at s place (gate_at s o))
  waiting_puts s place None is at h = tt
  waiting_puts s place (Some leg) is at h =
      by (find may_go dues) (found_may may_go dues) (first_goes is_out_r1_a1 may_go dues)
      (first_goes is_out_r1_a5 may_go dues) (first_goes is_out_r1_a9 may_go dues)
    where
      may_go : Due → Bool
      may_go = lets (gate s leg)

      dues : List Due
      dues = s.waiting.due

      left : Waiting
      left = (taken (lets (gate s leg)) s.waiting).0

      writes : leg.number == s.writing ≡ true → n ≡ s.writing
      writes e =
          sym (found_number n place s.outs leg is at) ∙ same_number leg.number s.writing e

      by : (x : Option Due) → IfSome x (λ (due : Due). may_go due ≡ true)
          → Went is_out_r1_a1 dues left.due x → Went is_out_r1_a5 dues left.due x
          → Went is_out_r1_a9 dues left.due x → Puts OutServer (waiting_by s place (left, x))
      by None may a1 a5 a9 = tt
      by (Some due) may a1 a5 a9 =
          let t : Server = record s { waiting = left } in
          subst (λ (x : Seen). Kept x.now.at x.now.writing x.waiting.due came
          (put ++ (leg_at OutServer n, Packet due.packet) ∷ []))
          (sym (was_put_seen t place due.packet))
          (goes_kept s.writing dues left.due came put n s.replacement (gate s leg) due.packet may
          writes (record {
            a1 = a1;
            a5 = a5;
            a9 = a9;
            origins = others_have may_go dues h.origins;
          }) h)

  next_puts : (s : Server) (place : ℕ) → out_place n s.outs ≡ Some place → Holds s came put
      → Puts OutServer (next_out s place)
  next_puts s place is h =
      or_put OutServer (put_waiting s place) (put_pdu_or_end s place)
      (waiting_puts s place (slice_get s.outs place) is refl h)
      (or_put OutServer (put_pdu s place) (put_end s place)
      (quiet_puts OutServer s (put_pdu s place) (pdu_quiet (front_length s.queue)) h)
      (quiet_puts OutServer s (put_end s place) (search rules) h))
    where
      pdu_quiet : (len : Option ℕ) → Quiet OutServer s (pdu_by s place len)
      pdu_quiet len = search rules

  settled_puts : (pick : Pick) → Puts OutServer pick → Puts OutServer (settled_pick pick)
  settled_puts None h = tt
  settled_puts (Some pick) h =
      settled_holds pick.0 came (put ++ (leg_at OutServer n, pick.1) ∷ []) h

  out_puts : (s : Server) (place : Option ℕ) → out_place n s.outs ≡ place → Holds s came put
      → Puts OutServer (put_out_at s place)
  out_puts s None is h = tt
  out_puts s (Some place) is h =
      or_put OutServer (put_out_greeting s place) (put_open s place)
      (quiet_puts OutServer s (put_out_greeting s place)
      (greeting (slice_get s.outs place)) h)
      (by_test (Puts OutServer) (is_open s.stage) (settled_pick (next_out s place)) None
      (λ e. settled_puts (next_out s place) (next_puts s place is h)) (λ e. tt))
    where
      greeting : (o : Option OutLeg) → Quiet OutServer s (out_greeting_at s place o)
      greeting o = search rules

  puts : (s : Server) (k : LegKind) → Holds s came put → Puts k (put_by s n k)
  puts s InServer h = in_puts s (in_leg n s.ins) h
  puts s OutServer h = out_puts s (out_place n s.outs) refl h
  puts s ClientIn h = tt
  puts s ClientOut h = tt

-- ---- legs are drawn and lost

drawn_holds : (s : Server) (n : ℕ) (k : LegKind) (came put : List OnLeg) → Holds s came put
    → Holds (drawn_by s n k) came put
drawn_holds s n InServer came put h =
    by_test (λ (t : Server). Holds t came put) (in_is_drawn (in_leg n s.ins))
    (settled (without_in s n)) s (λ e. settled_holds (without_in s n) came put h) (λ e. h)
drawn_holds s n OutServer came put h = h
drawn_holds s n ClientIn came put h = h
drawn_holds s n ClientOut came put h = h

lost_same : (s : Server) (n : ℕ) (o : Option InLeg) → seen (lost_in s n o) ≡ seen s
lost_same s n o = search rules

mark_holds : (s : Server) (n : ℕ) (k : LegKind) (came put : List OnLeg) → Holds s came put
    → Holds (mark_by s n k) came put
mark_holds s n InServer came put h =
    settled_holds (lost_in s n (in_leg n s.ins)) came put
    (same_holds s (lost_in s n (in_leg n s.ins)) came put (lost_same s n (in_leg n s.ins)) h)
mark_holds s n OutServer came put h =
    settled_holds (without_out (with_ack_dropped s n) n) came put
    (added_holds is_ack ack_apart s (with_ack_dropped s n) came put refl (dropped_adds s n) h)
mark_holds s n ClientIn came put h = h
mark_holds s n ClientOut came put h = h

up_same : (s : Server) (leg : Leg) (cookie : Cookie) → seen (up s leg cookie) ≡ seen s
up_same s leg cookie = search rules

pdu_same : (s : Server) (leg : Leg) (count : Count) (bytes : List ℕ)
    → seen (pdu s leg count bytes).0 ≡ seen s
pdu_same s leg count bytes = search rules

give_same : (s : Server) (bytes : List ℕ) → seen (give s bytes).0 ≡ seen s
give_same s bytes = search rules

take_same : (s : Server) → channel (take s) ≡ channel s
take_same s = search rules

pdu_quiet : (leg : Leg) (bytes : List ℕ) → IsQuiet (leg, Pdu bytes)
pdu_quiet leg bytes = search rules

-- ---- the role

steps : StepsKeep server_rules Holds
steps = record {
  up = λ s leg cookie came put.
      same_holds s (up s leg cookie) came put (up_same s leg cookie);
  head = λ s leg text came put h. h;
  pdu = λ s leg count bytes came put h.
      row_same s (leg, Pdu bytes) came put h (pdu_quiet leg bytes) (pdu s leg count bytes)
      (pdu_same s leg count bytes);
  packet = λ s leg count m. packet_row s leg.number count m leg.kind;
  put = λ s leg came put. puts leg.number came put s leg.kind;
  drawn = λ s leg. drawn_holds s leg.number leg.kind;
  mark = λ s leg. mark_holds s leg.number leg.kind;
  ping = λ s leg came put h. h;
}

calls : ActsKeep acts Holds
calls = record {
  give = λ s bytes came put. same_holds s (give s bytes).0 came put (give_same s bytes);
  take = λ s came put.
      added_holds is_in_r1_a3 r1_apart s (take s) came put (take_same s) (take_adds s);
  close = λ s came put h. h;
  recycle = λ s. recycle_holds s;
}

module _ (window : ℕ) (moves : List EndMove) where
  abbrev pub p : Passage Server
  p = (all_end_moved server_rules acts (end_started (first window)) moves).passage

  kept : Holds p.role p.came p.put
  kept =
      end_moves_keep server_rules Holds steps acts calls (end_started (first window)) moves
      starts

  pub are_replaced : AreReplaced p
  are_replaced = record {
    writing = kept.writes;
    asked = kept.asked;
    began = kept.began;
    answered = kept.answered;
    confirmed = kept.confirmed;
    a1_waits = kept.a1_waits;
    a5_waits = kept.a5_waits;
    a9_waits = kept.a9_waits;
  }

  pub are_in_turn : AreInTurn p
  are_in_turn =
      let k = kept in
      let once = asked_once p.role.replacement in record {
        a9_behind_a8 = omega (arith, k.confirmed);
        a8_behind_a5 = omega (arith, k.confirmed, k.answered, k.a5_waits);
        a5_behind_a4 = omega (arith, k.answered, k.began);
        a4_behind_a1 = omega (arith, k.began, k.asked, k.a1_waits);
        a1_behind_a9 = omega (arith, k.asked, once);
      }

  pub are_put_in_turn : ArePutInTurn p
  are_put_in_turn = record {
    a1 = kept.a1_legs;
    a4 = kept.a4_legs;
    a5 = kept.a5_legs;
    a9 = kept.a9_legs;
  }
