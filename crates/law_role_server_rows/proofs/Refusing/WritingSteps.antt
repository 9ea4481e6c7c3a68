-- a server's other steps keep the leg of the writing channel, and that of its successor
use Rattle.law_order.proofs.Vocabulary.{◌≡◌, ℕ, ◌+◌, ◌<◌, ◌==◌, List, [], ◌∷◌, Bool, true, false, nat_le, ◌&&◌, not, Some, None, arith, refl, sym, rules, false≢true, and_parts, nat_tests, slice_get, remove, IfSome, IsTrue, Option}
use Rattle.rh_sig.specs.declared.named.Named.TheVariants as named
use Rattle.rh_server.specs.Servers.{pdu_by}
use Rattle.rh_server.specs.declared.state.Greeting.TheVariants as greetings
use Rattle.rh_server.specs.declared.state.Stage.TheVariants as stage
use Rattle.law_moves.proofs.Vocabulary.{fits, by_test, Cookie, Named, front_length, Leg, LegKind, ClientOut, OutServer, ClientIn, InServer, Due, Message, Packet, Pdu, Waiting, taken, OnLeg, EndMove, AreAllowedAtEnd, end_started, all_end_moved}
use Rattle.law_moves.proofs.Lemmas.{PutKeeps, ActsKeep}
use Rattle.law_role_server.proofs.Vocabulary.{OutLeg, Replacement, Steady, Asked, Answered, Confirmed, Stage, Gate, lets, lets_packet, length_of, counted, went, Server, is_open, is_due, is_confirmed, in_leg, out_place, removed_at, without_in, without_out, may_up_by, out_leg_up, up, up_by, take, asks, wishes, recycle, handed, give, completed, is_complete, settled, in_is_drawn, drawn_by, with_ack_dropped, lost_in, mark_by, only_marks_by, Pick, or_else, put_in, out_greeting_at}
use Rattle.law_role_server.proofs.Vocabulary.{put_out_greeting, gate, gate_at, counts, counts_at, was_put, waiting_by, waiting_at, put_waiting, may_go_at, went_at, pdu_by as put_pdu_by, put_pdu, is_end_due, may_end_at, put_end, put_pdu_or_end, next_out, settled_pick, put_open, put_out_at, put_by as put_by_kind, packet_by, first, acts, rules as server_rules, since_conn_a2, since_answered}
use Rattle.law_role_server.proofs.Counted.Dues.{found_may}
use Rattle.law_role_server_rows.proofs.Refusing.Allowed.{MayKeep, allowed_keep}
use Rattle.law_role_server_rows.proofs.Refusing.Told.{seen, number_at}
use Rattle.law_role_server_rows.proofs.Refusing.Steps.{PickSame, in_same, lost_same, pdu_same, give_same, take_same}
use Rattle.law_role_server_rows.proofs.Refusing.Begun.{is_there}
use Rattle.law_role_server_rows.proofs.Refusing.Writing.{has_push, has_set, has_removed, Writes, Holds, row_writes, same_writes, set_writes, stage_writes, packet_writes}

abbrev Fine : Server → Type 0
Fine s = Writes (seen s)

open_since : (at : Stage) → is_open at ≡ true → since_conn_a2 at ≡ 1
open_since stage.Waits e = absurd (false≢true e)
open_since (stage.OutCame connection) e = absurd (false≢true e)
open_since (stage.InCame connection window timeout) e = absurd (false≢true e)
open_since (stage.Open connection) e = refl
open_since stage.Ended e = absurd (false≢true e)

confirmed_since : (at : Replacement) → is_confirmed at ≡ true → since_answered at ≡ 1
confirmed_since Steady e = absurd (false≢true e)
confirmed_since Asked e = absurd (false≢true e)
confirmed_since (Answered successor) e = absurd (false≢true e)
confirmed_since Confirmed e = refl

-- a successor is asked for
asks_writes : (s : Server) → Fine s → Fine (asks s)
asks_writes s h = record { early = h.early; now = h.now; next = λ e. absurd (omega (arith, e)) }

settles : (s : Server) → Fine s → Fine (settled s)
settles s h =
    by_test Fine (wishes (completed s)) (asks (completed s)) (completed s)
    (λ e. asks_writes (completed s) done) (λ e. done)
  where
    done : Fine (completed s)
    done = by_test Fine (is_complete s) (record s { stage = stage.Ended }) s
        (λ e. stage_writes (seen s) stage.Ended
        (sym (open_since s.stage (and_parts (is_open s.stage) _ e).0)) h) (λ e. h)

-- ---- what is put

abbrev PickFine : Pick → Type 0
PickFine pick = IfSome pick (λ (one : Server × Message). Fine one.0)

or_fine : (a b : Pick) → PickFine a → PickFine b → PickFine (or_else a b)
or_fine None b p q = q
or_fine (Some pick) b p q = p

module _ (s : Server) (h : Fine s) where
  greeting_fine : (place : ℕ) (o : Option OutLeg) → slice_get s.outs place ≡ o
      → PickFine (out_greeting_at s place o)
  greeting_fine place None at = tt
  greeting_fine place (Some x) at =
      by_test PickFine (is_due x.greeting) _ None
      (λ e. set_writes s place x (record x { greeting = greetings.Put }) at refl h) (λ e. tt)

  counts_fine : (place len : ℕ) → Fine (counts s place len)
  counts_fine place len = by (slice_get s.outs place) refl
    where
      by : (o : Option OutLeg) → slice_get s.outs place ≡ o → Fine (counts_at s place len o)
      by None at = h
      by (Some x) at = set_writes s place x (counted x len) at refl h

  -- the successor's leg is that of the writing channel
  handed_fine : (place : ℕ) → is_open s.stage ≡ true → is_confirmed s.replacement ≡ true
      → Fine (handed (counts s place 24))
  handed_fine place opened confirmed = by (slice_get s.outs place) refl
    where
      not_early : since_conn_a2 s.stage ≡ 0 → ⊥
      not_early e = let one = open_since s.stage opened in omega (arith, e, one)

      by : (o : Option OutLeg) → slice_get s.outs place ≡ o
          → Fine (handed (counts_at s place 24 o))
      by None at = record {
        early = λ e. absurd (not_early e);
        now = λ e. h.next (confirmed_since s.replacement confirmed);
        next = λ e. absurd (omega (arith, e));
      }
      by (Some x) at = record {
        early = λ e. absurd (not_early e);
        now = λ e.
            has_set (s.writing + 1) s.outs place x (counted x 24) at refl
            (h.next (confirmed_since s.replacement confirmed));
        next = λ e. absurd (omega (arith, e));
      }

  was_put_fine : (place : ℕ) (g : Gate) (packet : Named) → is_open s.stage ≡ true
      → (g.hands_over ≡ true → is_confirmed s.replacement ≡ true)
      → lets_packet g packet ≡ true → Fine (was_put s place packet)
  was_put_fine place g (named.AckTo to received available cookie) opened hands may =
      by_test Fine (to == 3) s (counts s place 56) (λ e. h) (λ e. counts_fine place 56)
  was_put_fine place g named.OutR1A9 opened hands may =
      handed_fine place opened
      (hands (and_parts g.hands_over (fits g.meter 24)
      (and_parts g.is_writing (g.hands_over && fits g.meter 24) may).1).0)
  was_put_fine place g packet opened hands may = counts_fine place (length_of packet)

  end_fine : (place : ℕ) → PickFine (put_end s place)
  end_fine place =
      by_test PickFine (is_end_due s && may_end_at s (slice_get s.outs place)) _ None
      (λ e.
      let k = counts_fine place 24 in record { early = k.early; now = k.now; next = k.next })
      (λ e. tt)

  pdu_fine : (place : ℕ) (len : Option ℕ) → PickFine (put_pdu_by s place len)
  pdu_fine place None = tt
  pdu_fine place (Some len) =
      by_test PickFine (may_go_at s len (slice_get s.outs place)) _ None
      (λ e.
      let k = by (slice_get s.outs place) refl in
      record { early = k.early; now = k.now; next = k.next }) (λ e. tt)
    where
      by : (o : Option OutLeg) → slice_get s.outs place ≡ o
          → Writes (record (seen s) { outs = went_at s place len o })
      by None at = h
      by (Some x) at = set_writes s place x (went x len) at refl h

waiting_fine : (s : Server) (place : ℕ) (g : Gate) (x : Waiting × Option Due)
    → is_open s.stage ≡ true → (g.hands_over ≡ true → is_confirmed s.replacement ≡ true)
    → IfSome x.1 (λ (due : Due). lets g due ≡ true) → Fine s → PickFine (waiting_by s place x)
waiting_fine s place g (w, None) opened hands may h = tt
waiting_fine s place g (w, Some due) opened hands may h =
    was_put_fine (record s { waiting = w })
    (record { early = h.early; now = h.now; next = h.next }) place g due.packet opened hands may

gate_fine : (s : Server) (place : ℕ) (o : Option OutLeg) → is_open s.stage ≡ true → Fine s
    → PickFine (waiting_at s place (gate_at s o))
gate_fine s place None opened h = tt
gate_fine s place (Some leg) opened h =
    waiting_fine s place (gate s leg) (taken (lets (gate s leg)) s.waiting) opened
    (λ e. (and_parts (is_confirmed s.replacement) _ e).0)
    (found_may (lets (gate s leg)) s.waiting.due) h

settled_fine : (pick : Pick) → PickFine pick → PickFine (settled_pick pick)
settled_fine None h = tt
settled_fine (Some pick) h = settles pick.0 h

out_fine : (s : Server) (place : Option ℕ) → Fine s → PickFine (put_out_at s place)
out_fine s None h = tt
out_fine s (Some place) h =
    or_fine (put_out_greeting s place) (put_open s place)
    (greeting_fine s h place (slice_get s.outs place) refl)
    (by_test PickFine (is_open s.stage) (settled_pick (next_out s place)) None
    (λ e. settled_fine (next_out s place)
    (or_fine (put_waiting s place) (put_pdu_or_end s place)
    (gate_fine s place (slice_get s.outs place) e h)
    (or_fine (put_pdu s place) (put_end s place)
    (pdu_fine s h place (front_length s.queue)) (end_fine s h place))))
    (λ e. tt))

put_kept : (s : Server) (n : ℕ) (k : LegKind) (came put : List OnLeg) → Fine s
    → PutKeeps Holds (record { kind = k; number = n }) came put (put_by_kind s n k)
put_kept s n InServer came put h = by (put_in s n) (in_same s n)
  where
    by : (pick : Pick) → PickSame s pick
        → PutKeeps Holds (record { kind = InServer; number = n }) came put pick
    by None same = tt
    by (Some one) same = same_writes s one.0 same h
put_kept s n OutServer came put h =
    by (put_out_at s (out_place n s.outs)) (out_fine s (out_place n s.outs) h)
  where
    by : (pick : Pick) → PickFine pick
        → PutKeeps Holds (record { kind = OutServer; number = n }) came put pick
    by None fine = tt
    by (Some one) fine = fine
put_kept s n ClientIn came put h = tt
put_kept s n ClientOut came put h = tt

-- ---- legs come up, and are lost

up_kept : (s : Server) (leg : Leg) (cookie : Cookie) → Fine s → Fine (up s leg cookie)
up_kept s leg cookie h =
    by_test Fine (may_up_by s leg.number leg.kind) (up_by s leg.number leg.kind) s
    (λ e. by leg.kind) (λ e. h)
  where
    by : (k : LegKind) → Fine (up_by s leg.number k)
    by InServer = record { early = h.early; now = h.now; next = h.next }
    by OutServer = record {
      early = h.early;
      now = λ e. has_push s.writing s.outs (out_leg_up leg.number ∷ []) (h.now e);
      next = λ e. has_push (s.writing + 1) s.outs (out_leg_up leg.number ∷ []) (h.next e);
    }
    by ClientIn = h
    by ClientOut = h

drawn_kept : (s : Server) (n : ℕ) (k : LegKind) → Fine s → Fine (drawn_by s n k)
drawn_kept s n InServer h =
    by_test Fine (in_is_drawn (in_leg n s.ins)) (settled (without_in s n)) s
    (λ e. settles (without_in s n) (record { early = h.early; now = h.now; next = h.next }))
    (λ e. h)
drawn_kept s n OutServer h = h
drawn_kept s n ClientIn h = h
drawn_kept s n ClientOut h = h

-- only one behind the writing channel is lost
gone_kept : (s : Server) (n : ℕ) → n < s.writing → (place : Option ℕ)
    → out_place n s.outs ≡ place → Fine s
    → Writes (record (seen s) { outs = removed_at s.outs place })
gone_kept s n below None found h = h
gone_kept s n below (Some place) found h = by (slice_get s.outs place) refl
  where
    by : (o : Option OutLeg) → slice_get s.outs place ≡ o
        → Writes (record (seen s) { outs = remove s.outs place })
    by None at = absurd (is_there s n place found at)
    by (Some x) at =
        let is = number_at s.outs n place x found at in record {
          early = h.early;
          now = λ e.
              has_removed s.writing s.outs place x at (λ f. omega (arith, f, is, below)) (h.now e);
          next = λ e.
              has_removed (s.writing + 1) s.outs place x at (λ f. omega (arith, f, is, below))
              (h.next e);
        }

mark_kept : (s : Server) (n : ℕ) (k : LegKind) → IsTrue (only_marks_by s n k) → Fine s
    → Fine (mark_by s n k)
mark_kept s n InServer only h =
    settles (lost_in s n (in_leg n s.ins))
    (same_writes s (lost_in s n (in_leg n s.ins)) (lost_same s n (in_leg n s.ins)) h)
mark_kept s n OutServer only h =
    let t : Server = with_ack_dropped s n in
    settles (without_out t n)
    (gone_kept t n (below (nat_le s.writing n) refl only) (out_place n t.outs) refl
    (record { early = h.early; now = h.now; next = h.next }))
  where
    below : (b : Bool) → nat_le s.writing n ≡ b → IsTrue (not b) → n < s.writing
    below true e only = absurd (false≢true only)
    below false e only = grind (arith, nat_tests, e)
mark_kept s n ClientIn only h = h
mark_kept s n ClientOut only h = h

recycle_kept : (s : Server) → Fine s → Fine (recycle s).0
recycle_kept s h = search (rules, asks_writes)

-- ---- the server

steps : MayKeep server_rules Holds
steps = record {
  up = λ s leg cookie came put h. up_kept s leg cookie h;
  head = λ s leg text came put h. h;
  pdu = λ s leg count bytes came put h.
      row_writes (leg, Pdu bytes) came put (pdu_by s leg.number bytes leg.kind)
      (same_writes s (pdu_by s leg.number bytes leg.kind).0
      (pdu_same s leg.number bytes leg.kind) h);
  packet = λ s leg count packet came put used h.
      row_writes (leg, Packet packet) came put (packet_by s leg.number count packet leg.kind)
      (packet_writes s leg.number count packet leg.kind used h);
  put = λ s leg came put h. put_kept s leg.number leg.kind came put h;
  drawn = λ s leg came put h. drawn_kept s leg.number leg.kind h;
  mark = λ s leg came put only h. mark_kept s leg.number leg.kind only h;
  ping = λ s leg came put h. h;
}

calls : ActsKeep acts Holds
calls = record {
  give = λ s bytes came put h. same_writes s (give s bytes).0 (give_same s bytes) h;
  take = λ s came put h. same_writes s (take s) (take_same s) h;
  close = λ s came put h. record { early = h.early; now = h.now; next = h.next };
  recycle = λ s came put h. recycle_kept s h;
}

pub writes_so : (window : ℕ) (moves : List EndMove)
    → AreAllowedAtEnd server_rules acts (end_started (first window)) moves
    → let p = (all_end_moved server_rules acts (end_started (first window)) moves).passage in
    Writes (seen p.role)
writes_so window moves may =
    allowed_keep server_rules Holds steps acts calls (end_started (first window)) moves may
    (record {
      early = λ e. refl;
      now = λ e. absurd (omega (arith, e));
      next = λ e. absurd (omega (arith, e));
    })
