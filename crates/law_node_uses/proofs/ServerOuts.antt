-- an os leg that a server keeps stays behind each move but one that marks it
use Rattle.law_order.proofs.Vocabulary.{◌≡◌, inl, inr, ℕ, ◌==◌, List, [], ◌∷◌, ◌++◌, Bool, true, false, true≢false, ◌&&◌, not, Some, None, Ok, Err, refl, sym, ◌∙◌, rules, false≢true, slice_get, remove, IfSome, IsTrue, Option}
use Rattle.rh_sig.specs.declared.named.Named.TheVariants as named
use Rattle.rh_server.specs.Servers.{pdu_by}
use Rattle.rh_server.specs.declared.state.Greeting.TheVariants as greetings
use Rattle.law_moves.proofs.Vocabulary.{by_test, same_number, other_number, Cookie, Named, front_length, Leg, LegKind, ClientOut, OutServer, ClientIn, InServer, Due, Message, Packet, Pdu, same_leg, Waiting, taken, Rules, Passage, Move, Up, HeadCame, PduCame, PacketCame, Puts, IsDrawn, Marks, Pings, MayMove, moved, taken_by, put_by}
use Rattle.law_role_server.proofs.Vocabulary.{OutLeg, Gate, lets, length_of, counted, went, Server, is_open, is_due, in_leg, out_place, removed_at, without_in, without_out, Done, may_up, may_up_by, out_leg_up, up, up_by, out_server as os, take, recycle, handed, give, settled, in_is_drawn, drawn_by, with_ack_dropped, lost_in, mark_by, only_marks, Pick, or_else, put_in, out_greeting_at, put_out_greeting, gate_at, counts, counts_at, was_put, waiting_by, waiting_at}
use Rattle.law_role_server.proofs.Vocabulary.{put_waiting, may_go_at, went_at, pdu_by as put_pdu_by, put_pdu, is_end_due, may_end_at, put_end, put_pdu_or_end, next_out, settled_pick, put_open, put_out_at, put_by as put_by_kind, packet_by, rules as server_rules}
use Rattle.law_role_server_rows.proofs.Refusing.Told.{number_at}
use Rattle.law_role_server_rows.proofs.Refusing.Steps.{PickSame, in_same, lost_same, pdu_same, give_same, take_same}
use Rattle.law_role_server_rows.proofs.Refusing.Begun.{is_there}
use Rattle.law_role_server_rows.proofs.Refusing.Writing.{HasLeg, has_push, has_removed}
use Rattle.law_node_marks.specs.Losing.{marking}
use Rattle.law_node_uses.proofs.ServerRows.{Same, Stands, seen_same, same_stands, set_stands, packet_stands}

settled_same : (s : Server) → Same s (settled s)
settled_same s = search rules

recycle_same : (s : Server) → Same s (recycle s).0
recycle_same s = search rules

has_last : (n : ℕ) (xs : List OutLeg) (x : OutLeg) → x.number ≡ n → HasLeg n (xs ++ x ∷ [])
has_last n [] x is = inl is
has_last n (other ∷ xs) x is = inr (has_last n xs x is)

module _ (n : ℕ) where
  settles : (s : Server) → Stands n s → Stands n (settled s)
  settles s h = same_stands n s (settled s) (settled_same s) h

  -- ---- what is put

  abbrev PickStands : Pick → Type 0
  PickStands pick = IfSome pick (λ (one : Server × Message). Stands n one.0)

  or_stands : (a b : Pick) → PickStands a → PickStands b → PickStands (or_else a b)
  or_stands None b p q = q
  or_stands (Some pick) b p q = p

  module _ (s : Server) (h : Stands n s) where
    greeting_stands : (place : ℕ) (o : Option OutLeg) → slice_get s.outs place ≡ o
        → PickStands (out_greeting_at s place o)
    greeting_stands place None at = tt
    greeting_stands place (Some x) at =
        by_test PickStands (is_due x.greeting) _ None
        (λ e. set_stands n s place x (record x { greeting = greetings.Put }) at refl h) (λ e. tt)

    counts_stands : (place len : ℕ) → Stands n (counts s place len)
    counts_stands place len = by (slice_get s.outs place) refl
      where
        by : (o : Option OutLeg) → slice_get s.outs place ≡ o
            → Stands n (counts_at s place len o)
        by None at = h
        by (Some x) at = set_stands n s place x (counted x len) at refl h

    handed_stands : (place : ℕ) → Stands n (handed (counts s place 24))
    handed_stands place = counts_stands place 24

    was_put_stands : (place : ℕ) (packet : Named) → Stands n (was_put s place packet)
    was_put_stands place (named.AckTo to received available cookie) =
        by_test (Stands n) (to == 3) s (counts s place 56) (λ e. h) (λ e. counts_stands place 56)
    was_put_stands place named.OutR1A9 = handed_stands place
    was_put_stands place packet = counts_stands place (length_of packet)

    end_stands : (place : ℕ) → PickStands (put_end s place)
    end_stands place =
        by_test PickStands (is_end_due s && may_end_at s (slice_get s.outs place)) _ None
        (λ e. counts_stands place 24) (λ e. tt)

    pdu_stands : (place : ℕ) (len : Option ℕ) → PickStands (put_pdu_by s place len)
    pdu_stands place None = tt
    pdu_stands place (Some len) =
        by_test PickStands (may_go_at s len (slice_get s.outs place)) _ None
        (λ e. by (slice_get s.outs place) refl) (λ e. tt)
      where
        by : (o : Option OutLeg) → slice_get s.outs place ≡ o
            → HasLeg n (went_at s place len o)
        by None at = h
        by (Some x) at = set_stands n s place x (went x len) at refl h

  waiting_stands : (s : Server) (place : ℕ) (x : Waiting × Option Due) → Stands n s
      → PickStands (waiting_by s place x)
  waiting_stands s place (w, None) h = tt
  waiting_stands s place (w, Some due) h =
      was_put_stands (record s { waiting = w }) h place due.packet

  gate_stands : (s : Server) (place : ℕ) (o : Option Gate) → Stands n s
      → PickStands (waiting_at s place o)
  gate_stands s place None h = tt
  gate_stands s place (Some gate) h = waiting_stands s place (taken (lets gate) s.waiting) h

  settled_stands : (pick : Pick) → PickStands pick → PickStands (settled_pick pick)
  settled_stands None h = tt
  settled_stands (Some pick) h = settles pick.0 h

  out_stands : (s : Server) (place : Option ℕ) → Stands n s → PickStands (put_out_at s place)
  out_stands s None h = tt
  out_stands s (Some place) h =
      or_stands (put_out_greeting s place) (put_open s place)
      (greeting_stands s h place (slice_get s.outs place) refl)
      (by_test PickStands (is_open s.stage) (settled_pick (next_out s place)) None
      (λ e. settled_stands (next_out s place)
      (or_stands (put_waiting s place) (put_pdu_or_end s place)
      (gate_stands s place (gate_at s (slice_get s.outs place)) h)
      (or_stands (put_pdu s place) (put_end s place)
      (pdu_stands s h place (front_length s.queue)) (end_stands s h place))))
      (λ e. tt))

  put_stands : (s : Server) (k : ℕ) (kind : LegKind) → Stands n s
      → PickStands (put_by_kind s k kind)
  put_stands s k InServer h = by (put_in s k) (in_same s k)
    where
      by : (pick : Pick) → PickSame s pick → PickStands pick
      by None same = tt
      by (Some one) same = same_stands n s one.0 (seen_same s one.0 same) h
  put_stands s k OutServer h = out_stands s (out_place k s.outs) h
  put_stands s k ClientIn h = tt
  put_stands s k ClientOut h = tt

  -- ---- legs come up, and are lost

  up_stands : (s : Server) (leg : Leg) (cookie : Cookie) → Stands n s
      → Stands n (up s leg cookie)
  up_stands s leg cookie h =
      by_test (Stands n) (may_up_by s leg.number leg.kind) (up_by s leg.number leg.kind) s
      (λ e. by leg.kind h) (λ e. h)
    where
      by : (kind : LegKind) → Stands n s → Stands n (up_by s leg.number kind)
      by OutServer there = has_push n s.outs (out_leg_up leg.number ∷ []) there
      by InServer h = h
      by ClientIn h = h
      by ClientOut h = h

  drawn_stands : (s : Server) (k : ℕ) (kind : LegKind) → Stands n s
      → Stands n (drawn_by s k kind)
  drawn_stands s k InServer h =
      by_test (Stands n) (in_is_drawn (in_leg k s.ins)) (settled (without_in s k)) s
      (λ e. settles (without_in s k) h) (λ e. h)
  drawn_stands s k OutServer h = h
  drawn_stands s k ClientIn h = h
  drawn_stands s k ClientOut h = h

  -- another leg is lost
  gone_stands : (s : Server) (k : ℕ) → k == n ≡ false → (place : Option ℕ)
      → out_place k s.outs ≡ place → Stands n s → HasLeg n (removed_at s.outs place)
  gone_stands s k other None found h = h
  gone_stands s k other (Some place) found h = by (slice_get s.outs place) refl
    where
      by : (o : Option OutLeg) → slice_get s.outs place ≡ o → HasLeg n (remove s.outs place)
      by None at = absurd (is_there s k place found at)
      by (Some x) at =
          has_removed n s.outs place x at
          (λ e. other_number k n other (sym (number_at s.outs k place x found at) ∙ e)) h

  mark_stands : (s : Server) (k : ℕ) (kind : LegKind)
      → same_leg (record { kind = kind; number = k }) (os n) ≡ false → Stands n s
      → Stands n (mark_by s k kind)
  mark_stands s k InServer other h =
      let t = lost_in s k (in_leg k s.ins) in
      settles t (same_stands n s t (seen_same s t (lost_same s k (in_leg k s.ins))) h)
  mark_stands s k OutServer other h =
      let t : Server = with_ack_dropped s k in
      settles (without_out t k) (gone_stands t k other (out_place k t.outs) refl h)
  mark_stands s k ClientIn other h = h
  mark_stands s k ClientOut other h = h

  -- ---- moves

  -- those that mark no such leg
  abbrev pub marks_kept : Server → Leg → Bool
  marks_kept s leg = only_marks s leg && not (same_leg leg (os n))

  abbrev pub kept_rules : Rules Server
  kept_rules = marking server_rules marks_kept

  row_stands : (p : Passage Server) (leg : Leg) (m : Message) (x : Done) → Stands n x.0
      → Stands n (taken_by p leg m x).role
  row_stands p leg m (t, Ok taken) h = h
  row_stands p leg m (t, Err why) h = h

  pick_stands : (p : Passage Server) (leg : Leg) (pick : Pick) → Stands n p.role
      → PickStands pick → Stands n (put_by p leg pick).role
  pick_stands p leg None h goes = h
  pick_stands p leg (Some one) h goes = goes

  unmarked : (a b : Bool) → IsTrue (a && not b) → b ≡ false
  unmarked true true only = absurd (false≢true only)
  unmarked true false only = refl
  unmarked false b only = absurd (false≢true only)

  pub move_stands : (p : Passage Server) (move : Move) → Stands n p.role
      → MayMove kept_rules p.role move → Stands n (moved kept_rules p move).role
  move_stands p (Up leg cookie) h may = up_stands p.role leg cookie h
  move_stands p (HeadCame leg text) h may = h
  move_stands p (PduCame leg count bytes) h may =
      let x = pdu_by p.role leg.number bytes leg.kind in
      row_stands p leg (Pdu bytes) x
      (same_stands n p.role x.0 (seen_same p.role x.0 (pdu_same p.role leg.number bytes leg.kind))
      h)
  move_stands p (PacketCame leg count packet) h may =
      row_stands p leg (Packet packet) (packet_by p.role leg.number count packet leg.kind)
      (packet_stands n p.role leg.number count packet leg.kind h)
  move_stands p (Puts leg) h may =
      pick_stands p leg (put_by_kind p.role leg.number leg.kind) h
      (put_stands p.role leg.number leg.kind h)
  move_stands p (IsDrawn leg) h may = drawn_stands p.role leg.number leg.kind h
  move_stands p (Marks leg) h may =
      mark_stands p.role leg.number leg.kind
      (unmarked (only_marks p.role leg) (same_leg leg (os n)) may.1) h
  move_stands p (Pings leg) h may = h

  -- ---- the calls of its own

  pub give_stands : (s : Server) (bytes : List ℕ) → Stands n s → Stands n (give s bytes).0
  give_stands s bytes h =
      same_stands n s (give s bytes).0 (seen_same s (give s bytes).0 (give_same s bytes)) h

  pub take_stands : (s : Server) → Stands n s → Stands n (take s)
  take_stands s h = same_stands n s (take s) (seen_same s (take s) (take_same s)) h

  pub recycle_stands : (s : Server) → Stands n s → Stands n (recycle s).0
  recycle_stands s h = same_stands n s (recycle s).0 (recycle_same s) h

  -- ---- the leg comes up

  pub rises : (s : Server) (leg : Leg) (cookie : Cookie) → may_up s leg ≡ true
      → same_leg leg (os n) ≡ true → Stands n (up s leg cookie)
  rises s leg cookie may is =
      by_test (Stands n) (may_up_by s leg.number leg.kind) (up_by s leg.number leg.kind) s
      (λ e. by leg.kind is) (λ e. absurd (true≢false (sym may ∙ e)))
    where
      by : (kind : LegKind)
          → same_leg (record { kind = kind; number = leg.number }) (os n) ≡ true
          → Stands n (up_by s leg.number kind)
      by OutServer is =
          has_last n s.outs (out_leg_up leg.number) (same_number leg.number n is)
      by InServer is = absurd (true≢false (sym is))
      by ClientIn is = absurd (true≢false (sym is))
      by ClientOut is = absurd (true≢false (sym is))
