-- an os leg that came up to a server is kept, until its channel is behind the writing one
use Rattle.law_order.proofs.Vocabulary.{◌≡◌, ◌⊎◌, inl, inr, ℕ, ◌+◌, ◌<◌, ◌==◌, List, [], ◌∷◌, ◌++◌, Bool, true, false, true≢false, nat_le, ◌&&◌, ◌||◌, not, Some, None, Ok, Err, arith, refl, sym, ◌∙◌, subst, rules, false≢true, and_parts, nat_tests, slice_get, remove, IfSome, IsTrue, list_any, Option}
use Rattle.rh_sig.specs.declared.named.Named.TheVariants as named
use Rattle.rh_server.specs.Servers.{pdu_by}
use Rattle.rh_server.specs.declared.state.Greeting.TheVariants as greetings
use Rattle.law_moves.proofs.Vocabulary.{by_test, same_number, other_number, Cookie, Named, front_length, Leg, LegKind, ClientOut, OutServer, ClientIn, InServer, Due, Message, Packet, Pdu, same_leg, Waiting, taken, OnLeg, Up, HeadCame, PduCame, PacketCame, Puts, IsDrawn, Marks, Pings, EndMove, Moves, Gives, Takes, Closes, Recycles, EndPassage, MayEndMove, AreAllowedAtEnd, end_moved, all_end_moved}
use Rattle.law_moves.proofs.Lemmas.{RowKeeps, PutKeeps, ActsKeep}
use Rattle.law_role_server.proofs.Vocabulary.{OutLeg, Gate, lets, length_of, counted, went, Server, is_open, is_due, in_leg, out_place, removed_at, without_in, without_out, Done, has_room, may_up, may_up_by, out_leg_up, up, up_by, out_server as os, take, recycle, handed, give, settled, in_is_drawn, drawn_by, with_ack_dropped, lost_in, mark_by, only_marks_by, Pick, or_else, put_in, out_greeting_at, put_out_greeting, gate_at, counts, counts_at, was_put, waiting_by, waiting_at}
use Rattle.law_role_server.proofs.Vocabulary.{put_waiting, may_go_at, went_at, pdu_by as put_pdu_by, put_pdu, is_end_due, may_end_at, put_end, put_pdu_or_end, next_out, settled_pick, put_open, put_out_at, put_by as put_by_kind, packet_by, acts, rules as server_rules}
use Rattle.law_role_server_rows.proofs.Refusing.Allowed.{MayKeep, allowed_keep}
use Rattle.law_role_server_rows.proofs.Refusing.Told.{number_at}
use Rattle.law_role_server_rows.proofs.Refusing.Steps.{PickSame, in_same, lost_same, pdu_same, give_same, take_same}
use Rattle.law_role_server_rows.proofs.Refusing.Begun.{is_there}
use Rattle.law_role_server_rows.proofs.Refusing.Writing.{HasLeg, has_push, has_removed}
use Rattle.law_node_streams.specs.Streams.{is_end_up_on}
use Rattle.law_world_ways.proofs.MarksPut.ServerMarksRows.{Same, Stands, seen_same, same_stands, set_stands, packet_stands}

settled_same : (s : Server) → Same s (settled s)
settled_same s = search rules

recycle_same : (s : Server) → Same s (recycle s).0
recycle_same s = search rules

has_last : (n : ℕ) (xs : List OutLeg) (x : OutLeg) → x.number ≡ n → HasLeg n (xs ++ x ∷ [])
has_last n [] x is = inl is
has_last n (other ∷ xs) x is = inr (has_last n xs x is)

module _ (n : ℕ) where
  settles : (s : Server) → Stands n s → Stands n (settled s)
  settles s h = same_stands n s (settled s) (settled_same s) h

  -- ---- what is put

  abbrev PickStands : Pick → Type 0
  PickStands pick = IfSome pick (λ (one : Server × Message). Stands n one.0)

  or_stands : (a b : Pick) → PickStands a → PickStands b → PickStands (or_else a b)
  or_stands None b p q = q
  or_stands (Some pick) b p q = p

  module _ (s : Server) (h : Stands n s) where
    greeting_stands : (place : ℕ) (o : Option OutLeg) → slice_get s.outs place ≡ o
        → PickStands (out_greeting_at s place o)
    greeting_stands place None at = tt
    greeting_stands place (Some x) at =
        by_test PickStands (is_due x.greeting) _ None
        (λ e. set_stands n s place x (record x { greeting = greetings.Put }) at refl h) (λ e. tt)

    counts_stands : (place len : ℕ) → Stands n (counts s place len)
    counts_stands place len = by (slice_get s.outs place) refl
      where
        by : (o : Option OutLeg) → slice_get s.outs place ≡ o
            → Stands n (counts_at s place len o)
        by None at = h
        by (Some x) at = set_stands n s place x (counted x len) at refl h

    -- the successor's channel is the writing one
    handed_stands : (place : ℕ) → Stands n (handed (counts s place 24))
    handed_stands place = by (counts_stands place 24)
      where
        by : Stands n (counts s place 24) → Stands n (handed (counts s place 24))
        by (inl there) = inl there
        by (inr behind) = inr (omega (arith, behind))

    was_put_stands : (place : ℕ) (packet : Named) → Stands n (was_put s place packet)
    was_put_stands place (named.AckTo to received available cookie) =
        by_test (Stands n) (to == 3) s (counts s place 56) (λ e. h) (λ e. counts_stands place 56)
    was_put_stands place named.OutR1A9 = handed_stands place
    was_put_stands place packet = counts_stands place (length_of packet)

    end_stands : (place : ℕ) → PickStands (put_end s place)
    end_stands place =
        by_test PickStands (is_end_due s && may_end_at s (slice_get s.outs place)) _ None
        (λ e. counts_stands place 24) (λ e. tt)

    pdu_stands : (place : ℕ) (len : Option ℕ) → PickStands (put_pdu_by s place len)
    pdu_stands place None = tt
    pdu_stands place (Some len) =
        by_test PickStands (may_go_at s len (slice_get s.outs place)) _ None
        (λ e. by (slice_get s.outs place) refl) (λ e. tt)
      where
        by : (o : Option OutLeg) → slice_get s.outs place ≡ o
            → HasLeg n (went_at s place len o) ⊎ (n < s.writing)
        by None at = h
        by (Some x) at = set_stands n s place x (went x len) at refl h

  waiting_stands : (s : Server) (place : ℕ) (x : Waiting × Option Due) → Stands n s
      → PickStands (waiting_by s place x)
  waiting_stands s place (w, None) h = tt
  waiting_stands s place (w, Some due) h =
      was_put_stands (record s { waiting = w }) h place due.packet

  gate_stands : (s : Server) (place : ℕ) (o : Option Gate) → Stands n s
      → PickStands (waiting_at s place o)
  gate_stands s place None h = tt
  gate_stands s place (Some gate) h = waiting_stands s place (taken (lets gate) s.waiting) h

  settled_stands : (pick : Pick) → PickStands pick → PickStands (settled_pick pick)
  settled_stands None h = tt
  settled_stands (Some pick) h = settles pick.0 h

  out_stands : (s : Server) (place : Option ℕ) → Stands n s → PickStands (put_out_at s place)
  out_stands s None h = tt
  out_stands s (Some place) h =
      or_stands (put_out_greeting s place) (put_open s place)
      (greeting_stands s h place (slice_get s.outs place) refl)
      (by_test PickStands (is_open s.stage) (settled_pick (next_out s place)) None
      (λ e. settled_stands (next_out s place)
      (or_stands (put_waiting s place) (put_pdu_or_end s place)
      (gate_stands s place (gate_at s (slice_get s.outs place)) h)
      (or_stands (put_pdu s place) (put_end s place)
      (pdu_stands s h place (front_length s.queue)) (end_stands s h place))))
      (λ e. tt))

  put_stands : (s : Server) (k : ℕ) (kind : LegKind) → Stands n s
      → PickStands (put_by_kind s k kind)
  put_stands s k InServer h = by (put_in s k) (in_same s k)
    where
      by : (pick : Pick) → PickSame s pick → PickStands pick
      by None same = tt
      by (Some one) same = same_stands n s one.0 (seen_same s one.0 same) h
  put_stands s k OutServer h = out_stands s (out_place k s.outs) h
  put_stands s k ClientIn h = tt
  put_stands s k ClientOut h = tt

  -- ---- legs come up, and are lost

  up_stands : (s : Server) (leg : Leg) (cookie : Cookie) → Stands n s
      → Stands n (up s leg cookie)
  up_stands s leg cookie h =
      by_test (Stands n) (may_up_by s leg.number leg.kind) (up_by s leg.number leg.kind) s
      (λ e. by leg.kind h) (λ e. h)
    where
      by : (kind : LegKind) → Stands n s → Stands n (up_by s leg.number kind)
      by OutServer (inl there) = inl (has_push n s.outs (out_leg_up leg.number ∷ []) there)
      by OutServer (inr behind) = inr behind
      by InServer h = h
      by ClientIn h = h
      by ClientOut h = h

  drawn_stands : (s : Server) (k : ℕ) (kind : LegKind) → Stands n s
      → Stands n (drawn_by s k kind)
  drawn_stands s k InServer h =
      by_test (Stands n) (in_is_drawn (in_leg k s.ins)) (settled (without_in s k)) s
      (λ e. settles (without_in s k) h) (λ e. h)
  drawn_stands s k OutServer h = h
  drawn_stands s k ClientIn h = h
  drawn_stands s k ClientOut h = h

  -- only a leg behind the writing channel's is lost
  gone_stands : (s : Server) (k : ℕ) → k < s.writing → (place : Option ℕ)
      → out_place k s.outs ≡ place → Stands n s
      → HasLeg n (removed_at s.outs place) ⊎ (n < s.writing)
  gone_stands s k below None found h = h
  gone_stands s k below (Some place) found (inr behind) = inr behind
  gone_stands s k below (Some place) found (inl there) =
      by (k == n) refl (slice_get s.outs place) refl
    where
      by : (b : Bool) → k == n ≡ b → (o : Option OutLeg) → slice_get s.outs place ≡ o
          → HasLeg n (remove s.outs place) ⊎ (n < s.writing)
      by true same o at = inr (subst (λ (j : ℕ). j < s.writing) (same_number k n same) below)
      by false other None at = absurd (is_there s k place found at)
      by false other (Some x) at =
          inl (has_removed n s.outs place x at
          (λ e. other_number k n other (sym (number_at s.outs k place x found at) ∙ e)) there)

  mark_stands : (s : Server) (k : ℕ) (kind : LegKind) → IsTrue (only_marks_by s k kind)
      → Stands n s → Stands n (mark_by s k kind)
  mark_stands s k InServer only h =
      let t = lost_in s k (in_leg k s.ins) in
      settles t (same_stands n s t (seen_same s t (lost_same s k (in_leg k s.ins))) h)
  mark_stands s k OutServer only h =
      let t : Server = with_ack_dropped s k in
      settles (without_out t k)
      (gone_stands t k (below (nat_le s.writing k) refl only) (out_place k t.outs) refl h)
    where
      below : (b : Bool) → nat_le s.writing k ≡ b → IsTrue (not b) → k < s.writing
      below true e only = absurd (false≢true only)
      below false e only = grind (arith, nat_tests, e)
  mark_stands s k ClientIn only h = h
  mark_stands s k ClientOut only h = h

  -- ---- moves

  abbrev Holds : Server → List OnLeg → List OnLeg → Type 0
  Holds s came put = Stands n s

  row_holds : (one : OnLeg) (came put : List OnLeg) (x : Done) → Stands n x.0
      → RowKeeps Holds one came put x
  row_holds one came put (t, Ok taken) h = h
  row_holds one came put (t, Err why) h = h

  put_holds : (leg : Leg) (came put : List OnLeg) (pick : Pick) → PickStands pick
      → PutKeeps Holds leg came put pick
  put_holds leg came put None h = tt
  put_holds leg came put (Some one) h = h

  steps : MayKeep server_rules Holds
  steps = record {
    up = λ s leg cookie came put h. up_stands s leg cookie h;
    head = λ s leg text came put h. h;
    pdu = λ s leg count bytes came put h.
        let x = pdu_by s leg.number bytes leg.kind in
        row_holds (leg, Pdu bytes) came put x
        (same_stands n s x.0 (seen_same s x.0 (pdu_same s leg.number bytes leg.kind)) h);
    packet = λ s leg count packet came put used h.
        row_holds (leg, Packet packet) came put (packet_by s leg.number count packet leg.kind)
        (packet_stands n s leg.number count packet leg.kind h);
    put = λ s leg came put h.
        put_holds leg came put (put_by_kind s leg.number leg.kind)
        (put_stands s leg.number leg.kind h);
    drawn = λ s leg came put h. drawn_stands s leg.number leg.kind h;
    mark = λ s leg came put only h. mark_stands s leg.number leg.kind only h;
    ping = λ s leg came put h. h;
  }

  calls : ActsKeep acts Holds
  calls = record {
    give = λ s bytes came put h.
        same_stands n s (give s bytes).0 (seen_same s (give s bytes).0 (give_same s bytes)) h;
    take = λ s came put h. same_stands n s (take s) (seen_same s (take s) (take_same s)) h;
    close = λ s came put h. h;
    recycle = λ s came put h. same_stands n s (recycle s).0 (recycle_same s) h;
  }

  -- ---- the leg comes up

  -- no leg of number 0 does
  abbrev Rose : EndPassage Server → Type 0
  Rose p = (0 < n) × Stands n p.passage.role

  rises : (s : Server) (leg : Leg) (cookie : Cookie) → may_up s leg ≡ true
      → same_leg leg (os n) ≡ true → (0 < n) × Stands n (up s leg cookie)
  rises s leg cookie may is =
      by_test (λ (t : Server). (0 < n) × Stands n t) (may_up s leg) (up_by s leg.number leg.kind) s
      (λ e. by leg.kind may is) (λ e. absurd (true≢false (sym may ∙ e)))
    where
      by : (kind : LegKind) → may_up_by s leg.number kind ≡ true
          → same_leg (record { kind = kind; number = leg.number }) (os n) ≡ true
          → (0 < n) × Stands n (up_by s leg.number kind)
      by OutServer may is =
          let same : leg.number ≡ n = same_number leg.number n is in
          let next : leg.number ≡ s.newest_out + 1 =
          same_number leg.number (s.newest_out + 1)
          (and_parts (leg.number == s.newest_out + 1) (has_room s.outs) may).0 in
          (omega (arith, same, next), inl (has_last n s.outs (out_leg_up leg.number) same))
      by InServer may is = absurd (true≢false (sym is))
      by ClientIn may is = absurd (true≢false (sym is))
      by ClientOut may is = absurd (true≢false (sym is))

  rises_by : (p : EndPassage Server) (move : EndMove)
      → MayEndMove server_rules p.passage.role move → is_end_up_on (os n) move ≡ true
      → Rose (end_moved server_rules acts p move)
  rises_by p (Moves (Up leg cookie)) may is = rises p.passage.role leg cookie may.1 is
  rises_by p (Moves (HeadCame leg text)) may is = absurd (true≢false (sym is))
  rises_by p (Moves (PduCame leg count pdu)) may is = absurd (true≢false (sym is))
  rises_by p (Moves (PacketCame leg count m)) may is = absurd (true≢false (sym is))
  rises_by p (Moves (Puts leg)) may is = absurd (true≢false (sym is))
  rises_by p (Moves (IsDrawn leg)) may is = absurd (true≢false (sym is))
  rises_by p (Moves (Marks leg)) may is = absurd (true≢false (sym is))
  rises_by p (Moves (Pings leg)) may is = absurd (true≢false (sym is))
  rises_by p (Gives pdu) may is = absurd (true≢false (sym is))
  rises_by p Takes may is = absurd (true≢false (sym is))
  rises_by p Closes may is = absurd (true≢false (sym is))
  rises_by p Recycles may is = absurd (true≢false (sym is))

  pub stands_since : (p : EndPassage Server) (moves : List EndMove)
      → AreAllowedAtEnd server_rules acts p moves
      → list_any (is_end_up_on (os n)) moves ≡ true
      → Rose (all_end_moved server_rules acts p moves)
  stands_since p [] may is = absurd (true≢false (sym is))
  stands_since p (move ∷ moves) may is =
      by (is_end_up_on (os n) move) refl is (stands_since q moves may.1)
    where
      q : EndPassage Server
      q = end_moved server_rules acts p move

      by : (b : Bool) → is_end_up_on (os n) move ≡ b
          → (b || list_any (is_end_up_on (os n)) moves) ≡ true
          → (list_any (is_end_up_on (os n)) moves ≡ true
          → Rose (all_end_moved server_rules acts q moves))
          → Rose (all_end_moved server_rules acts q moves)
      by true now is rest =
          let h = rises_by p move may.0 now in
          (h.0, allowed_keep server_rules Holds steps acts calls q moves may.1 h.1)
      by false now is rest = rest is
