-- a server's other steps keep what it knows of the windows of out proxies
use Rattle.law_order.proofs.Vocabulary.{◌≡◌, ℕ, ◌+◌, ◌≤◌, ◌==◌, List, true, ◌&&◌, Some, None, arith, refl, ap, subst, and_parts, slice_get, slice_set, IfSome, AllByRecursion, Option}
use Rattle.rh_sig.specs.declared.named.Named.TheVariants as named
use Rattle.rh_server.specs.Servers.{pdu_by}
use Rattle.rh_server.specs.declared.state.Greeting.TheVariants as greetings
use Rattle.law_moves.proofs.Vocabulary.{by_test, same_number, Cookie, Named, each_push, front_length, Leg, LegKind, ClientOut, OutServer, ClientIn, InServer, Due, Message, Pdu, Waiting, taken, OnLeg, EndMove, AreAllowedAtEnd, end_started, all_end_moved}
use Rattle.law_moves.proofs.Lemmas.{PutKeeps, ActsKeep}
use Rattle.law_role_server.proofs.Vocabulary.{OutLeg, Gate, lets, length_of, counted, went, Server, is_open, is_due, in_leg, out_at, out_place, removed_at, without_in, without_out, may_up_by, has_room, out_leg_up, up, up_by, take, recycle, give, settled, in_is_drawn, drawn_by, with_ack_dropped, lost_in, mark_by, Pick, or_else, put_in, out_greeting_at, put_out_greeting, gate_at, counts, counts_at, was_put, waiting_by, waiting_at, put_waiting, may_go_at, went_at, pdu_by as put_pdu_by}
use Rattle.law_role_server.proofs.Vocabulary.{put_pdu, is_end_due, may_end_at, put_end, put_pdu_or_end, next_out, settled_pick, put_open, put_out_at, put_by as put_by_kind, first, acts, rules as server_rules}
use Rattle.law_role_server_rows.proofs.Refusing.Ascending.{ascends_push, ascends_removed}
use Rattle.law_role_server_rows.proofs.Refusing.Places.{all_removed}
use Rattle.law_role_server_rows.proofs.Refusing.Allowed.{MayKeep, allowed_keep}
use Rattle.law_role_server_rows.proofs.Refusing.Told.{Seen, number_at}
use Rattle.law_role_server_rows.proofs.Refusing.Steps.{PickSame, in_same, lost_same, pdu_same, give_same, take_same}
use Rattle.law_role_server_rows.proofs.Refusing.Begun.{View, view, number_of}
use Rattle.law_role_server_rows.proofs.Refusing.BegunSteps.{settled_same, recycle_same}
use Rattle.law_role_edges.specs.Edges.{IsWithin, edge_told}
use Rattle.law_role_server_edges.proofs.Knows.{on, opened, Knows, KnowsAt, Known, Holds, row_known, same_known, set_known, knows_at, packet_row}
use Rattle.law_role_server_edges.specs.Windows.{KnowsOutProxy}

abbrev view_of : Seen → View
view_of x = record { outs = x.outs; newest = x.newest }

abbrev Fine : Server → List OnLeg → Type 0
Fine s came = Known (view s) came

settles : (s : Server) (came : List OnLeg) → Fine s came → Fine (settled s) came
settles s came h = same_known s (settled s) came (settled_same s) h

-- ---- what is put

abbrev PickFine : List OnLeg → Pick → Type 0
PickFine came pick = IfSome pick (λ (one : Server × Message). Fine one.0 came)

or_fine : (came : List OnLeg) (a b : Pick) → PickFine came a → PickFine came b
    → PickFine came (or_else a b)
or_fine came None b p q = q
or_fine came (Some pick) b p q = p

module _ (s : Server) (came : List OnLeg) (h : Fine s came) where
  -- a leg at its place, of which neither the cookie nor the edge changed
  alike : (place : ℕ) (x y : OutLeg) → slice_get s.outs place ≡ Some x → y.number ≡ x.number
      → (KnowsAt came x → KnowsAt came y)
      → Fine (record s { outs = slice_set s.outs place y }) came
  alike place x y at same so =
      let k = set_known s place x y came at same (so (knows_at s place x came at h)) h in
      record { ascends = k.ascends; each = k.each; later = k.later }

  greeting_fine : (place : ℕ) (o : Option OutLeg) → slice_get s.outs place ≡ o
      → PickFine came (out_greeting_at s place o)
  greeting_fine place None at = tt
  greeting_fine place (Some x) at =
      by_test (PickFine came) (is_due x.greeting) _ None
      (λ e. alike place x (record x { greeting = greetings.Put }) at refl
      (λ k. record { known = k.known; none = k.none }))
      (λ e. tt)

  counts_fine : (place len : ℕ) → Fine (counts s place len) came
  counts_fine place len = by (slice_get s.outs place) refl
    where
      by : (o : Option OutLeg) → slice_get s.outs place ≡ o
          → Fine (counts_at s place len o) came
      by None at = h
      by (Some x) at =
          alike place x (counted x len) at refl (λ k. record { known = k.known; none = k.none })

  was_put_fine : (place : ℕ) (packet : Named) → Fine (was_put s place packet) came
  was_put_fine place (named.AckTo to received available cookie) =
      by_test (λ (t : Server). Fine t came) (to == 3) s (counts s place 56) (λ e. h)
      (λ e. counts_fine place 56)
  was_put_fine place named.OutR1A9 =
      let k = counts_fine place 24 in
      record { ascends = k.ascends; each = k.each; later = k.later }
  was_put_fine place packet = counts_fine place (length_of packet)

  end_fine : (place : ℕ) → PickFine came (put_end s place)
  end_fine place =
      by_test (PickFine came) (is_end_due s && may_end_at s (slice_get s.outs place)) _ None
      (λ e.
      let k = counts_fine place 24 in
      record { ascends = k.ascends; each = k.each; later = k.later })
      (λ e. tt)

  pdu_fine : (place : ℕ) (len : Option ℕ) → PickFine came (put_pdu_by s place len)
  pdu_fine place None = tt
  pdu_fine place (Some len) =
      by_test (PickFine came) (may_go_at s len (slice_get s.outs place)) _ None
      (λ e.
      let k = by (slice_get s.outs place) refl in
      record { ascends = k.ascends; each = k.each; later = k.later }) (λ e. tt)
    where
      by : (o : Option OutLeg) → slice_get s.outs place ≡ o
          → Known (record { outs = went_at s place len o; newest = s.newest_out }) came
      by None at = h
      by (Some x) at =
          let k = knows_at s place x came at h in
          set_known s place x (went x len) came at refl
          (record { known = k.known; none = k.none }) h

waiting_fine : (s : Server) (came : List OnLeg) (place : ℕ) (x : Waiting × Option Due)
    → Fine s came → PickFine came (waiting_by s place x)
waiting_fine s came place (w, None) h = tt
waiting_fine s came place (w, Some due) h =
    was_put_fine (record s { waiting = w }) came
    (record { ascends = h.ascends; each = h.each; later = h.later }) place due.packet

gate_fine : (s : Server) (came : List OnLeg) (place : ℕ) (o : Option Gate) → Fine s came
    → PickFine came (waiting_at s place o)
gate_fine s came place None h = tt
gate_fine s came place (Some gate) h =
    waiting_fine s came place (taken (lets gate) s.waiting) h

settled_fine : (came : List OnLeg) (pick : Pick) → PickFine came pick
    → PickFine came (settled_pick pick)
settled_fine came None h = tt
settled_fine came (Some pick) h = settles pick.0 came h

out_fine : (s : Server) (came : List OnLeg) (place : Option ℕ) → Fine s came
    → PickFine came (put_out_at s place)
out_fine s came None h = tt
out_fine s came (Some place) h =
    or_fine came (put_out_greeting s place) (put_open s place)
    (greeting_fine s came h place (slice_get s.outs place) refl)
    (by_test (PickFine came) (is_open s.stage) (settled_pick (next_out s place)) None
    (λ e. settled_fine came (next_out s place)
    (or_fine came (put_waiting s place) (put_pdu_or_end s place)
    (gate_fine s came place (gate_at s (slice_get s.outs place)) h)
    (or_fine came (put_pdu s place) (put_end s place)
    (pdu_fine s came h place (front_length s.queue)) (end_fine s came h place))))
    (λ e. tt))

put_kept : (s : Server) (n : ℕ) (k : LegKind) (came put : List OnLeg) → Fine s came
    → PutKeeps Holds (record { kind = k; number = n }) came put (put_by_kind s n k)
put_kept s n InServer came put h = by (put_in s n) (in_same s n)
  where
    by : (pick : Pick) → PickSame s pick
        → PutKeeps Holds (record { kind = InServer; number = n }) came put pick
    by None same = tt
    by (Some one) same = same_known s one.0 came (ap view_of same) h
put_kept s n OutServer came put h =
    by (put_out_at s (out_place n s.outs)) (out_fine s came (out_place n s.outs) h)
  where
    by : (pick : Pick) → PickFine came pick
        → PutKeeps Holds (record { kind = OutServer; number = n }) came put pick
    by None fine = tt
    by (Some one) fine = fine
put_kept s n ClientIn came put h = tt
put_kept s n ClientOut came put h = tt

-- ---- legs come up, and are lost

up_kept : (s : Server) (leg : Leg) (cookie : Cookie) (came : List OnLeg) → Fine s came
    → Fine (up s leg cookie) came
up_kept s leg cookie came h =
    by_test (λ (t : Server). Fine t came) (may_up_by s leg.number leg.kind)
    (up_by s leg.number leg.kind) s (λ e. by leg.kind e) (λ e. h)
  where
    n : ℕ
    n = leg.number

    -- a leg on which nothing was told
    fresh : s.newest_out + 1 ≤ n → Knows (out_leg_up n) (on n came)
    fresh above =
        let none = h.later n (omega (arith, above)) in
        record { known = λ once. none.1; none = λ no. (refl, none.1) }

    by : (k : LegKind) → may_up_by s n k ≡ true → Fine (up_by s n k) came
    by InServer e = record { ascends = h.ascends; each = h.each; later = h.later }
    by OutServer e =
        let next = same_number n (s.newest_out + 1)
        (and_parts (n == s.newest_out + 1) (has_room s.outs) e).0 in record {
          ascends = ascends_push number_of 0 s.newest_out (out_leg_up n) s.outs
              (omega (arith, next)) h.ascends;
          each = each_push (KnowsAt came) s.outs (out_leg_up n) h.each
              (fresh (omega (arith, next)));
          later = λ i above. h.later i (omega (arith, next, above));
        }
    by ClientIn e = h
    by ClientOut e = h

drawn_kept : (s : Server) (n : ℕ) (k : LegKind) (came : List OnLeg) → Fine s came
    → Fine (drawn_by s n k) came
drawn_kept s n InServer came h =
    by_test (λ (t : Server). Fine t came) (in_is_drawn (in_leg n s.ins))
    (settled (without_in s n)) s
    (λ e. settles (without_in s n) came
    (record { ascends = h.ascends; each = h.each; later = h.later })) (λ e. h)
drawn_kept s n OutServer came h = h
drawn_kept s n ClientIn came h = h
drawn_kept s n ClientOut came h = h

gone_kept : (s : Server) (place : Option ℕ) (came : List OnLeg) → Fine s came
    → Fine (record s { outs = removed_at s.outs place }) came
gone_kept s None came h = record { ascends = h.ascends; each = h.each; later = h.later }
gone_kept s (Some place) came h = record {
  ascends = ascends_removed number_of 0 s.newest_out s.outs place h.ascends;
  each = all_removed (KnowsAt came) s.outs place h.each;
  later = h.later;
}

mark_kept : (s : Server) (n : ℕ) (k : LegKind) (came : List OnLeg) → Fine s came
    → Fine (mark_by s n k) came
mark_kept s n InServer came h =
    settles (lost_in s n (in_leg n s.ins)) came
    (same_known s (lost_in s n (in_leg n s.ins)) came
    (ap view_of (lost_same s n (in_leg n s.ins))) h)
mark_kept s n OutServer came h =
    let t : Server = with_ack_dropped s n in
    settles (without_out t n) came
    (gone_kept t (out_place n t.outs) came
    (record { ascends = h.ascends; each = h.each; later = h.later }))
mark_kept s n ClientIn came h = h
mark_kept s n ClientOut came h = h

-- ---- the server

steps : MayKeep server_rules Holds
steps = record {
  up = λ s leg cookie came put h. up_kept s leg cookie came h;
  head = λ s leg text came put h. h;
  pdu = λ s leg count bytes came put h.
      row_known (leg, Pdu bytes) came put (pdu_by s leg.number bytes leg.kind) refl tt
      (same_known s (pdu_by s leg.number bytes leg.kind).0 came
      (ap view_of (pdu_same s leg.number bytes leg.kind)) h);
  packet = λ s leg count packet came put used h.
      packet_row s leg.number count packet leg.kind came put used h;
  put = λ s leg came put h. put_kept s leg.number leg.kind came put h;
  drawn = λ s leg came put h. drawn_kept s leg.number leg.kind came h;
  mark = λ s leg came put only h. mark_kept s leg.number leg.kind came h;
  ping = λ s leg came put h. h;
}

calls : ActsKeep acts Holds
calls = record {
  give = λ s bytes came put h.
      same_known s (give s bytes).0 came (ap view_of (give_same s bytes)) h;
  take = λ s came put h. same_known s (take s) came (ap view_of (take_same s)) h;
  close = λ s came put h. record { ascends = h.ascends; each = h.each; later = h.later };
  recycle = λ s came put h. same_known s (recycle s).0 came (recycle_same s) h;
}

known_so : (window : ℕ) (moves : List EndMove)
    → AreAllowedAtEnd server_rules acts (end_started (first window)) moves
    → let p = (all_end_moved server_rules acts (end_started (first window)) moves).passage in
    Known (view p.role) p.came
known_so window moves may =
    allowed_keep server_rules Holds steps acts calls (end_started (first window)) moves may
    (record { ascends = omega arith; each = tt; later = λ n above. (refl, tt) })

-- ---- the leg of a number

known_of : (s : Server) (came : List OnLeg) (n : ℕ) → opened (on n came) ≤ 1
    → Known (view s) came
    → IfSome (out_at s.outs (out_place n s.outs)) (λ (leg : OutLeg).
    AllByRecursion (IsWithin edge_told leg.window.edge) (on n came))
known_of s came n once h = by (out_place n s.outs) refl
  where
    Is : OutLeg → Type 0
    Is leg = AllByRecursion (IsWithin edge_told leg.window.edge) (on n came)

    by_leg : (place : ℕ) → out_place n s.outs ≡ Some place → (o : Option OutLeg)
        → slice_get s.outs place ≡ o → IfSome o Is
    by_leg place found None at = tt
    by_leg place found (Some x) at =
        (subst (λ (k : ℕ). Knows x (on k came)) (number_at s.outs n place x found at)
        (knows_at s place x came at h)).known once

    by : (place : Option ℕ) → out_place n s.outs ≡ place → IfSome (out_at s.outs place) Is
    by None found = tt
    by (Some place) found = by_leg place found (slice_get s.outs place) refl

pub knows_out : (window : ℕ) (moves : List EndMove)
    → AreAllowedAtEnd server_rules acts (end_started (first window)) moves → (n : ℕ)
    → opened (on n (all_end_moved server_rules acts (end_started (first window))
    moves).passage.came) ≤ 1
    → KnowsOutProxy n
    (all_end_moved server_rules acts (end_started (first window)) moves).passage
knows_out window moves may n once =
    let p = (all_end_moved server_rules acts (end_started (first window)) moves).passage in
    known_of p.role p.came n once (known_so window moves may)
