-- what a server puts, and what else it does, keeps the greatest edges that it passes on
use Rattle.law_order.proofs.Vocabulary.{◌≡◌, ℕ, ◌≤◌, ◌==◌, List, [], ◌∷◌, ◌++◌, Bool, true, false, ◌&&◌, Some, None, arith, refl, ap, ◌∙◌, slice_get, slice_set, IfSome, Option}
use Rattle.rh_sig.specs.declared.named.Named.TheVariants as named
use Rattle.rh_server.specs.declared.state.Greeting.TheVariants as greetings
use Rattle.law_moves.proofs.Vocabulary.{by_test, Cookie, Named, front_length, Leg, LegKind, ClientOut, OutServer, ClientIn, InServer, Due, Message, Packet, one_if, Waiting, Key, are_one, taken, without_first, OnLeg, EndMove, end_started, all_end_moved}
use Rattle.law_moves.proofs.Lemmas.{PutKeeps, StepsKeep, ActsKeep, end_moves_keep}
use Rattle.law_moves.specs.Merging.{Raises, greatest}
use Rattle.law_role_server.proofs.Vocabulary.{OutLeg, Gate, lets, length_of, is_ack_of, is_of_channel, counted, went, Server, same_cookie, is_open, is_due, in_leg, cookie_by, out_at, out_place, removed_at, without_in, without_out, may_up_by, out_leg_up, up, up_by, take, recycle, give, settled, in_is_drawn, drawn_by, with_ack_dropped, without_ack_of, lost_in, mark_by, Pick, or_else, put_in, out_greeting_at, put_out_greeting, gate_at, counts, counts_at, was_put, waiting_by, waiting_at, put_waiting, may_go_at, went_at}
use Rattle.law_role_server.proofs.Vocabulary.{pdu_by as put_pdu_by, put_pdu, is_end_due, may_end_at, put_end, put_pdu_or_end, next_out, settled_pick, put_open, put_out_at, put_by as put_by_kind, first, acts, rules as server_rules, leg_at}
use Rattle.law_role_server_edges.proofs.Adds.{Seen, seen, adds_same, adds_settled, adds_recycle, adds_take, adds_give, same_lost, PickSame, in_same}
use Rattle.law_role_server_edges.proofs.Cookies.{kept, kept_push, kept_set, kept_removed, kept_fewer, kept_one}
use Rattle.law_role_server_edges.proofs.Begins.{began_once}
use Rattle.law_role_server_edges.proofs.Knows.{on, opened}
use Rattle.law_role_server_edges.proofs.Edges.{Leaves, first_leaves, others_keep, not_told, began}
use Rattle.law_role_server_edges.proofs.Passes.{client, proxy, Passes, Holds, stays, put_one, adds_stays, pdu_row, packet_row}
use Rattle.law_role_server_edges.specs.Passing.{PassesEdgesOn}

module _ (raising : (w : Waiting) (packet : Named) (key : Key) → Raises w packet key)
    (cookie : Cookie) where
  abbrev Fine : Server → List OnLeg → List OnLeg → Type 0
  Fine s came put = Passes raising cookie (seen s) came put

  -- ---- legs change but for their cookies, and those that wait stay

  abbrev Like : Server → Server → Type 0
  Like s t = (t.waiting ≡ s.waiting) × (kept cookie t.outs ≡ kept cookie s.outs)

  like_set : (s : Server) (place : ℕ) (x y : OutLeg) → slice_get s.outs place ≡ Some x
      → y.cookie ≡ x.cookie → Like s (record s { outs = slice_set s.outs place y })
  like_set s place x y at same =
      let all = kept_set cookie s.outs place x y at in
      let one = ap (λ (o : Option Cookie). one_if (is_of_channel cookie o)) same in
      (refl, omega (arith, all, one))

  like_counts : (s : Server) (place len : ℕ) → Like s (counts s place len)
  like_counts s place len = by (slice_get s.outs place) refl
    where
      by : (o : Option OutLeg) → slice_get s.outs place ≡ o → Like s (counts_at s place len o)
      by None at = (refl, refl)
      by (Some x) at = like_set s place x (counted x len) at refl

  like_was_put : (s : Server) (place : ℕ) (packet : Named) → Like s (was_put s place packet)
  like_was_put s place (named.AckTo to received available c) =
      by_test (Like s) (to == 3) s (counts s place 56) (λ e. (refl, refl))
      (λ e. like_counts s place 56)
  like_was_put s place named.OutR1A9 = like_counts s place 24
  like_was_put s place packet = like_counts s place (length_of packet)

  -- ---- a put

  module _ (s : Server) (leg : Leg) (came put : List OnLeg) (h : Fine s came put) where
    abbrev Goes : Pick → Type 0
    Goes pick = PutKeeps (Holds raising cookie) leg came put pick

    or_goes : (a b : Pick) → Goes a → Goes b → Goes (or_else a b)
    or_goes None b p q = q
    or_goes (Some pick) b p q = p

    abbrev IsLike : Pick → Type 0
    IsLike pick = IfSome pick (λ (one : Server × Message). Like s one.0)

    like_goes : (pick : Pick) → IsLike pick → Goes pick
    like_goes None like = tt
    like_goes (Some one) like =
        put_one raising cookie (seen s) (seen one.0) came put (leg, one.1)
        (λ key. let same = ap (λ (w : Waiting). greatest key w.due) like.0 in omega (arith, same))
        (let same = like.1 in omega (arith, same)) h

    quiet_goes : (pick : Pick) → PickSame s pick → Goes pick
    quiet_goes None same = tt
    quiet_goes (Some one) same = like_goes (Some one) (
      ap (λ (x : Seen). x.waiting) same,
      ap (λ (x : Seen). kept cookie x.outs) same,
    )

    greeting_like : (place : ℕ) (o : Option OutLeg) → slice_get s.outs place ≡ o
        → IsLike (out_greeting_at s place o)
    greeting_like place None at = tt
    greeting_like place (Some x) at =
        by_test IsLike (is_due x.greeting) _ None
        (λ e. like_set s place x (record x { greeting = greetings.Put }) at refl) (λ e. tt)

    pdu_like : (place : ℕ) (len : Option ℕ) → IsLike (put_pdu_by s place len)
    pdu_like place None = tt
    pdu_like place (Some len) =
        by_test IsLike (may_go_at s len (slice_get s.outs place)) _ None
        (λ e. (refl, by (slice_get s.outs place) refl)) (λ e. tt)
      where
        by : (o : Option OutLeg) → slice_get s.outs place ≡ o
            → kept cookie (went_at s place len o) ≡ kept cookie s.outs
        by None at = refl
        by (Some x) at = (like_set s place x (went x len) at refl).1

    end_like : (place : ℕ) → IsLike (put_end s place)
    end_like place =
        by_test IsLike (is_end_due s && may_end_at s (slice_get s.outs place)) _ None
        (λ e. like_counts s place 24) (λ e. tt)

    -- one that waited is put
    found_goes : (place : ℕ) (w : Waiting) (o : Option Due)
        → ((key : Key) → Leaves key s.waiting.due w.due o) → Goes (waiting_by s place (w, o))
    found_goes place w None leaves = tt
    found_goes place w (Some due) leaves =
        put_one raising cookie (seen s) (seen u) came put (leg, Packet due.packet)
        (λ key.
        let left = leaves key in
        let same = ap (λ (x : Waiting). greatest key x.due) like.0 in omega (arith, left, same))
        (let same = like.1 in omega (arith, same)) h
      where
        t : Server
        t = record s { waiting = w }

        u : Server
        u = was_put t place due.packet

        like : Like t u
        like = like_was_put t place due.packet

    waiting_goes : (place : ℕ) (o : Option Gate) → Goes (waiting_at s place o)
    waiting_goes place None = tt
    waiting_goes place (Some gate) =
        found_goes place (taken (lets gate) s.waiting).0 (taken (lets gate) s.waiting).1
        (λ key. first_leaves key (lets gate) s.waiting.due)

    settled_goes : (pick : Pick) → Goes pick → Goes (settled_pick pick)
    settled_goes None p = tt
    settled_goes (Some one) p =
        adds_stays raising cookie one.0 (settled one.0) came (put ++ (leg, one.1) ∷ [])
        (adds_settled one.0) p

    next_goes : (place : ℕ) → Goes (next_out s place)
    next_goes place =
        or_goes (put_waiting s place) (put_pdu_or_end s place)
        (waiting_goes place (gate_at s (slice_get s.outs place)))
        (or_goes (put_pdu s place) (put_end s place)
        (like_goes (put_pdu s place) (pdu_like place (front_length s.queue)))
        (like_goes (put_end s place) (end_like place)))

    out_goes : (o : Option ℕ) → Goes (put_out_at s o)
    out_goes None = tt
    out_goes (Some place) =
        or_goes (put_out_greeting s place) (put_open s place)
        (like_goes (put_out_greeting s place)
        (greeting_like place (slice_get s.outs place) refl))
        (by_test Goes (is_open s.stage) (settled_pick (next_out s place)) None
        (λ e. settled_goes (next_out s place) (next_goes place)) (λ e. tt))

  put_kept : (s : Server) (n : ℕ) (k : LegKind) (came put : List OnLeg) → Fine s came put
      → PutKeeps (Holds raising cookie) (leg_at k n) came put (put_by_kind s n k)
  put_kept s n InServer came put h =
      quiet_goes s (leg_at InServer n) came put h (put_in s n) (in_same s n)
  put_kept s n OutServer came put h =
      out_goes s (leg_at OutServer n) came put h (out_place n s.outs)
  put_kept s n ClientIn came put h = tt
  put_kept s n ClientOut came put h = tt

  -- ---- legs come up, and are lost

  up_kept : (s : Server) (leg : Leg) (c : Cookie) (came put : List OnLeg) → Fine s came put
      → Fine (up s leg c) came put
  up_kept s leg c came put h =
      by_test (λ (t : Server). Fine t came put) (may_up_by s leg.number leg.kind)
      (up_by s leg.number leg.kind) s (λ e. by leg.kind) (λ e. h)
    where
      by : (k : LegKind) → Fine (up_by s leg.number k) came put
      by InServer =
          record { for_client = h.for_client; few = h.few; for_proxy = h.for_proxy }
      by OutServer =
          stays raising cookie (seen s) (seen (up_by s leg.number OutServer)) came put (omega arith)
          (λ once some. omega arith)
          (let all = kept_push cookie s.outs (out_leg_up leg.number) in omega (arith, all)) h
      by ClientIn = h
      by ClientOut = h

  drawn_kept : (s : Server) (n : ℕ) (k : LegKind) (came put : List OnLeg) → Fine s came put
      → Fine (drawn_by s n k) came put
  drawn_kept s n InServer came put h =
      by_test (λ (t : Server). Fine t came put) (in_is_drawn (in_leg n s.ins))
      (settled (without_in s n)) s
      (λ e. adds_stays raising cookie (without_in s n) (settled (without_in s n)) came put
      (adds_settled (without_in s n))
      (record { for_client = h.for_client; few = h.few; for_proxy = h.for_proxy })) (λ e. h)
  drawn_kept s n OutServer came put h = h
  drawn_kept s n ClientIn came put h = h
  drawn_kept s n ClientOut came put h = h

  -- an AckTo 3 of a leg's cookie is dropped with the leg
  gone_kept : (s : Server) (n : ℕ) (came put : List OnLeg) → Fine s came put
      → Fine (without_out (with_ack_dropped s n) n) came put
  gone_kept s n came put h = by (out_place n s.outs)
    where
      After : Waiting → List OutLeg → Type 0
      After w outs = Passes raising cookie (record { waiting = w; outs = outs }) came put

      -- of another destination, or of another cookie
      dropped : (key : Key) (c : Cookie)
          → are_one (Some (record { destination = 3; channel = c })) (Some key) ≡ false
          → greatest key s.waiting.due ≤ greatest key (without_first (is_ack_of c) s.waiting.due)
      dropped key c apart =
          others_keep key (is_ack_of c)
          (λ due e. not_told key (record { destination = 3; channel = c }) apart due.packet e)
          s.waiting.due

      fewer : (outs : List OutLeg) → kept cookie outs ≤ kept cookie s.outs
          → After s.waiting outs
      fewer outs less =
          stays raising cookie (seen s) (record { waiting = s.waiting; outs = outs }) came put
          (omega arith) (λ once some. omega arith) less h

      with_cookie : (place : ℕ) (x : OutLeg) → slice_get s.outs place ≡ Some x
          → (o : Option Cookie) → x.cookie ≡ o
          → After (without_ack_of s.waiting o) (removed_at s.outs (Some place))
      with_cookie place x at None is =
          fewer (removed_at s.outs (Some place)) (kept_fewer cookie s.outs place)
      with_cookie place x at (Some c) is =
          stays raising cookie (seen s) (record {
            waiting = without_ack_of s.waiting (Some c);
            outs = removed_at s.outs (Some place);
          }) came put (dropped (client raising cookie) c refl)
          (λ once some. by_same once some (same_cookie c cookie) refl)
          (kept_fewer cookie s.outs place) h
        where
          by_same : began cookie came ≤ 1 → 1 ≤ kept cookie (removed_at s.outs (Some place))
              → (b : Bool) → same_cookie c cookie ≡ b
              → greatest (proxy raising cookie) s.waiting.due
              ≤ greatest (proxy raising cookie) (without_first (is_ack_of c) s.waiting.due)
          by_same once some false e = dropped (proxy raising cookie) c e
          by_same once some true e =
              let few = h.few in
              let all = kept_removed cookie s.outs place x at in
              let one = ap (λ (o : Option Cookie). one_if (is_of_channel cookie o)) is
              ∙ ap one_if e in absurd (omega (arith, once, some, few, all, one))

      by_leg : (place : ℕ) (o : Option OutLeg) → slice_get s.outs place ≡ o
          → After (without_ack_of s.waiting (cookie_by o)) (removed_at s.outs (Some place))
      by_leg place None at =
          fewer (removed_at s.outs (Some place)) (kept_fewer cookie s.outs place)
      by_leg place (Some x) at = with_cookie place x at x.cookie refl

      by : (place : Option ℕ)
          → After (without_ack_of s.waiting (cookie_by (out_at s.outs place)))
          (removed_at s.outs place)
      by None = fewer s.outs (omega arith)
      by (Some place) = by_leg place (slice_get s.outs place) refl

  mark_kept : (s : Server) (n : ℕ) (k : LegKind) (came put : List OnLeg) → Fine s came put
      → Fine (mark_by s n k) came put
  mark_kept s n InServer came put h =
      let t : Server = lost_in s n (in_leg n s.ins) in
      adds_stays raising cookie t (settled t) came put (adds_settled t)
      (adds_stays raising cookie s t came put (adds_same s t (same_lost s n (in_leg n s.ins))) h)
  mark_kept s n OutServer came put h =
      let t : Server = without_out (with_ack_dropped s n) n in
      adds_stays raising cookie t (settled t) came put (adds_settled t) (gone_kept s n came put h)
  mark_kept s n ClientIn came put h = h
  mark_kept s n ClientOut came put h = h

  -- ---- the server

  steps : StepsKeep server_rules (Holds raising cookie)
  steps = record {
    up = λ s leg c came put h. up_kept s leg c came put h;
    head = λ s leg text came put h. h;
    pdu = λ s leg count bytes came put h.
        pdu_row raising cookie s leg.number leg.kind bytes came put h;
    packet = λ s leg count m came put h.
        packet_row raising cookie s leg.number count m leg.kind came put h;
    put = λ s leg came put h. put_kept s leg.number leg.kind came put h;
    drawn = λ s leg came put h. drawn_kept s leg.number leg.kind came put h;
    mark = λ s leg came put h. mark_kept s leg.number leg.kind came put h;
    ping = λ s leg came put h. h;
  }

  calls : ActsKeep acts (Holds raising cookie)
  calls = record {
    give = λ s bytes came put.
        adds_stays raising cookie s (give s bytes).0 came put (adds_give s bytes);
    take = λ s came put. adds_stays raising cookie s (take s) came put (adds_take s);
    close = λ s came put h.
        record { for_client = h.for_client; few = h.few; for_proxy = h.for_proxy };
    recycle = λ s came put. adds_stays raising cookie s (recycle s).0 came put (adds_recycle s);
  }

  pub passes_so : (window : ℕ) (moves : List EndMove)
      → ((n : ℕ) → opened (on n (all_end_moved server_rules acts (end_started (first window))
      moves).passage.came) ≤ 1)
      → PassesEdgesOn cookie
      (all_end_moved server_rules acts (end_started (first window)) moves).passage
  passes_so window moves once =
      let p = (all_end_moved server_rules acts (end_started (first window)) moves).passage in
      let h : Passes raising cookie (seen p.role) p.came p.put =
      end_moves_keep server_rules (Holds raising cookie) steps acts calls
      (end_started (first window)) moves (record {
        for_client = omega arith;
        few = omega arith;
        for_proxy = λ few some. omega arith;
      }) in record {
        client = h.for_client;
        out_proxy = λ n is only.
            h.for_proxy (began_once cookie n p.came only (once n))
            (kept_one cookie p.role.outs n is);
      }
