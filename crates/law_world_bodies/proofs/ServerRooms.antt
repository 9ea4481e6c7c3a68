-- what a server puts on its OUT legs is within the lifetimes that were told there
use Rattle.rh_keep.specs.Meters.{started}
use Rattle.law_order.proofs.Vocabulary.{◌≡◌, ℕ, ◌+◌, ◌-◌, ◌≤◌, ◌==◌, ◌&&◌, Bool, true, false, not, if◌then◌else◌, List, [], ◌∷◌, length, Some, None, Ok, Err, arith, refl, sym, ap, ◌∙◌, subst, IfSome, find, get_or, slice_get, slice_set, Option, and_parts, nat_tests, position-Some, slice_get-get_or, change}
use Rattle.rh_sig.specs.declared.named.Named.TheVariants as named
use Rattle.rh_shell.specs.declared.answers.Refused.TheVariants as refused
use Rattle.rh_server.specs.declared.out_line.Kind.TheVariants as kind
use Rattle.rh_server.specs.declared.state.EndMark.TheVariants as end_mark
use Rattle.rh_server.specs.declared.state.Greeting.TheVariants as greeting
use Rattle.rh_server.specs.declared.state.Stage.TheVariants as stage
use Rattle.rh_server.specs.Putting as putting
use Rattle.law_moves.proofs.Vocabulary.{may_send, fits, may_put, by_test, change_here, change_other, other_number, same_number, Cookie, Named, front_length, Count, Due, greeting as greeting_text, first_of, Message, Row, Text, Pdu, Packet, Waiting, taken}
use Rattle.law_role_server.proofs.Vocabulary.{OutLeg, Stage, lets, lets_packet, waits, acked, counted, went, Server, is_due, is_open, out_at, out_cookie, out_place, same_cookie, Done, conn_a2_at, first_out_at, is_first, on_conn_a2, opens, out_leg_up, refuse, took, unexpected, with_first_out, with_out_channel, acked_at, acked_cookie, acked_in, on_ack, answered, answered_by, answered_on, may_answer, on_out_r1_a4, out_r1_a4_at, out_r1_a4_by, Pick, counts, counts_at, gate}
use Rattle.law_role_server.proofs.Vocabulary.{gate_at, goes, is_end_due, may_end_at, may_go_at, next_out, or_else, pdu_by, put_end, put_open, put_out_at, put_out_place, put_pdu, put_pdu_or_end, put_waiting, settled_pick, waiting_at, waiting_by, was_put, went_at, with_out, on_is, on_os}
use Rattle.law_role_server.proofs.Gives.{found as number_at}
use Rattle.law_world_bodies.proofs.ClientRooms.{room_in}
use Rattle.law_world_bodies.proofs.OutMoves.{passes}
use Rattle.law_world_bodies.proofs.OutLegs.{Amounts, AreRoomy, room_of, set_roomy, set_same, wider_roomy}
use Rattle.law_world_bodies.proofs.ServerSame.{a8_same, ack_to_same, conn_b2_same, end_a2_same, in_r1_a2_same, in_r1_a6_same, in_r2_a2_same, Outs, outs_of, settled_same}

-- what was put on each leg, and what may be put there
pub record AreWithin (put may : Amounts) (o : Outs) : Type 0 where
  pub legs : AreRoomy put may 0 o.newest o.legs
  pub all : (n : ℕ) → put n ≤ may n

abbrev pub Roomy : Amounts → Amounts → Server → Type 0
Roomy put may s = AreWithin put may (outs_of s)

-- so much more on the leg of a number
abbrev pub bump : ℕ → ℕ → Amounts → Amounts
bump n more amounts = change n (λ (k : ℕ). k + more) amounts

-- what is allowed by a packet from an out proxy: a lifetime, of which the first channel's CONN/A3
-- is a part
abbrev pub allows : Named → ℕ
allows (named.ConnA2 version connection channel lifetime window) = lifetime - 28
allows (named.OutR1A4 version connection predecessor successor lifetime window timeout) = lifetime
allows packet = 0

-- ---- steps

find_passes : {X : Type 0} (test : X → Bool) (xs : List X) (x : X) → find test xs ≡ Some x
    → test x ≡ true
find_passes test [] x e = absurd (cc)
find_passes {X} test (y ∷ xs) x e = by (test y) refl (find_passes test xs x) e
  where
    by : (t : Bool) → test y ≡ t → (find test xs ≡ Some x → test x ≡ true)
        → (if t then Some y else find test xs) ≡ Some x → test x ≡ true
    by true is rest e = let same : y ≡ x = cc in subst (λ (z : X). test z ≡ true) same is
    by false is rest e = rest e

-- no less is allowed
more_allowed : (n add : ℕ) (may : Amounts) (j : ℕ) → may j ≤ bump n add may j
more_allowed n add may j = by (j == n) refl
  where
    by : (t : Bool) → (j == n) ≡ t → may j ≤ bump n add may j
    by true e =
        let here = change_here n (λ (x : ℕ). x + add) may in
        subst (λ (x : ℕ). may x ≤ bump n add may x) (sym (same_number j n e)) (omega (arith, here))
    by false e =
        let stays = change_other n (λ (x : ℕ). x + add) may j (other_number j n e) in
        omega (arith, stays)

module _ (put may : Amounts) where
  -- a leg that is kept has put so much more
  put_leg : (s : Server) (place : ℕ) (leg new : OutLeg) (more : ℕ)
      → slice_get s.outs place ≡ Some leg → new.number ≡ leg.number
      → more + room_in new.meter ≤ room_in leg.meter → Roomy put may s
      → Roomy (bump leg.number more put) may (record s { outs = slice_set s.outs place new })
  put_leg s place leg new more at same_leg fits k = record {
    legs =
        set_roomy put may (bump leg.number more put) may leg.number
        (λ j other. (change_other leg.number (λ (x : ℕ). x + more) put j other, omega arith))
        0 s.newest_out s.outs place leg new at refl same_leg
        (let here = change_here leg.number (λ (x : ℕ). x + more) put in
        omega (arith, here, fits, room))
        k.legs;
    all = λ j. by j (j == leg.number) refl;
  }
    where
      room : put leg.number + room_in leg.meter ≤ may leg.number
      room = room_of put may 0 s.newest_out s.outs place leg at k.legs

      by : (j : ℕ) (t : Bool) → (j == leg.number) ≡ t → bump leg.number more put j ≤ may j
      by j true e =
          let here = change_here leg.number (λ (x : ℕ). x + more) put in
          subst (λ (x : ℕ). bump leg.number more put x ≤ may x)
          (sym (same_number j leg.number e)) (omega (arith, here, fits, room))
      by j false e =
          let stays = change_other leg.number (λ (x : ℕ). x + more) put j
          (other_number j leg.number e) in
          let all = k.all j in
          omega (arith, stays, all)

  -- one that has this room now is allowed so much more
  allow_leg : (s : Server) (place : ℕ) (leg new : OutLeg) (add : ℕ)
      → slice_get s.outs place ≡ Some leg → new.number ≡ leg.number
      → room_in new.meter ≤ add → Roomy put may s
      → Roomy put (bump leg.number add may) (record s { outs = slice_set s.outs place new })
  allow_leg s place leg new add at same_leg fits k = record {
    legs =
        set_roomy put may put (bump leg.number add may) leg.number
        (λ j other. (refl, more_allowed leg.number add may j))
        0 s.newest_out s.outs place leg new at refl same_leg
        (let here = change_here leg.number (λ (x : ℕ). x + add) may in
        let all = k.all leg.number in
        omega (arith, here, fits, all))
        k.legs;
    all = λ j.
        let all = k.all j in
        let more = more_allowed leg.number add may j in
        omega (arith, all, more);
  }

  -- one that has no more room than before
  keep_leg : (s : Server) (place : ℕ) (leg new : OutLeg) → slice_get s.outs place ≡ Some leg
      → new.number ≡ leg.number → room_in new.meter ≤ room_in leg.meter → Roomy put may s
      → Roomy put may (record s { outs = slice_set s.outs place new })
  keep_leg s place leg new at same_leg fits k = record {
    legs =
        set_roomy put may put may leg.number (λ j other. (refl, omega arith)) 0 s.newest_out s.outs
        place leg new at refl same_leg
        (let room = room_of put may 0 s.newest_out s.outs place leg at k.legs in
        omega (arith, fits, room))
        k.legs;
    all = k.all;
  }

  widen : (n add : ℕ) (s : Server) → Roomy put may s → Roomy put (bump n add may) s
  widen n add s k = record {
    legs =
        wider_roomy put may (bump n add may) (more_allowed n add may) 0 s.newest_out s.outs k.legs;
    all = λ j.
        let all = k.all j in
        let more = more_allowed n add may j in
        omega (arith, all, more);
  }

  -- ---- rows

  -- a row that takes a packet allows so much more on a leg
  abbrev pub RowKeeps : ℕ → ℕ → Done → Type 0
  RowKeeps n add (t, Ok taken) = Roomy put (bump n add may) t
  RowKeeps n add (t, Err why) = Roomy put may t

  stays : (n add : ℕ) (t : Server) (row : Row) → Roomy put may t → RowKeeps n add (t, row)
  stays n add t (Ok taken) k = widen n add t k
  stays n add t (Err why) k = k

  -- CONN/A2
  first_out_keeps : (s : Server) (cookie : Cookie) (lifetime window : ℕ) → Roomy put may s
      → Roomy put (bump 1 (lifetime - 28) may) (with_first_out s cookie lifetime window)
  first_out_keeps s cookie lifetime window k =
      by (out_place 1 s.outs) refl (out_at s.outs (out_place 1 s.outs)) refl
    where
      by : (place : Option ℕ) → out_place 1 s.outs ≡ place → (leg : Option OutLeg)
          → out_at s.outs place ≡ leg
          → Roomy put (bump 1 (lifetime - 28) may)
          (first_out_at s cookie lifetime window place leg)
      by (Some place) found (Some leg) at =
          subst (λ (n : ℕ). Roomy put (bump n (lifetime - 28) may)
          (with_out_channel s place leg cookie window (started lifetime 28)))
          (number_at 1 s.outs place leg found at)
          (allow_leg s place leg _ (lifetime - 28) at refl (omega arith) k)
      by (Some place) found None at = widen 1 (lifetime - 28) s k
      by None found leg at = widen 1 (lifetime - 28) s k

  conn_a2_keeps : (s : Server) (n : ℕ) (count : Count) (connection cookie : Cookie)
      (lifetime window : ℕ) → Roomy put may s
      → RowKeeps n (lifetime - 28) (on_conn_a2 s n count connection cookie lifetime window)
  conn_a2_keeps s n count connection cookie lifetime window k =
      by_test (RowKeeps n (lifetime - 28))
      (is_first count && ((n == 1) && not (waits kind.ConnC1 s.waiting)))
      (conn_a2_at s s.stage connection cookie lifetime window) (unexpected s)
      (λ e. by (same_number n 1 (and_parts (n == 1) (not (waits kind.ConnC1 s.waiting))
      (and_parts (is_first count) ((n == 1) && not (waits kind.ConnC1 s.waiting)) e).1).0) s.stage)
      (λ e. k)
    where
      opened : n ≡ 1 → Roomy put (bump n (lifetime - 28) may)
          (with_first_out s cookie lifetime window)
      opened e =
          subst (λ (j : ℕ). Roomy put (bump j (lifetime - 28) may)
          (with_first_out s cookie lifetime window)) (sym e)
          (first_out_keeps s cookie lifetime window k)

      by : n ≡ 1 → (x : Stage)
          → RowKeeps n (lifetime - 28) (conn_a2_at s x connection cookie lifetime window)
      by e stage.Waits = opened e
      by e (stage.InCame first in_window timeout) =
          by_test (RowKeeps n (lifetime - 28)) (same_cookie first connection)
          (took (opens (with_first_out s cookie lifetime window) first in_window timeout))
          (refuse s (refused.Cookie first connection)) (λ t. opened e) (λ t. k)
      by e (stage.OutCame first) = k
      by e (stage.Open first) = k
      by e stage.Ended = k

  -- OUT_R1/A4
  answered_keeps : (s : Server) (n : ℕ) (successor : Cookie) (lifetime window timeout : ℕ)
      → Roomy put may s
      → RowKeeps n lifetime (answered_on s n successor lifetime window timeout)
  answered_keeps s n successor lifetime window timeout k =
      by (out_place n s.outs) refl (out_at s.outs (out_place n s.outs)) refl
    where
      by : (place : Option ℕ) → out_place n s.outs ≡ place → (leg : Option OutLeg)
          → out_at s.outs place ≡ leg
          → RowKeeps n lifetime (answered_by s successor lifetime window timeout place leg)
      by (Some place) found (Some leg) at =
          subst (λ (j : ℕ). Roomy put (bump j lifetime may)
          (answered s place leg successor lifetime window timeout))
          (number_at n s.outs place leg found at)
          (allow_leg s place leg _ lifetime at refl (omega arith) k)
      by (Some place) found None at = k
      by None found leg at = k

  a4_keeps : (s : Server) (n : ℕ) (count : Count) (connection predecessor successor : Cookie)
      (lifetime window timeout : ℕ) → Roomy put may s
      → RowKeeps n lifetime
      (on_out_r1_a4 s n count connection predecessor successor lifetime window timeout)
  a4_keeps s n count connection predecessor successor lifetime window timeout k =
      by_test (RowKeeps n lifetime) (may_answer s n count)
      (out_r1_a4_at s s.stage n connection predecessor successor lifetime window timeout)
      (unexpected s) (λ e. by s.stage) (λ e. k)
    where
      joined : (first : Cookie) (writing : Option Cookie)
          → RowKeeps n lifetime
          (out_r1_a4_by s n first connection predecessor successor lifetime window timeout writing)
      joined first None = k
      joined first (Some writing) =
          let beyond =
          if not (same_cookie writing predecessor)
          then refuse s (refused.Cookie writing predecessor)
          else answered_on s n successor lifetime window timeout in
          by_test (RowKeeps n lifetime) (not (same_cookie first connection))
          (refuse s (refused.Cookie first connection)) beyond (λ t. k)
          (λ t. by_test (RowKeeps n lifetime) (not (same_cookie writing predecessor))
          (refuse s (refused.Cookie writing predecessor))
          (answered_on s n successor lifetime window timeout) (λ u. k)
          (λ u. answered_keeps s n successor lifetime window timeout k))

      by : (x : Stage)
          → RowKeeps n lifetime
          (out_r1_a4_at s x n connection predecessor successor lifetime window timeout)
      by (stage.Open first) = joined first (out_cookie s.writing s.outs)
      by stage.Waits = k
      by (stage.OutCame first) = k
      by (stage.InCame first in_window in_timeout) = k
      by stage.Ended = k

  -- an acknowledgement of the leg's channel
  ack_keeps : (s : Server) (n : ℕ) (count : Count) (received window : ℕ) (cookie : Cookie)
      → Roomy put may s → RowKeeps n 0 (on_ack s n count received window cookie)
  ack_keeps s n count received window cookie k =
      by_test (RowKeeps n 0) (is_first count) (unexpected s)
      (acked_cookie s n received window cookie (out_cookie n s.outs)) (λ e. k)
      (λ e. with_cookie (out_cookie n s.outs))
    where
      there : (place : ℕ) (leg : Option OutLeg) → slice_get s.outs place ≡ leg
          → RowKeeps n 0 (acked_at s place received window leg)
      there place None at = k
      there place (Some leg) at =
          stays n 0
          (record s { outs = slice_set s.outs place (acked leg received window).0 })
          (acked leg received window).1
          (keep_leg s place leg (acked leg received window).0 at refl (omega arith) k)

      placed : (place : Option ℕ) → RowKeeps n 0 (acked_in s received window place)
      placed None = k
      placed (Some place) = there place (slice_get s.outs place) refl

      with_cookie : (channel : Option Cookie)
          → RowKeeps n 0 (acked_cookie s n received window cookie channel)
      with_cookie None = k
      with_cookie (Some channel) =
          by_test (RowKeeps n 0) (same_cookie channel cookie)
          (acked_in s received window (out_place n s.outs))
          (refuse s (refused.Cookie channel cookie)) (λ t. placed (out_place n s.outs)) (λ t. k)

  pub os_keeps : (s : Server) (n : ℕ) (count : Count) (packet : Named) → Roomy put may s
      → RowKeeps n (allows packet) (on_os s n count packet)
  os_keeps s n count (named.ConnA2 version connection cookie lifetime window) k =
      conn_a2_keeps s n count connection cookie lifetime window k
  os_keeps s n count
      (named.OutR1A4 version connection predecessor successor lifetime window timeout) k =
      a4_keeps s n count connection predecessor successor lifetime window timeout k
  os_keeps s n count (named.Ack received window cookie) k =
      ack_keeps s n count received window cookie k
  os_keeps s n count (named.PingTraffic bytes) k =
      by_test (RowKeeps n 0) (is_first count) (unexpected s) (took s) (λ e. k)
      (λ e. stays n 0 s (Ok tt) k)
  os_keeps s n count packet k = k

  -- what comes on an is leg allows nothing
  pub is_keeps : (s : Server) (n : ℕ) (count : Count) (packet : Named) → Roomy put may s
      → Roomy put may (on_is s n count packet).0
  is_keeps s n count
      (named.ConnB2 version connection cookie window timeout group address padding) k =
      subst (AreWithin put may) (sym (conn_b2_same s n count connection cookie window timeout)) k
  is_keeps s n count
      (named.InR1A2 version connection predecessor successor window timeout) k =
      subst (AreWithin put may)
      (sym (in_r1_a2_same s n count connection predecessor successor window timeout)) k
  is_keeps s n count (named.InR1A6 successor) k =
      subst (AreWithin put may) (sym (in_r1_a6_same s n successor)) k
  is_keeps s n count (named.InR2A2 successor) k =
      subst (AreWithin put may) (sym (in_r2_a2_same s n count successor)) k
  is_keeps s n count (named.AckTo destination received window cookie) k =
      subst (AreWithin put may) (sym (ack_to_same s count destination received window cookie)) k
  is_keeps s n count (named.OutR1A8 destination successor) k =
      subst (AreWithin put may) (sym (a8_same s count destination successor)) k
  is_keeps s n count named.EndA2 k = subst (AreWithin put may) (sym (end_a2_same s n count)) k
  is_keeps s n count packet k = k

  -- ---- puts on an os leg

  module _ (s : Server) (place : ℕ) (leg : OutLeg) (there : slice_get s.outs place ≡ Some leg)
      (k : Roomy put may s) where
    -- what is picked is put on that leg
    abbrev There : Pick → Type 0
    There pick =
        IfSome pick (λ (next : Server × Message).
        Roomy (bump leg.number (passes next.1) put) may next.0)

    or_picked : (a b : Pick) → There a → There b → There (or_else a b)
    or_picked None b h m = m
    or_picked (Some pick) b h m = h

    -- so many bytes are within the lifetime, and count in it
    counts_keeps : (waiting : Waiting) (len : ℕ) → leg.meter.count + len ≤ leg.meter.length
        → Roomy (bump leg.number len put) may (counts (record s { waiting = waiting }) place len)
    counts_keeps waiting len within =
        subst (λ (o : Option OutLeg).
        Roomy (bump leg.number len put) may
        (counts_at (record s { waiting = waiting }) place len o)) (sym there)
        (put_leg s place leg (counted leg len) len there refl (omega (arith, within)) k)

    uncounted : Roomy (bump leg.number 0 put) may s
    uncounted =
        subst (λ (legs : List OutLeg).
        AreWithin (bump leg.number 0 put) may (record (outs_of s) { legs = legs }))
        (set_same s.outs place leg there)
        (put_leg s place leg leg 0 there refl (omega arith) k)

    if_fits : (len : ℕ) → fits leg.meter len ≡ true → leg.meter.count + len ≤ leg.meter.length
    if_fits len e = grind (arith, nat_tests)

    if_may : (len : ℕ) → may_put leg.meter len ≡ true → leg.meter.count + len ≤ leg.meter.length
    if_may len e = grind (arith, nat_tests)

    -- a packet that the gate lets go
    packet_keeps : (waiting : Waiting) (packet : Named)
        → lets_packet (gate s leg) packet ≡ true
        → Roomy (bump leg.number (passes (Packet packet)) put) may
        (was_put (record s { waiting = waiting }) place packet)
    packet_keeps waiting (named.ConnC1 version window timeout) e =
        counts_keeps waiting 44
        (if_may 44 (and_parts (leg.number == s.writing) (may_put leg.meter 44) e).1)
    packet_keeps waiting (named.InR1A3 to version window timeout) e =
        counts_keeps waiting 52
        (if_fits 52 (and_parts (leg.number == s.writing) (fits leg.meter 52) e).1)
    packet_keeps waiting (named.InR2A3 to) e =
        counts_keeps waiting 28
        (if_fits 28 (and_parts (leg.number == s.writing) (fits leg.meter 28) e).1)
    packet_keeps waiting (named.OutR1A1 to) e =
        counts_keeps waiting 28
        (if_fits 28 (and_parts (leg.number == s.writing) (fits leg.meter 28) e).1)
    packet_keeps waiting (named.OutR1A5 to version timeout) e =
        counts_keeps waiting 44
        (if_fits 44 (and_parts (leg.number == s.writing) (fits leg.meter 44) e).1)
    packet_keeps waiting named.OutR1A9 e =
        counts_keeps waiting 24 (if_fits 24 (and_parts (gate s leg).hands_over (fits leg.meter 24)
        (and_parts (leg.number == s.writing) ((gate s leg).hands_over && fits leg.meter 24) e).1).1)
    packet_keeps waiting (named.AckTo to received window cookie) e = by (to == 3) e
      where
        by : (t : Bool)
            → (if t then same_cookie cookie (gate s leg).cookie
            else (gate s leg).is_writing && may_put leg.meter 56) ≡ true
            → Roomy (bump leg.number (if t then 0 else 56) put) may
            (if t then record s { waiting = waiting }
            else counts (record s { waiting = waiting }) place 56)
        by true e = uncounted
        by false e =
            counts_keeps waiting 56
            (if_may 56 (and_parts (leg.number == s.writing) (may_put leg.meter 56)
            e).1)
    packet_keeps waiting packet e =
        let bad = (and_parts (leg.number == s.writing) false e).1 in absurd (cc)

    -- the first that the gate lets go
    waits_keeps : (waiting : Waiting) (o : Option Due)
        → find (lets (gate s leg)) s.waiting.due ≡ o → There (waiting_by s place (waiting, o))
    waits_keeps waiting None e = tt
    waits_keeps waiting (Some due) e =
        packet_keeps waiting due.packet
        (find_passes (lets (gate s leg)) s.waiting.due due e)

    waiting_keeps : There (put_waiting s place)
    waiting_keeps =
        subst (λ (o : Option OutLeg). There (waiting_at s place (gate_at s o))) (sym there)
        (waits_keeps (taken (lets (gate s leg)) s.waiting).0
        (find (lets (gate s leg)) s.waiting.due) refl)

    front_size : (queue : List (List ℕ)) (len : ℕ) → front_length queue ≡ Some len
        → length (first_of queue) ≡ len
    front_size [] len e = absurd (cc)
    front_size (pdu ∷ queue) len e = cc

    went_keeps : (len : ℕ) → leg.meter.count + len ≤ leg.meter.length
        → Roomy (bump leg.number len put) may (goes s place len)
    went_keeps len within =
        subst (λ (o : Option OutLeg). AreWithin (bump leg.number len put) may (record (outs_of s) {
          legs = went_at s place len o;
        })) (sym there)
        (put_leg s place leg (went leg len) len there refl (omega (arith, within)) k)

    pdu_keeps : (len : Option ℕ) → front_length s.queue ≡ len → There (pdu_by s place len)
    pdu_keeps None e = tt
    pdu_keeps (Some len) e =
        let size : length (first_of s.queue) ≡ len = front_size s.queue len e in
        by_test There (may_go_at s len (slice_get s.outs place))
        (Some (goes s place len, Pdu (first_of s.queue))) None
        (λ t.
        let may_go : (leg.number == s.writing) && (may_send leg.window len && may_put leg.meter len)
        ≡ true = ap (may_go_at s len) (sym there) ∙ t in
        subst (λ (n : ℕ). Roomy (bump leg.number n put) may (goes s place len)) (sym size)
        (went_keeps len (if_may len (and_parts (may_send leg.window len) (may_put leg.meter len)
        (and_parts (leg.number == s.writing) (may_send leg.window len && may_put leg.meter len)
        may_go).1).1)))
        (λ t. tt)

    end_keeps : There (put_end s place)
    end_keeps =
        by_test There (is_end_due s && may_end_at s (slice_get s.outs place))
        (Some (record (counts s place 24) { end_mark = end_mark.Put }, Packet named.EndB1)) None
        (λ t.
        let may_end : ((leg.number == s.writing) && fits leg.meter 24) ≡ true =
        ap (may_end_at s) (sym there)
        ∙ (and_parts (is_end_due s) (may_end_at s (slice_get s.outs place)) t).1 in
        counts_keeps s.waiting 24 (if_fits 24 (and_parts (leg.number == s.writing)
        (fits leg.meter 24) may_end).1))
        (λ t. tt)

    settled_keeps : (pick : Pick) → There pick → There (settled_pick pick)
    settled_keeps None h = tt
    settled_keeps (Some pick) h =
        subst (AreWithin (bump leg.number (passes pick.1) put) may) (sym (settled_same pick.0)) h

    open_keeps : There (put_open s place)
    open_keeps =
        by_test There (is_open s.stage) (settled_pick (next_out s place)) None
        (λ e. settled_keeps (next_out s place)
        (or_picked (put_waiting s place) (put_pdu_or_end s place) waiting_keeps
        (or_picked (put_pdu s place) (put_end s place)
        (pdu_keeps (front_length s.queue) refl) end_keeps)))
        (λ e. tt)

    greeting_keeps : There (putting.put_out_greeting s place)
    greeting_keeps =
        subst (λ (o : Option OutLeg). There (putting.out_greeting_at s place o)) (sym there)
        (by_test There (is_due leg.greeting)
        (Some (with_out s place (record leg { greeting = greeting.Put }), Text greeting_text)) None
        (λ e. put_leg s place leg (record leg { greeting = greeting.Put }) 0 there refl
        (omega arith) k) (λ e. tt))

    pub place_keeps : There (put_out_place s place)
    place_keeps =
        or_picked (putting.put_out_greeting s place) (put_open s place) greeting_keeps open_keeps

  -- on the leg of a number
  pub out_keeps : (s : Server) (n : ℕ) (o : Option ℕ) → out_place n s.outs ≡ o
      → Roomy put may s
      → IfSome (put_out_at s o) (λ (next : Server × Message).
      Roomy (bump n (passes next.1) put) may next.0)
  out_keeps s n None found k = tt
  out_keeps s n (Some place) found k = by (slice_get s.outs place) refl
    where
      Goal : ℕ → Type 0
      Goal j = IfSome (put_out_place s place) (λ (next : Server × Message).
          Roomy (bump j (passes next.1) put) may next.0)

      by : (leg : Option OutLeg) → slice_get s.outs place ≡ leg → Goal n
      by None at =
          let first = out_leg_up 0 in
          let test = position-Some (λ (l : OutLeg). l.number == n) s.outs place first found in
          absurd (let bad : None ≡ Some (get_or s.outs place first) =
          sym at ∙ slice_get-get_or s.outs place first test.0 in cc)
      by (Some leg) at =
          subst Goal (number_at n s.outs place leg found at) (place_keeps s place leg at k)
