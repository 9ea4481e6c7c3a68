-- what comes to an in proxy, and what waits behind it
use Rattle.law_order.proofs.Vocabulary.{◌≡◌, ℕ, suc, ◌+◌, ◌==◌, ◌&&◌, ◌||◌, Bool, true, false, not, nat_lt, if◌then◌else◌, List, [], ◌∷◌, ◌++◌, Some, None, arith, rules, refl, sym, ap, ◌∙◌, subst, and_parts, eqb-true, false≢true, true≢false, nat_tests, list_any, Option}
use Rattle.rh_sig.specs.declared.named.Named.TheVariants as named
use Rattle.rh_line.specs.Lines as line
use Rattle.rh_shell.specs.declared.answers.Refused.TheVariants as refused
use Rattle.rh_shell.specs.Waiting as waits
use Rattle.rh_inproxy.specs.declared.state.Opening.TheVariants as openings
use Rattle.rh_inproxy.specs.declared.state.Successor.TheVariants as successors
use Rattle.law_moves.proofs.Vocabulary.{by_test, Cookie, Named, Leg, LegKind, ClientOut, OutServer, ClientIn, InServer, Which, Current, Next, Count, Due, Forwarded, Pdu, Packet, is_of, OnLeg, count_of}
use Rattle.law_moves.proofs.Lemmas.{RowKeeps}
use Rattle.law_role_inproxy.proofs.Vocabulary.{KEEPALIVE, Connects, Replaces, TellsServer, Told, Follows, Opener, Opening, Successor, Done, taken, refuse, unexpected, InProxy, channel_of, has_a5, is_client_leg, is_server_leg, same_cookie, up, may_accept, accepts, accepts_later, is_absent, accepted, wants, connected, is_first, opener, opener_of, opened, kept_for, on_conn_b1, on_first_in_r1_a1, forward_by, forwarded, on_end_a1, is_newcomer, joined, join, on_later_in_r1_a1}
use Rattle.law_role_inproxy.proofs.Vocabulary.{on_in_r1_a1, on_in_r1_a5, finished, finish_by, handed_over, hand_over, on_pdu, on_keep_alive, pdu, pdu_by, packet, on_channel, on_channel_by, on_ci, on_is}
use Rattle.law_role_client.proofs.Vocabulary.{ci, is_out_r1_a7}
use Rattle.law_peers_room.proofs.InRoom.Turns.{wait_more, wait_pushed, wait_merged}
use Rattle.law_peers_room.proofs.InRoom.Apart.{push_apart, merged_apart}
use Rattle.law_peers_room.proofs.InRoom.Seen.{IsAt, IsUpTo, Holds, Same, at_channel, behind_of, came_one, counts, followed_holds, newest, newest_of, none_more, same_holds, same_row, seen, switches_more}
use Rattle.law_peers_room.specs.InRoom.Waiting.{AreApart, WaitFrom, passed, switches}

-- ---- what leaves these alone

same_is : (s : InProxy) (m : Named) → Same s (on_is s m).0
same_is s m = search rules

same_keep_alive : (s : InProxy) (which : Which) (n : ℕ) → Same s (on_keep_alive s which n).0
same_keep_alive s which n = search rules

same_end : (s : InProxy) (which : Which) → Same s (on_end_a1 s which).0
same_end s which = search rules

same_pdu : (s : InProxy) (which : Which) (bytes : List ℕ) → Same s (on_pdu s which bytes).0
same_pdu s which bytes = search rules

module _ (own : ℕ) where
  -- ---- legs come up

  pub up_holds : (s : InProxy) (leg : Leg) (came put : List OnLeg) → Holds own s came put
      → Holds own (up s leg) came put
  up_holds s leg came put h =
      by_test So (may_accept s leg) (accepted s s.opening leg.number)
      (if wants s leg then connected s s.opening else s) (λ e. by s.opening refl e)
      (λ e. by_test So (wants s leg) (connected s s.opening) s (λ f. connects s.opening)
      (λ f. h))
    where
      So : InProxy → Type 0
      So t = Holds own t came put

      later : accepts_later s leg.number ≡ true
          → So (record s { successor = successors.Up leg.number; newest_lost = false })
      later e =
          let next : leg.number ≡ suc s.current.number = grind (arith, nat_tests, e) in
          let low = h.low in
          let lone : is_absent s.successor ≡ true = grind (arith, nat_tests, e) in
          let none : newest (seen s) ≡ s.current.number = absent s.successor refl lone in record {
            number = h.number;
            room = h.room;
            turn = h.turn;
            apart = h.apart;
            low = omega (arith, next);
            high = omega (arith, next);
            none = λ k above. h.none k (omega (arith, above, next, none));
          }
        where
          absent : (z : Successor) → s.successor ≡ z → is_absent z ≡ true
              → newest (seen s) ≡ s.current.number
          absent successors.Absent f lone =
              ap (λ (y : Successor). newest_of s.current.number (behind_of y)) f
          absent (successors.Up number) f lone = absurd (false≢true lone)
          absent (successors.Joined of stage) f lone = absurd (false≢true lone)

      let_in : (o : Opening) → s.opening ≡ o → may_accept s leg ≡ true
          → accepts s o leg.number ≡ true
      let_in o e f =
          subst (λ (y : Opening). accepts s y leg.number ≡ true) e
          (and_parts (is_client_leg leg) (accepts s s.opening leg.number) f).1

      by : (o : Opening) → s.opening ≡ o → may_accept s leg ≡ true
          → So (accepted s o leg.number)
      by openings.AwaitsClient e f = h
      by openings.AwaitsPacket e f = absurd (false≢true (let_in openings.AwaitsPacket e f))
      by (openings.WantsServer of) e f = later (let_in (openings.WantsServer of) e f)
      by (openings.Announces of) e f = later (let_in (openings.Announces of) e f)
      by (openings.Announced of) e f = later (let_in (openings.Announced of) e f)

      connects : (o : Opening) → So (connected s o)
      connects (openings.WantsServer of) = h
      connects openings.AwaitsClient = h
      connects openings.AwaitsPacket = h
      connects (openings.Announces of) = h
      connects (openings.Announced of) = h

  -- ---- a packet is to be forwarded

  -- where it waits, what waits is sound behind a message that came; else nothing changed
  forward_row : (s : InProxy) (one : OnLeg) (came put : List OnLeg) (m : Named)
      → IsUpTo (seen s) one.0 → Holds own s came put
      → ((w : waits.Waiting) → w.room ≡ s.waiting.room
      → WaitFrom (passed own put) (came ++ one ∷ []) w.due → AreApart w.due
      → Holds own (record s { waiting = w }) (came ++ one ∷ []) put)
      → (WaitFrom (passed own put) came s.waiting.due
      → list_any (waits.takes m) s.waiting.due ≡ true
      → WaitFrom (passed own put) (came ++ one ∷ []) (waits.merged s.waiting.due m))
      → (WaitFrom (passed own put) came s.waiting.due
      → WaitFrom (passed own put) (came ++ one ∷ [])
      (s.waiting.due ++ waits.to_forward m ∷ []))
      → RowKeeps (Holds own) one came put (forwarded s m)
  forward_row s one came put m near h so merges pushes =
      by_test (λ (x : waits.Waiting × Bool). RowKeeps (Holds own) one came put (forward_by s x))
      (list_any (waits.takes m) s.waiting.due)
      (waits.with_due s.waiting (waits.merged s.waiting.due m), true) _
      (λ e. so _ refl (merges h.turn e) (merged_apart m s.waiting.due h.apart))
      (λ e. by_test
      (λ (x : waits.Waiting × Bool). RowKeeps (Holds own) one came put (forward_by s x))
      (nat_lt (waits.count Forwarded s.waiting.due) s.waiting.room)
      (waits.pushed s.waiting (waits.to_forward m), true) (s.waiting, false)
      (λ f. so _ refl (pushes h.turn) (push_apart m s.waiting.due e h.apart))
      (λ f. h))

  waits_so : (s : InProxy) (one : OnLeg) (came put : List OnLeg) → IsUpTo (seen s) one.0
      → Holds own s came put → (w : waits.Waiting) → w.room ≡ s.waiting.room
      → WaitFrom (passed own put) (came ++ one ∷ []) w.due → AreApart w.due
      → Holds own (record s { waiting = w }) (came ++ one ∷ []) put
  waits_so s one came put near h w room turn apart = record {
    number = h.number;
    room = room ∙ h.room;
    turn = turn;
    apart = apart;
    low = h.low;
    high = h.high;
    none = none_more (seen s) came one near h.none;
  }

  -- on a ci leg, by its channel
  module _ (s : InProxy) (n : ℕ) (came put : List OnLeg) (h : Holds own s came put)
      (at : IsAt (seen s) n) where
    near : IsUpTo (seen s) (ci n)
    near e = at.high

    ack_row : (received available : ℕ) (channel : Cookie) (to : ℕ) → to ≡ 3
        → RowKeeps (Holds own) (ci n, Packet (named.AckTo to received available channel)) came
        put (forwarded s (named.AckTo 3 received available channel))
    ack_row received available channel to is =
        subst (λ (k : ℕ). RowKeeps (Holds own)
        (ci n, Packet (named.AckTo k received available channel)) came put (forwarded s m))
        (sym is)
        (forward_row s one came put m near h (waits_so s one came put near h)
        (λ turn e. wait_merged (came ++ one ∷ []) received available channel (passed own put)
        s.waiting.due
        (wait_more (passed own put) came one s.waiting.due (omega (arith, same)) turn))
        (λ turn. wait_pushed (passed own put) came one s.waiting.due m
        (λ k e. (
          refl,
          record {
            before = came;
            later = [];
            number = n;
            received = received;
            available = available;
            is = refl;
            behind = omega (arith, e);
            near = λ j above.
                let low = at.low in
                let high = h.high in
                h.none j (omega (arith, above, low, high));
          },
        )) (omega (arith, same)) turn))
      where
        m : Named
        m = named.AckTo 3 received available channel

        one : OnLeg
        one = (ci n, Packet m)

        same : switches (came ++ one ∷ []) ≡ switches came + 0
        same = switches_more came one

    switch_row : (to : ℕ) (successor : Cookie)
        → RowKeeps (Holds own) (ci n, Packet (named.OutR1A7 to successor)) came put
        (forwarded s (named.OutR1A8 2 successor))
    switch_row to successor =
        forward_row s one came put m near h (waits_so s one came put near h)
        (λ turn e. absurd (false≢true (sym (none s.waiting.due) ∙ e)))
        (λ turn. wait_pushed (passed own put) came one s.waiting.due m (λ k e. tt)
        (switches_more came one) turn)
      where
        m : Named
        m = named.OutR1A8 2 successor

        one : OnLeg
        one = (ci n, Packet (named.OutR1A7 to successor))

        -- it is merged with none
        none_one : (due : Due) → waits.takes m due ≡ false
        none_one due = by_key (waits.key_of due.packet)
          where
            by_key : (o : Option waits.Key) → waits.are_one o None ≡ false
            by_key None = refl
            by_key (Some key) = refl

        none : (dues : List Due) → list_any (waits.takes m) dues ≡ false
        none [] = refl
        none (due ∷ dues) =
            subst (λ (b : Bool). (b || list_any (waits.takes m) dues) ≡ false)
            (sym (none_one due)) (none dues)

    -- ---- IN_R1/A5

    quiet_row : (m : Named) → counts (ci n, Packet m) ≡ 0 → (x : Done) → Same s x.0
        → RowKeeps (Holds own) (ci n, Packet m) came put x
    quiet_row m quiet x same =
        same_row own s (ci n, Packet m) came put near quiet h x same

    finish_row : (z : Successor) (cookie : Cookie) → s.successor ≡ z
        → RowKeeps (Holds own) (ci n, Packet (named.InR1A5 cookie)) came put
        (finish_by s z cookie)
    finish_row successors.Absent cookie e =
        quiet_row (named.InR1A5 cookie) refl (handed_over s cookie) refl
    finish_row (successors.Joined leg Told) cookie e =
        by_test (RowKeeps (Holds own) (ci n, Packet (named.InR1A5 cookie)) came put)
        (same_cookie leg.cookie cookie) (taken (finished s leg))
        (refuse s (refused.Cookie leg.cookie cookie))
        (λ f. let t : InProxy = record s {
          line = line.after_finish s.line;
          successor = successors.Joined leg Follows;
        } in
        let same : Same s t =
        ap (λ (y : Successor). record (seen s) { behind = behind_of y }) (sym e) in
        followed_holds own t (came ++ (ci n, Packet (named.InR1A5 cookie)) ∷ []) put
        (same_holds own s t (came ++ (ci n, Packet (named.InR1A5 cookie)) ∷ []) put same
        (came_one own s (ci n, Packet (named.InR1A5 cookie)) came put near refl h)))
        (λ f. h)
    finish_row (successors.Joined leg Follows) cookie e = h
    finish_row (successors.Joined leg (TellsServer behind)) cookie e = h
    finish_row (successors.Up number) cookie e = h

    a5_row : (which : Which) (cookie : Cookie)
        → RowKeeps (Holds own) (ci n, Packet (named.InR1A5 cookie)) came put
        (on_in_r1_a5 s which cookie)
    a5_row which cookie =
        by_test (RowKeeps (Holds own) (ci n, Packet (named.InR1A5 cookie)) came put)
        (has_a5 s which) (unexpected s) (hand_over s which cookie) (λ e. h) (λ e. by which)
      where
        by : (w : Which)
            → RowKeeps (Holds own) (ci n, Packet (named.InR1A5 cookie)) came put
            (hand_over s w cookie)
        by Current = finish_row s.successor cookie refl
        by Next = quiet_row (named.InR1A5 cookie) refl (handed_over s cookie) refl

    -- ---- the rows of a channel

    channel_row : (which : Which) (m : Named)
        → RowKeeps (Holds own) (ci n, Packet m) came put (on_channel s which m)
    channel_row which (named.AckTo to received available channel) =
        by_test (RowKeeps (Holds own)
        (ci n, Packet (named.AckTo to received available channel)) came put)
        (not (has_a5 s which) && (to == 3))
        (forwarded s (named.AckTo 3 received available channel)) (unexpected s)
        (λ e. ack_row received available channel to
        (eqb-true to 3 (and_parts (not (has_a5 s which)) (to == 3) e).1)) (λ e. h)
    channel_row which (named.OutR1A7 to successor) =
        by_test (RowKeeps (Holds own) (ci n, Packet (named.OutR1A7 to successor)) came put)
        (not (has_a5 s which) && (to == 2)) (forwarded s (named.OutR1A8 2 successor))
        (unexpected s) (λ e. switch_row to successor) (λ e. h)
    channel_row which (named.KeepAlive keepalive) =
        quiet_row (named.KeepAlive keepalive) refl (on_keep_alive s which keepalive)
        (same_keep_alive s which keepalive)
    channel_row which named.EndA1 =
        quiet_row named.EndA1 refl (on_end_a1 s which) (same_end s which)
    channel_row which (named.InR1A5 successor) = a5_row which successor
    channel_row which m = h

  -- ---- the first packet of a leg

  module _ (s : InProxy) (n : ℕ) (came put : List OnLeg) (h : Holds own s came put) where
    first_row : (m : Named) → counts (ci n, Packet m) ≡ 0 → (o : Opener) (keepalive : ℕ)
        → is_first s n ≡ true
        → RowKeeps (Holds own) (ci n, Packet m) came put (opened s o keepalive)
    first_row m quiet o keepalive e =
        let is : s.current.number ≡ n = grind (arith, nat_tests, e) in
        let low = h.low in
        same_row own s (ci n, Packet m) came put (λ f. omega (arith, is, low)) quiet h
        (opened s o keepalive) refl

    b1_row : (version lifetime keepalive : ℕ) (connection channel group : Cookie)
        → RowKeeps (Holds own)
        (ci n, Packet (named.ConnB1 version connection channel lifetime keepalive group)) came put
        (on_conn_b1 s n connection channel keepalive group)
    b1_row version lifetime keepalive connection channel group =
        by_test (RowKeeps (Holds own)
        (ci n, Packet (named.ConnB1 version connection channel lifetime keepalive group)) came
        put) (is_first s n)
        (opened s (opener connection channel (Connects group)) (kept_for keepalive))
        (unexpected s)
        (λ e. first_row (named.ConnB1 version connection channel lifetime keepalive group) refl
        (opener connection channel (Connects group)) (kept_for keepalive) e)
        (λ e. h)

    join_row : (m : Named) → counts (ci n, Packet m) ≡ 0 → (o : Opener)
        (connection predecessor channel : Cookie) → is_newcomer s.successor n ≡ true
        → RowKeeps (Holds own) (ci n, Packet m) came put
        (join s o n connection predecessor channel)
    join_row m quiet o connection predecessor channel e =
        by_test So (not (same_cookie o.connection connection))
        (refuse s (refused.Cookie o.connection connection)) _ (λ f. h)
        (λ f. by_test So (not (same_cookie s.current.cookie predecessor))
        (refuse s (refused.Cookie s.current.cookie predecessor)) (taken (joined s n channel))
        (λ g. h)
        (λ g. same_row own s (ci n, Packet m) came put (near s.successor refl e) quiet h
        (taken (joined s n channel)) (same s.successor refl e)))
      where
        So : Done → Type 0
        So x = RowKeeps (Holds own) (ci n, Packet m) came put x

        same : (z : Successor) → s.successor ≡ z → is_newcomer z n ≡ true
            → Same s (joined s n channel)
        same successors.Absent f g = absurd (false≢true g)
        same (successors.Joined leg stage) f g = absurd (false≢true g)
        same (successors.Up number) f g =
            let is : number ≡ n = eqb-true number n g in
            ap (λ (k : ℕ). record (seen s) { behind = Some k }) (sym is)
            ∙ ap (λ (y : Successor). record (seen s) { behind = behind_of y }) (sym f)

        near : (z : Successor) → s.successor ≡ z → is_newcomer z n ≡ true
            → IsUpTo (seen s) (ci n)
        near successors.Absent f g = absurd (false≢true g)
        near (successors.Joined leg stage) f g = absurd (false≢true g)
        near (successors.Up number) f g =
            let is : number ≡ n = eqb-true number n g in
            let new = ap (λ (y : Successor). newest_of s.current.number (behind_of y)) f in
            λ t. omega (arith, is, new)

    a1_row : (version : ℕ) (connection predecessor channel : Cookie)
        → RowKeeps (Holds own)
        (ci n, Packet (named.InR1A1 version connection predecessor channel)) came put
        (on_in_r1_a1 s n connection predecessor channel)
    a1_row version connection predecessor channel =
        by_test So (is_first s n) (on_first_in_r1_a1 s connection predecessor channel)
        (on_later_in_r1_a1 s (opener_of s.opening) n connection predecessor channel)
        (λ e. first_row m refl (opener connection channel (Replaces predecessor)) KEEPALIVE e)
        (λ e. later (opener_of s.opening))
      where
        m : Named
        m = named.InR1A1 version connection predecessor channel

        So : Done → Type 0
        So x = RowKeeps (Holds own) (ci n, Packet m) came put x

        later : (o : Option Opener)
            → So (on_later_in_r1_a1 s o n connection predecessor channel)
        later None = h
        later (Some o) =
            by_test So (is_newcomer s.successor n) (join s o n connection predecessor channel)
            (unexpected s) (λ e. join_row m refl o connection predecessor channel e) (λ e. h)

    by_channel : (o : Option Which) → channel_of s n ≡ o → (m : Named)
        → RowKeeps (Holds own) (ci n, Packet m) came put (on_channel_by s o m)
    by_channel None e m = h
    by_channel (Some which) e m =
        channel_row s n came put h (at_channel own s n which came put h e) which m

    ci_row : (m : Named) → RowKeeps (Holds own) (ci n, Packet m) came put (on_ci s n m)
    ci_row (named.ConnB1 version connection channel lifetime keepalive group) =
        b1_row version lifetime keepalive connection channel group
    ci_row (named.InR1A1 version connection predecessor channel) =
        a1_row version connection predecessor channel
    ci_row m = by_channel (channel_of s n) refl m

    pdu_row : (bytes : List ℕ) (o : Option Which) → channel_of s n ≡ o
        → RowKeeps (Holds own) (ci n, Pdu bytes) came put (pdu_by s o bytes)
    pdu_row bytes None e = h
    pdu_row bytes (Some which) e =
        let at = at_channel own s n which came put h e in
        same_row own s (ci n, Pdu bytes) came put (λ f. at.high) refl h (on_pdu s which bytes)
        (same_pdu s which bytes)

  -- ---- the rows

  -- what came from the server
  server_row : (s : InProxy) (leg : Leg) (m : Named) (came put : List OnLeg)
      → is_client_leg leg ≡ false → Holds own s came put
      → RowKeeps (Holds own) (leg, Packet m) came put (on_is s m)
  server_row s leg m came put e h =
      same_row own s (leg, Packet m) came put (λ f. absurd (true≢false (sym f ∙ e)))
      (ap (λ (b : Bool). if b then count_of is_out_r1_a7 (Packet m ∷ []) else 0) e) h
      (on_is s m) (same_is s m)

  client_leg : (leg : Leg) → is_client_leg leg ≡ true → leg ≡ ci leg.number
  client_leg leg e = by leg.kind e
    where
      by : (kind : LegKind) → is_of ClientIn (record leg { kind = kind }) ≡ true
          → record leg { kind = kind } ≡ ci leg.number
      by ClientIn f = refl
      by ClientOut f = absurd (false≢true f)
      by OutServer f = absurd (false≢true f)
      by InServer f = absurd (false≢true f)

  pub packet_holds : (s : InProxy) (leg : Leg) (count : Count) (m : Named)
      (came put : List OnLeg) → Holds own s came put
      → RowKeeps (Holds own) (leg, Packet m) came put (packet s leg count m)
  packet_holds s leg count m came put h =
      by_test (RowKeeps (Holds own) (leg, Packet m) came put) (is_client_leg leg)
      (on_ci s leg.number m) (if is_server_leg s leg then on_is s m else unexpected s)
      (λ e. subst (λ (l : Leg). RowKeeps (Holds own) (l, Packet m) came put
      (on_ci s leg.number m)) (sym (client_leg leg e)) (ci_row s leg.number came put h m))
      (λ e. by_test (RowKeeps (Holds own) (leg, Packet m) came put) (is_server_leg s leg)
      (on_is s m) (unexpected s) (λ f. server_row s leg m came put e h) (λ f. h))

  pub pdu_holds : (s : InProxy) (leg : Leg) (count : Count) (bytes : List ℕ)
      (came put : List OnLeg) → Holds own s came put
      → RowKeeps (Holds own) (leg, Pdu bytes) came put (pdu s leg count bytes)
  pdu_holds s leg count bytes came put h =
      by_test (RowKeeps (Holds own) (leg, Pdu bytes) came put) (is_client_leg leg)
      (pdu_by s (channel_of s leg.number) bytes) (unexpected s)
      (λ e. subst (λ (l : Leg). RowKeeps (Holds own) (l, Pdu bytes) came put
      (pdu_by s (channel_of s leg.number) bytes)) (sym (client_leg leg e))
      (pdu_row s leg.number came put h bytes (channel_of s leg.number) refl))
      (λ e. h)
