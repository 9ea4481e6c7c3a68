-- each CONN/B2 and IN_R1/A2 that an in proxy put was put for what came on its first ci leg
use Rattle.law_order.proofs.Vocabulary.{◌≡◌, ◌⊎◌, ℕ, ◌+◌, ◌≤◌, ◌==◌, ◌&&◌, Bool, true, false, not, if◌then◌else◌, List, [], ◌∷◌, ◌++◌, length, Some, None, Ok, Err, inl, inr, refl, sym, ap, subst, ◌∙◌, arith, rules, and_parts, eqb-true, nat_tests, IfSome, Option}
use Rattle.rh_sig.specs.declared.named.Named.TheVariants as named
use Rattle.rh_line.specs.Lines as line
use Rattle.rh_shell.specs.declared.answers.Refused.TheVariants as refused
use Rattle.rh_shell.specs.Waiting as waiting
use Rattle.rh_inproxy.specs.declared.state.Opening.TheVariants as openings
use Rattle.law_moves.proofs.Vocabulary.{may_send, Ack, by_test, Cookie, Named, Leg, Which, Current, Next, Count, Due, Message, Pdu, Packet, one_if, same_leg, OnLeg, Move, started, all_moved, of_leg, Has, HasOne, count_of}
use Rattle.law_moves.proofs.Lemmas.{RowKeeps, PutKeeps, StepsKeep, moves_keep, leg_more, last_one_so, here_more, leg_is, one_counts, waits, forwarded_waits}
use Rattle.law_role_inproxy.proofs.Vocabulary.{KEEPALIVE, Entry, Connects, Replaces, InProxyConfig, TellsServer, Told as IsTold, Follows, Opener, Opening, Successor, Absent, Up, Joined, forward_by, forwarded, ack_due, ack_by, current_ack, next_ack, put_acks, Done, Pick, or_else, refuse, taken, unexpected, mark, on_end_a1, put_end, settled_pick, is_newcomer, joined, join, on_later_in_r1_a1, on_in_r1_a5, finish_by, finished, hand_over, one_less, put_in_r1_a6, put_in_r2_a2}
use Rattle.law_role_inproxy.proofs.Vocabulary.{told_by, up, may_accept, accepts, accepted, wants, connected, head, drawn, announcement, awaits_packet, first_by, is_absent, is_first, kept_for, on_first_in_r1_a1, opened, opener, opener_of, put_echo, put_first, next_pdu, passed, put_pdu, put as put_of, next, waiting_by, put_waiting, put_control, put_early, put_stream, put_behind, put_mark, InProxy, first, channel_of, follows, has_a5, is_client_leg, is_server_leg, same_cookie}
use Rattle.law_role_inproxy.proofs.Vocabulary.{on_keep_alive, ping, put_ping, pdu, packet, on_channel, on_channel_by, on_ci, on_is, rules as proxy_rules, is_leg, ci_leg}
use Rattle.law_role_inproxy.proofs.Refusing.Naming.{has_split, is_there}
use Rattle.law_role_inproxy.proofs.Refusing.Steps.{awaits_none}
use Rattle.law_peers_expects.proofs.InProxyExpects.Known.{Knows, Opened, Same, Seen, Told, announces, for_more, grows, same_drawn, same_end, same_head, same_is, same_keep_alive, same_mark, same_pdu, same_ping, same_settled, seen}
use Rattle.law_peers_expects.specs.InProxyExpects.Announcing.{AnnouncesWhatCame, CameOn, IsFor}
use Rattle.law_peers_expects.specs.InProxyExpects.Announcing as announcing

no_ack : (to received available : ℕ) (channel : Cookie)
    → announces (named.AckTo to received available channel) ≡ false
no_ack to received available channel = refl

-- ---- steps

module _ (n : ℕ) (s : InProxy) where
  -- what was known of what came is known
  abbrev Stays : InProxy → Type 0
  Stays t = (came : List OnLeg) → Knows n (seen s) came → Knows n (seen t) came

  same_stays : (t : InProxy) → Same s t → Stays t
  same_stays t same came h = subst (λ (x : Seen). Knows n x came) (sym same) h

  -- once it is opened, its ci legs don't matter
  freed : (o : Opener) (current : ℕ) (alone : Bool) (came : List OnLeg)
      → opener_of s.opening ≡ Some o → Knows n (seen s) came
      → Knows n (record (seen s) { current = current; alone = alone }) came
  freed o current alone came e h = record {
    number = h.number;
    opened = subst (λ (p : Option Opener). Opened n p current alone came) (sym e)
        (subst (λ (p : Option Opener). Opened n p s.current.number (is_absent s.successor) came) e
        h.opened);
    waits = h.waits;
  }

  -- before, the ci leg is alone
  at_first : (z : Successor) (came : List OnLeg) → s.successor ≡ z → opener_of s.opening ≡ None
      → Knows n (seen s) came → is_absent z ≡ true
  at_first z came e none h =
      ap is_absent (sym e)
      ∙ (subst (λ (p : Option Opener). Opened n p s.current.number (is_absent s.successor) came)
      none h.opened).1

  abbrev Behind : Bool → Successor → List OnLeg → Type 0
  Behind b z came =
      Knows n (record (seen s) {
        current = (follows b s.current z).0.number;
        alone = is_absent (follows b s.current z).1;
      }) came

  -- where the ci leg behind may become the current one
  follow_stays : (b : Bool) (z : Successor) (came : List OnLeg) → Knows n (seen s) came
      → s.successor ≡ z → Behind b z came
  follow_stays true z came h e =
      subst (λ (y : Successor). Knows n (record (seen s) { alone = is_absent y }) came) e h
  follow_stays false Absent came h e =
      subst (λ (y : Successor). Knows n (record (seen s) { alone = is_absent y }) came) e h
  follow_stays false (Up number) came h e =
      subst (λ (y : Successor). Knows n (record (seen s) { alone = is_absent y }) came) e h
  follow_stays false (Joined leg stage) came h e = by (opener_of s.opening) refl
    where
      by : (o : Option Opener) → opener_of s.opening ≡ o → Behind false (Joined leg stage) came
      by None none = absurd (let alone = at_first (Joined leg stage) came e none h in cc)
      by (Some o) some = freed o leg.number true came some h

  -- ---- legs that come up

  up_stays : (leg : Leg) → Stays (up s leg)
  up_stays leg =
      by_test Stays (may_accept s leg) (accepted s s.opening leg.number)
      (if wants s leg then connected s s.opening else s)
      (λ e. accepts_stays s.opening refl
      (and_parts (is_client_leg leg) (accepts s s.opening leg.number) e).1)
      (λ e. by_test Stays (wants s leg) (connected s s.opening) s
      (λ f. connects_stays s.opening refl) (λ f came h. h))
    where
      later : (o : Opener) → opener_of s.opening ≡ Some o
          → Stays (record s { successor = Up leg.number; newest_lost = false })
      later o e came h = freed o s.current.number false came e h

      accepts_stays : (o : Opening) → s.opening ≡ o → accepts s o leg.number ≡ true
          → Stays (accepted s o leg.number)
      accepts_stays openings.AwaitsClient e may =
          same_stays (record s { opening = openings.AwaitsPacket })
          (ap (λ (p : Opening). record (seen s) { opener = opener_of p }) (sym e))
      accepts_stays openings.AwaitsPacket e may = absurd cc
      accepts_stays (openings.WantsServer o) e may = later o (ap opener_of e)
      accepts_stays (openings.Announces o) e may = later o (ap opener_of e)
      accepts_stays (openings.Announced o) e may = later o (ap opener_of e)

      connects_stays : (o : Opening) → s.opening ≡ o → Stays (connected s o)
      connects_stays (openings.WantsServer o) e =
          same_stays (record s { opening = openings.Announces o })
          (ap (λ (p : Opening). record (seen s) { opener = opener_of p }) (sym e))
      connects_stays openings.AwaitsClient e = λ came h. h
      connects_stays openings.AwaitsPacket e = λ came h. h
      connects_stays (openings.Announces o) e = λ came h. h
      connects_stays (openings.Announced o) e = λ came h. h

  -- ---- rows

  forward_stays : (m : Named) → announces m ≡ false → Stays (forwarded s m).0
  forward_stays m e =
      by (waiting.forwarded s.waiting m) (forwarded_waits announces no_ack s.waiting m)
    where
      less : (w : waiting.Waiting)
          → waits announces w.due ≤ waits announces s.waiting.due + one_if (announces m)
          → Stays (record s { waiting = w })
      less w fewer came h =
          let none = h.waits in
          let no_more = ap one_if e in
          record {
            number = h.number;
            opened = h.opened;
            waits = omega (arith, none, fewer, no_more);
          }

      by : (r : waiting.Waiting × Bool)
          → waits announces r.0.due ≤ waits announces s.waiting.due + one_if (announces m)
          → Stays (forward_by s r).0
      by (w, true) fewer = less w fewer
      by (w, false) fewer = less w fewer

  abbrev Keeps : Done → Type 0
  Keeps x = Stays x.0

  finish_stays : (z : Successor) (cookie : Cookie) → s.successor ≡ z → Keeps (finish_by s z cookie)
  finish_stays Absent cookie e = λ came h. h
  finish_stays (Up number) cookie e = λ came h. h
  finish_stays (Joined leg (TellsServer behind)) cookie e = λ came h. h
  finish_stays (Joined leg Follows) cookie e = λ came h. h
  finish_stays (Joined leg IsTold) cookie e =
      by_test Keeps (same_cookie leg.cookie cookie) (taken (finished s leg))
      (refuse s (refused.Cookie leg.cookie cookie))
      (λ t came h. by (opener_of s.opening) refl came h)
      (λ t came h. h)
    where
      by : (o : Option Opener) → opener_of s.opening ≡ o → (came : List OnLeg)
          → Knows n (seen s) came
          → Behind (line.after_finish s.line).has_next (Joined leg Follows) came
      by None none came h =
          absurd (let alone = at_first (Joined leg IsTold) came e none h in cc)
      by (Some o) some came h =
          let now = follows (line.after_finish s.line).has_next s.current (Joined leg Follows) in
          freed o now.0.number (is_absent now.1) came some h

  in_r1_a5_stays : (which : Which) (cookie : Cookie) → Keeps (on_in_r1_a5 s which cookie)
  in_r1_a5_stays which cookie =
      by_test Keeps (has_a5 s which) (unexpected s) (hand_over s which cookie) (λ e came h. h)
      (λ e. by which)
    where
      by : (w : Which) → Keeps (hand_over s w cookie)
      by Current = finish_stays s.successor cookie refl
      by Next = λ came h. h

  channel_stays : (which : Which) (m : Named) → Keeps (on_channel s which m)
  channel_stays which (named.AckTo to received available channel) =
      by_test Keeps (not (has_a5 s which) && (to == 3))
      (forwarded s (named.AckTo 3 received available channel)) (unexpected s)
      (λ e. forward_stays (named.AckTo 3 received available channel) refl) (λ e came h. h)
  channel_stays which (named.OutR1A7 to successor) =
      by_test Keeps (not (has_a5 s which) && (to == 2)) (forwarded s (named.OutR1A8 2 successor))
      (unexpected s) (λ e. forward_stays (named.OutR1A8 2 successor) refl) (λ e came h. h)
  channel_stays which (named.KeepAlive keepalive) =
      same_stays (on_keep_alive s which keepalive).0 (same_keep_alive s which keepalive)
  channel_stays which named.EndA1 = same_stays (on_end_a1 s which).0 (same_end s which)
  channel_stays which (named.InR1A5 successor) = in_r1_a5_stays which successor
  channel_stays which m = λ came h. h

  by_channel_stays : (o : Option Which) (m : Named) → Keeps (on_channel_by s o m)
  by_channel_stays None m = λ came h. h
  by_channel_stays (Some which) m = channel_stays which m

  later_stays : (o : Option Opener) (number : ℕ) (connection predecessor channel : Cookie)
      → opener_of s.opening ≡ o
      → Keeps (on_later_in_r1_a1 s o number connection predecessor channel)
  later_stays None number connection predecessor channel e = λ came h. h
  later_stays (Some o) number connection predecessor channel e =
      by_test Keeps (is_newcomer s.successor number)
      (join s o number connection predecessor channel) (unexpected s)
      (λ t. by_test Keeps (not (same_cookie o.connection connection))
      (refuse s (refused.Cookie o.connection connection))
      (if not (same_cookie s.current.cookie predecessor)
      then refuse s (refused.Cookie s.current.cookie predecessor)
      else taken (joined s number channel)) (λ a came h. h)
      (λ a. by_test Keeps (not (same_cookie s.current.cookie predecessor))
      (refuse s (refused.Cookie s.current.cookie predecessor)) (taken (joined s number channel))
      (λ b came h. h) (λ b came h. freed o s.current.number false came e h)))
      (λ t came h. h)

  -- what is kept at any log is kept where one more came
  row : (one : OnLeg) (came put : List OnLeg) (x : Done) → Keeps x → Knows n (seen s) came
      → RowKeeps (λ (t : InProxy) (log put : List OnLeg). Knows n (seen t) log) one came put x
  row one came put (t, Ok taken) keeps h =
      keeps (came ++ one ∷ []) (grows n (seen s) came one h)
  row one came put (t, Err why) keeps h = keeps came h

  -- ---- the first packet

  module _ (came put : List OnLeg) (h : Knows n (seen s) came) where
    abbrev Row : OnLeg → Done → Type 0
    Row one x =
        RowKeeps (λ (t : InProxy) (log put : List OnLeg). Knows n (seen t) log) one came put x

    opens_row : (k : ℕ) (m : Named) (o : Opener) (keepalive : ℕ) → is_first s k ≡ true
        → ((log : List OnLeg) → ((Is : Named → Type 0) → Is m → CameOn n Is log)
        → Told n o o.entry log) → Row (ci_leg k, Packet m) (opened s o keepalive)
    opens_row k m o keepalive e told =
        let parts = and_parts (awaits_packet s.opening) (s.current.number == k) e in
        let none = awaits_none s.opening parts.0 in
        let at = (subst (λ (p : Option Opener).
        Opened n p s.current.number (is_absent s.successor) came) none h.opened).0 in
        let is : n ≡ k = (let same = eqb-true s.current.number k parts.1 in cc) in
        record {
          number = h.number;
          opened = told (came ++ (ci_leg k, Packet m) ∷ []) (here is);
          waits = h.waits;
        }
      where
        here : n ≡ k → (Is : Named → Type 0) → Is m
            → CameOn n Is (came ++ (ci_leg k, Packet m) ∷ [])
        here e Is is =
            subst (λ (j : ℕ). CameOn j Is (came ++ (ci_leg k, Packet m) ∷ [])) (sym e)
            (subst (HasOne Is) (sym (here_more (ci_leg k) came (Packet m)))
            (last_one_so Is (of_leg (ci_leg k) came) m is))

    ci_row : (k : ℕ) (m : Named) → Row (ci_leg k, Packet m) (on_ci s k m)
    ci_row k (named.ConnB1 version connection channel lifetime keepalive group) =
        let m = named.ConnB1 version connection channel lifetime keepalive group in
        by_test (Row (ci_leg k, Packet m)) (is_first s k)
        (opened s (opener connection channel (Connects group)) (kept_for keepalive))
        (unexpected s)
        (λ e. opens_row k m (opener connection channel (Connects group)) (kept_for keepalive) e
        (λ log here. here (announcing.Connects connection channel group) (refl, refl, refl)))
        (λ e. h)
    ci_row k (named.InR1A1 version connection predecessor channel) =
        let m = named.InR1A1 version connection predecessor channel in
        by_test (Row (ci_leg k, Packet m)) (is_first s k)
        (on_first_in_r1_a1 s connection predecessor channel)
        (on_later_in_r1_a1 s (opener_of s.opening) k connection predecessor channel)
        (λ e. opens_row k m (opener connection channel (Replaces predecessor)) KEEPALIVE e
        (λ log here. here (announcing.Replaces connection predecessor channel) (refl, refl, refl)))
        (λ e. row (ci_leg k, Packet m) came put
        (on_later_in_r1_a1 s (opener_of s.opening) k connection predecessor channel)
        (later_stays (opener_of s.opening) k connection predecessor channel refl) h)
    ci_row k m =
        row (ci_leg k, Packet m) came put (on_channel_by s (channel_of s k) m)
        (by_channel_stays (channel_of s k) m) h

    packet_row : (leg : Leg) (count : Count) (m : Named)
        → Row (leg, Packet m) (packet s leg count m)
    packet_row leg count m =
        by_test (Row (leg, Packet m)) (is_client_leg leg) (on_ci s leg.number m)
        (if is_server_leg s leg then on_is s m else unexpected s)
        (λ e. subst (λ (l : Leg). Row (l, Packet m) (on_ci s leg.number m))
        (leg_is (ci_leg leg.number) leg (grind (arith, nat_tests, e))) (ci_row leg.number m))
        (λ e. by_test (Row (leg, Packet m)) (is_server_leg s leg) (on_is s m) (unexpected s)
        (λ f. row (leg, Packet m) came put (on_is s m)
        (same_stays (on_is s m).0 (same_is s m)) h)
        (λ f. h))

  -- ---- puts

  -- and the packet that is put was put for what came
  abbrev ForOne : List OnLeg → Message → Type 0
  ForOne came message = (m : Named) → message ≡ Packet m → IsFor n came m

  abbrev Goes : Pick → Type 0
  Goes pick =
      IfSome pick (λ (one : InProxy × Message).
      (came : List OnLeg) → Knows n (seen s) came → Knows n (seen one.0) came × ForOne came one.1)

  other_for : (came : List OnLeg) (m : Named) → announces m ≡ false → IsFor n came m
  other_for came (named.ConnB2 version connection channel window timeout group address padding) e =
      absurd cc
  other_for came (named.InR1A2 version connection predecessor successor window timeout) e =
      absurd cc
  other_for came m e = tt

  quiet_for : (came : List OnLeg) (message : Message) → count_of announces (message ∷ []) ≡ 0
      → ForOne came message
  quiet_for came message none m e = by (announces m) refl
    where
      by : (b : Bool) → announces m ≡ b → IsFor n came m
      by true is =
          let one = ap (λ (x : Message). count_of announces (x ∷ [])) e in
          let here = one_counts announces m in
          let counts = ap one_if is in
          absurd (omega (arith, none, one, here, counts))
      by false is = other_for came m is

  abbrev Quiet : Pick → Type 0
  Quiet pick =
      IfSome pick (λ (one : InProxy × Message).
      Same s one.0 × (count_of announces (one.1 ∷ []) ≡ 0))

  quiet_goes : (pick : Pick) → Quiet pick → Goes pick
  quiet_goes None q = tt
  quiet_goes (Some one) q = λ came h.
      (same_stays one.0 q.0 came h, quiet_for came one.1 q.1)

  or_goes : (a b : Pick) → Goes a → Goes b → Goes (or_else a b)
  or_goes None b p q = q
  or_goes (Some pick) b p q = p

  settled_goes : (pick : Pick) → Goes pick → Goes (settled_pick pick)
  settled_goes None p = tt
  settled_goes (Some pick) p = λ came h.
      (subst (λ (x : Seen). Knows n x came) (sym (same_settled pick.0)) (p came h).0, (p came h).1)

  announced_for : (came : List OnLeg) (o : Opener) (entry : Entry) → Told n o entry came
      → IsFor n came (announcement s o entry)
  announced_for came o (Connects group) told = told
  announced_for came o (Replaces predecessor) told = told

  first_goes : (o : Opening) → s.opening ≡ o → Goes (first_by s o)
  first_goes (openings.Announces o) e = λ came h.
      let told = subst (λ (p : Opening).
      Opened n (opener_of p) s.current.number (is_absent s.successor) came) e h.opened in (
        same_stays (record s { opening = openings.Announced o })
            (ap (λ (p : Opening). record (seen s) { opener = opener_of p }) (sym e)) came h,
        (λ m is.
            let same : announcement s o o.entry ≡ m = cc in
            subst (IsFor n came) same (announced_for came o o.entry told)),
      )
  first_goes openings.AwaitsClient e = tt
  first_goes openings.AwaitsPacket e = tt
  first_goes (openings.WantsServer o) e = tt
  first_goes (openings.Announced o) e = tt

  told_goes : (z : Successor) → s.successor ≡ z → Goes (told_by s z)
  told_goes Absent e = tt
  told_goes (Up number) e = tt
  told_goes (Joined leg IsTold) e = tt
  told_goes (Joined leg Follows) e = tt
  told_goes (Joined leg (TellsServer behind)) e =
      by_test Goes (behind == 0)
      (Some (record s { successor = Joined leg IsTold }, Packet (named.InR2A2 leg.cookie))) None
      (λ t came h. (
        same_stays (record s { successor = Joined leg IsTold })
            (ap (λ (y : Successor). record (seen s) { alone = is_absent y }) (sym e)) came h,
        quiet_for came (Packet (named.InR2A2 leg.cookie)) refl,
      ))
      (λ t. tt)

  less_alone : (z : Successor) → is_absent (one_less z) ≡ is_absent z
  less_alone Absent = refl
  less_alone (Up number) = refl
  less_alone (Joined leg IsTold) = refl
  less_alone (Joined leg Follows) = refl
  less_alone (Joined leg (TellsServer behind)) = refl

  waiting_goes : (dues : List Due) → s.waiting.due ≡ dues → Goes (waiting_by s dues)
  waiting_goes [] e = tt
  waiting_goes (due ∷ dues) e = λ came h.
      let none = h.waits in
      let all = ap (waits announces) e in
      let one = one_counts announces due.packet in (
        record {
          number = h.number;
          opened = subst (λ (b : Bool).
              Opened n (opener_of s.opening) s.current.number b came)
              (sym (less_alone s.successor)) h.opened;
          waits = omega (arith, none, all);
        },
        quiet_for came (Packet due.packet) (omega (arith, none, all, one)),
      )

  pdu_goes : (pdus : List (List ℕ)) → Goes (next_pdu s pdus)
  pdu_goes [] = tt
  pdu_goes (one ∷ pdus) =
      by_test Goes (may_send s.window (length one)) (Some (passed s (length one), Pdu one)) None
      (λ t came h. (
        follow_stays (line.after_take s.line).has_next s.successor came h refl,
        quiet_for came (Pdu one) refl,
      ))
      (λ t. tt)

  quiet_ack : (which : Which) (cookie : Cookie) (o : Option Ack)
      → Quiet (ack_by s which cookie o)
  quiet_ack which cookie o = search rules

  quiet_next : (z : Successor) → Quiet (next_ack s z)
  quiet_next Absent = tt
  quiet_next (Up number) = tt
  quiet_next (Joined leg stage) = quiet_ack Next leg.cookie (ack_due s Next)

  quiet_end : Quiet (put_end s)
  quiet_end = search rules

  quiet_mark : Quiet (put_in_r1_a6 s)
  quiet_mark = search rules

  quiet_ping : Quiet (put_ping s)
  quiet_ping = search rules

  quiet_echo : (number : ℕ) → Quiet (put_echo s number)
  quiet_echo number = search rules

  next_goes : Goes (next s)
  next_goes =
      or_goes (put_control s) (put_stream s)
      (or_goes (put_early s) (put_acks s)
      (or_goes (put_first s) _ (first_goes s.opening refl)
      (or_goes (put_in_r2_a2 s) (put_waiting s) (told_goes s.successor refl)
      (waiting_goes s.waiting.due refl)))
      (or_goes (current_ack s) (next_ack s s.successor)
      (quiet_goes (current_ack s) (quiet_ack Current s.current.cookie (ack_due s Current)))
      (quiet_goes (next_ack s s.successor) (quiet_next s.successor))))
      (or_goes (put_pdu s) (put_behind s) (pdu_goes s.line.current.pdus)
      (or_goes (put_mark s) (put_ping s)
      (or_goes (put_end s) (put_in_r1_a6 s) (quiet_goes (put_end s) quiet_end)
      (quiet_goes (put_in_r1_a6 s) quiet_mark))
      (quiet_goes (put_ping s) quiet_ping)))

  put_goes : (leg : Leg) → Goes (put_of s leg)
  put_goes leg =
      by_test Goes (is_client_leg leg) (put_echo s leg.number)
      (if is_server_leg s leg then settled_pick (next s) else None)
      (λ e. quiet_goes (put_echo s leg.number) (quiet_echo leg.number))
      (λ e. by_test Goes (is_server_leg s leg) (settled_pick (next s)) None
      (λ f. settled_goes (next s) next_goes) (λ f. tt))

-- ---- what stands on the is leg

module _ (n : ℕ) where
  abbrev pub Announces : List OnLeg → List OnLeg → Type 0
  Announces came put = (m : Named) → Has m (of_leg (is_leg n) put) → IsFor n came m

  pub record Holds (s : InProxy) (came put : List OnLeg) : Type 0 where
    pub knows : Knows n (seen s) came
    pub announces : Announces came put

  same : (s t : InProxy) (came put : List OnLeg) → Stays n s t → Holds s came put
      → Holds t came put
  same s t came put stays h =
      record { knows = stays came h.knows; announces = h.announces }

  took : (s : InProxy) (one : OnLeg) (came put : List OnLeg) (x : Done) → Holds s came put
      → RowKeeps (λ (t : InProxy) (log put : List OnLeg). Knows n (seen t) log) one came put x
      → RowKeeps Holds one came put x
  took s one came put (t, Ok taken) h knows = record {
    knows = knows;
    announces = λ m has. for_more n came one m (h.announces m has);
  }
  took s one came put (t, Err why) h knows = record { knows = knows; announces = h.announces }

  puts_one : (s : InProxy) (leg : Leg) (came put : List OnLeg) (pick : Pick) → Holds s came put
      → Goes n s pick → PutKeeps Holds leg came put pick
  puts_one s leg came put None h goes = tt
  puts_one s leg came put (Some one) h goes =
      let both = goes came h.knows in
      record {
        knows = both.0;
        announces = λ m has. by both.1 m (has_split m (of_leg (is_leg n) put)
            (of_leg (is_leg n) ((leg, one.1) ∷ []))
            (subst (Has m) (leg_more (is_leg n) put (leg, one.1)) has));
      }
    where
      by : ForOne n s came one.1 → (m : Named)
          → Has m (of_leg (is_leg n) put) ⊎ Has m (of_leg (is_leg n) ((leg, one.1) ∷ []))
          → IsFor n came m
      by new m (inl before) = h.announces m before
      by new m (inr here) = new m (is_there m one.1 (same_leg leg (is_leg n)) here)

  pub steps : StepsKeep proxy_rules Holds
  steps = record {
    up = λ s leg cookie came put h. same s (up s leg) came put (up_stays n s leg) h;
    head = λ s leg text came put h.
        same s (head s leg text).0 came put
        (same_stays n s (head s leg text).0 (same_head s leg text)) h;
    pdu = λ s leg count bytes came put h.
        took s (leg, Pdu bytes) came put (pdu s leg count bytes) h
        (row n s (leg, Pdu bytes) came put (pdu s leg count bytes)
        (same_stays n s (pdu s leg count bytes).0 (same_pdu s leg count bytes)) h.knows);
    packet = λ s leg count m came put h.
        took s (leg, Packet m) came put (packet s leg count m) h
        (packet_row n s came put h.knows leg count m);
    put = λ s leg came put h. puts_one s leg came put (put_of s leg) h (put_goes n s leg);
    drawn = λ s leg came put h.
        same s (drawn s leg) came put (same_stays n s (drawn s leg) (same_drawn s leg)) h;
    mark = λ s leg came put h.
        same s (mark s leg) came put (same_stays n s (mark s leg) (same_mark s leg)) h;
    ping = λ s leg came put h.
        same s (ping s leg) came put (same_stays n s (ping s leg) (same_ping s leg)) h;
  }

pub starts : (config : InProxyConfig) → Holds config.number (first config) [] []
starts config = record {
  knows = record { number = refl; opened = (refl, refl); waits = refl };
  announces = λ m has. absurd has;
}

pub announces_what_came : (config : InProxyConfig) (moves : List Move)
    → AnnouncesWhatCame config.number (all_moved proxy_rules (started (first config)) moves)
announces_what_came config moves =
    (moves_keep proxy_rules (Holds config.number) (steps config.number) (started (first config))
    moves (starts config)).announces
