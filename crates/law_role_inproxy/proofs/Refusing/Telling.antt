-- how many IN_R2/A2 an in proxy put: one for each later ci leg up to the one that it tells of
use Rattle.law_order.proofs.Vocabulary.{◌≡◌, ℕ, suc, ◌+◌, ◌≤◌, ◌==◌, ◌&&◌, Bool, true, false, not, if◌then◌else◌, List, [], ◌∷◌, length, Some, None, Ok, Err, refl, sym, ap, subst, arith, rules, and_parts, nat_tests, IfSome, Option}
use Rattle.rh_sig.specs.declared.named.Named.TheVariants as named
use Rattle.rh_line.specs.Lines as line
use Rattle.rh_shell.specs.declared.answers.Refused.TheVariants as refused
use Rattle.rh_shell.specs.Waiting as waiting
use Rattle.rh_inproxy.specs.declared.state.Opening.TheVariants as openings
use Rattle.law_moves.proofs.Vocabulary.{may_send, Ack, by_test, Cookie, Named, Leg, Which, Current, Next, Count, Due, Message, Pdu, Packet, one_if, OnLeg, Move, started, all_moved, of_leg, count_of}
use Rattle.law_moves.proofs.Lemmas.{RowKeeps, PutKeeps, StepsKeep, moves_keep, leg_at_most, one_counts, IsSame, waits, forwarded_waits, refused_waits}
use Rattle.law_role_inproxy.proofs.Vocabulary.{Entry, Connects, Replaces, InProxyConfig, TellsServer, Told, Follows, Opener, Opening, Successor, Absent, Up, Joined, forward_by, forwarded, ack_due, ack_by, current_ack, next_ack, put_acks, Done, Pick, or_else, refuse, taken, unexpected, mark, on_end_a1, put_end, settled_pick, is_newcomer, joined, join, on_later_in_r1_a1, on_in_r1_a5, finish_by, finished, hand_over, one_less, put_in_r1_a6, put_in_r2_a2, told_by, up, may_accept}
use Rattle.law_role_inproxy.proofs.Vocabulary.{accepts, accepts_later, accepted, wants, connected, head, drawn, announcement, first_by, is_absent, is_first, on_conn_b1, on_first_in_r1_a1, opener_of, put_echo, put_first, next_pdu, passed, put_pdu, put as put_of, next, waiting_by, put_waiting, put_control, put_early, put_stream, put_behind, put_mark, InProxy, first, channel_of, has_a5, is_client_leg, is_server_leg, same_cookie, on_keep_alive, ping, put_ping, pdu, packet}
use Rattle.law_role_inproxy.proofs.Vocabulary.{on_channel, on_channel_by, on_ci, on_is, rules as proxy_rules, is_leg, is_in_r2_a2}
use Rattle.law_role_inproxy.proofs.Refusing.Steps.{absent_is, newcomer_is}
use Rattle.law_role_inproxy.proofs.Refusing.Told.{Behind, IsTold, Same, Seen, Tells, no_ack, same_conn_b1, same_drawn, same_end, same_head, same_is, same_keep_alive, same_mark, same_pdu, same_ping, same_settled, seen, settles, stays, told}

-- ---- steps

abbrev pub Fact : ℕ → InProxy → List OnLeg → List OnLeg → Type 0
Fact n s came put = Tells n 0 (seen s) (count_of is_in_r2_a2 (of_leg (is_leg n) put))

module _ (n floor : ℕ) (s : InProxy) (k : ℕ) (h : Tells n floor (seen s) k) where
  abbrev pub Holds : InProxy → Type 0
  Holds t = Tells n floor (seen t) k

  abbrev pub Row : Done → Type 0
  Row x = Holds x.0

  pub kept : (t : InProxy) → Same s t → Holds t
  kept t same = subst (λ (x : Seen). Tells n floor x k) (sym same) h

  pub up_row : (leg : Leg) → Holds (up s leg)
  up_row leg =
      by_test Holds (may_accept s leg) (accepted s s.opening leg.number)
      (if wants s leg then connected s s.opening else s)
      (λ e. accepts_row s.opening
      (and_parts (is_client_leg leg) (accepts s s.opening leg.number) e).1)
      (λ e. by_test Holds (wants s leg) (connected s s.opening) s
      (λ f. kept (connected s s.opening) (connects_row s.opening)) (λ f. h))
    where
      connects_row : (o : Opening) → Same s (connected s o)
      connects_row o = search rules

      rises_to : (number : ℕ) → accepts_later s number ≡ true
          → Holds (record s { successor = Up number; newest_lost = false })
      rises_to number e =
          let at : number ≡ suc s.current.number = grind (arith, nat_tests) in
          let free : is_absent s.successor ≡ true = grind (arith, nat_tests) in
          let alone = subst (λ (z : Successor). Tells n floor (record (seen s) { heir = z }) k)
          (absent_is s.successor free) h in
          record {
            count = alone.count;
            least = alone.least;
            none = alone.none;
            behind = at;
            joined = alone.joined;
            done = alone.done;
          }

      accepts_row : (o : Opening) → accepts s o leg.number ≡ true
          → Holds (accepted s o leg.number)
      accepts_row openings.AwaitsClient may = h
      accepts_row openings.AwaitsPacket may = absurd cc
      accepts_row (openings.WantsServer o) may = rises_to leg.number may
      accepts_row (openings.Announces o) may = rises_to leg.number may
      accepts_row (openings.Announced o) may = rises_to leg.number may

  -- a packet waits, which is no IN_R2/A2
  forward_row : (m : Named) → is_in_r2_a2 m ≡ false → Row (forwarded s m)
  forward_row m e =
      by (waiting.forwarded s.waiting m) (forwarded_waits is_in_r2_a2 no_ack s.waiting m)
      (refused_waits is_in_r2_a2 no_ack s.waiting m)
    where
      less : (w : waiting.Waiting)
          → waits is_in_r2_a2 w.due ≤ waits is_in_r2_a2 s.waiting.due + one_if (is_in_r2_a2 m)
          → Holds (record s { waiting = w })
      less w fewer =
          let none = h.none in
          let no_more = ap one_if e in
          record {
            count = h.count;
            least = h.least;
            none = omega (arith, none, fewer, no_more);
            behind = h.behind;
            joined = h.joined;
            done = h.done;
          }

      by : (r : waiting.Waiting × Bool)
          → waits is_in_r2_a2 r.0.due ≤ waits is_in_r2_a2 s.waiting.due + one_if (is_in_r2_a2 m)
          → IsSame is_in_r2_a2 no_ack s.waiting r → Row (forward_by s r)
      by (w, true) fewer same = less w fewer
      by (w, false) fewer same = less w fewer

  finish_row : (z : Successor) (cookie : Cookie) → s.successor ≡ z → Row (finish_by s z cookie)
  finish_row Absent cookie e = h
  finish_row (Up number) cookie e = h
  finish_row (Joined leg (TellsServer behind)) cookie e = h
  finish_row (Joined leg Follows) cookie e = h
  finish_row (Joined leg Told) cookie e =
      by_test Row (same_cookie leg.cookie cookie) (taken (finished s leg))
      (refuse s (refused.Cookie leg.cookie cookie))
      (λ t.
      let at = subst (λ (z : Successor). Tells n floor (record (seen s) { heir = z }) k) e h in
      settles n floor k s.waiting.due s.current (Joined leg Follows)
      (record (s.line) { finished = true })
      (record {
        count = at.count;
        least = at.least;
        none = at.none;
        behind = at.behind;
        joined = at.joined;
        done = refl;
      }))
      (λ t. h)

  a5_row : (which : Which) (cookie : Cookie) → Row (on_in_r1_a5 s which cookie)
  a5_row which cookie =
      by_test Row (has_a5 s which) (unexpected s) (hand_over s which cookie) (λ e. h)
      (λ e. by which)
    where
      by : (w : Which) → Row (hand_over s w cookie)
      by Current = finish_row s.successor cookie refl
      by Next = h

  channel_row : (which : Which) (m : Named) → Row (on_channel s which m)
  channel_row which (named.AckTo to received available channel) =
      by_test Row (not (has_a5 s which) && (to == 3))
      (forwarded s (named.AckTo 3 received available channel)) (unexpected s)
      (λ e. forward_row (named.AckTo 3 received available channel) refl) (λ e. h)
  channel_row which (named.OutR1A7 to successor) =
      by_test Row (not (has_a5 s which) && (to == 2)) (forwarded s (named.OutR1A8 2 successor))
      (unexpected s) (λ e. forward_row (named.OutR1A8 2 successor) refl) (λ e. h)
  channel_row which (named.KeepAlive keepalive) =
      kept (on_keep_alive s which keepalive).0 (same_keep_alive s which keepalive)
  channel_row which named.EndA1 = kept (on_end_a1 s which).0 (same_end s which)
  channel_row which (named.InR1A5 successor) = a5_row which successor
  channel_row which m = h

  by_channel_row : (o : Option Which) (m : Named) → Row (on_channel_by s o m)
  by_channel_row None m = h
  by_channel_row (Some which) m = channel_row which m

  later_row : (o : Option Opener) (number : ℕ) (connection predecessor channel : Cookie)
      → Row (on_later_in_r1_a1 s o number connection predecessor channel)
  later_row None number connection predecessor channel = h
  later_row (Some o) number connection predecessor channel =
      by_test Row (is_newcomer s.successor number)
      (join s o number connection predecessor channel) (unexpected s)
      (λ t. by_test Row (not (same_cookie o.connection connection))
      (refuse s (refused.Cookie o.connection connection))
      (if not (same_cookie s.current.cookie predecessor)
      then refuse s (refused.Cookie s.current.cookie predecessor)
      else taken (joined s number channel)) (λ a. h)
      (λ a. by_test Row (not (same_cookie s.current.cookie predecessor))
      (refuse s (refused.Cookie s.current.cookie predecessor)) (taken (joined s number channel))
      (λ b. h) (λ b. joins (newcomer_is s.successor number t)))) (λ t. h)
    where
      joins : s.successor ≡ Up number → Holds (joined s number channel)
      joins e =
          let at =
          subst (λ (z : Successor). Tells n floor (record (seen s) { heir = z }) k) e h in
          record {
            count = at.count;
            least = at.least;
            none = at.none;
            behind = at.behind;
            joined = refl;
            done = at.done;
          }

  ci_row : (number : ℕ) (m : Named) → Row (on_ci s number m)
  ci_row number (named.ConnB1 version connection channel lifetime keepalive group) =
      kept (on_conn_b1 s number connection channel keepalive group).0
      (same_conn_b1 s number connection channel keepalive group)
  ci_row number (named.InR1A1 version connection predecessor channel) =
      by_test Row (is_first s number) (on_first_in_r1_a1 s connection predecessor channel)
      (on_later_in_r1_a1 s (opener_of s.opening) number connection predecessor channel) (λ e. h)
      (λ e. later_row (opener_of s.opening) number connection predecessor channel)
  ci_row number m = by_channel_row (channel_of s number) m

  pub packet_row : (leg : Leg) (count : Count) (m : Named) → Row (packet s leg count m)
  packet_row leg count m =
      by_test Row (is_client_leg leg) (on_ci s leg.number m)
      (if is_server_leg s leg then on_is s m else unexpected s) (λ e. ci_row leg.number m)
      (λ e. by_test Row (is_server_leg s leg) (on_is s m) (unexpected s)
      (λ f. kept (on_is s m).0 (same_is s m)) (λ f. h))

  -- ---- puts

  -- behind the message
  abbrev pub Puts : Pick → Type 0
  Puts pick =
      IfSome pick (λ (one : InProxy × Message).
      Tells n floor (seen one.0) (k + count_of is_in_r2_a2 (one.1 ∷ [])))

  abbrev pub Quiet : Pick → Type 0
  Quiet pick =
      IfSome pick (λ (one : InProxy × Message).
      Same s one.0 × (count_of is_in_r2_a2 (one.1 ∷ []) ≡ 0))

  with_count : (t : InProxy) (more : ℕ) → Holds t → more ≡ 0 → Tells n floor (seen t) (k + more)
  with_count t more g e =
      let count = g.count in
      record {
        count = omega (arith, count, e);
        least = g.least;
        none = g.none;
        behind = g.behind;
        joined = g.joined;
        done = g.done;
      }

  quiet_puts : (pick : Pick) → Quiet pick → Puts pick
  quiet_puts None q = tt
  quiet_puts (Some one) q =
      with_count one.0 (count_of is_in_r2_a2 (one.1 ∷ [])) (kept one.0 q.0) q.1

  or_puts : (a b : Pick) → Puts a → Puts b → Puts (or_else a b)
  or_puts None b p q = q
  or_puts (Some pick) b p q = p

  settled_puts : (pick : Pick) → Puts pick → Puts (settled_pick pick)
  settled_puts None p = tt
  settled_puts (Some pick) p =
      subst (λ (x : Seen). Tells n floor x (k + count_of is_in_r2_a2 (pick.1 ∷ [])))
      (sym (same_settled pick.0)) p

  announced : (o : Opener) (entry : Entry)
      → count_of is_in_r2_a2 (Packet (announcement s o entry) ∷ []) ≡ 0
  announced o (Connects group) = refl
  announced o (Replaces predecessor) = refl

  quiet_first : (o : Opening) → Quiet (first_by s o)
  quiet_first (openings.Announces o) = (refl, announced o o.entry)
  quiet_first openings.AwaitsClient = tt
  quiet_first openings.AwaitsPacket = tt
  quiet_first (openings.WantsServer o) = tt
  quiet_first (openings.Announced o) = tt

  told_puts : (z : Successor) → s.successor ≡ z → Puts (told_by s z)
  told_puts Absent e = tt
  told_puts (Up number) e = tt
  told_puts (Joined leg Told) e = tt
  told_puts (Joined leg Follows) e = tt
  told_puts (Joined leg (TellsServer behind)) e =
      by_test Puts (behind == 0)
      (Some (record s { successor = Joined leg Told }, Packet (named.InR2A2 leg.cookie))) None
      (λ t.
      let at = subst (λ (z : Successor). Tells n floor (record (seen s) { heir = z }) k) e h in
      let count = at.count in
      let up = at.least in
      let next = at.behind in
      record {
        count = omega (arith, count, next);
        least = omega (arith, up, next);
        none = at.none;
        behind = next;
        joined = at.joined;
        done = at.done;
      })
      (λ t. tt)

  less : (z : Successor) → Tells n floor (record (seen s) { heir = z }) k
      → Tells n floor (record (seen s) { heir = one_less z }) k
  less Absent g = g
  less (Up number) g = g
  less (Joined leg Told) g = g
  less (Joined leg Follows) g = g
  less (Joined leg (TellsServer behind)) g =
      record {
        count = g.count;
        least = g.least;
        none = g.none;
        behind = g.behind;
        joined = g.joined;
        done = g.done;
      }

  waiting_puts : (dues : List Due) → s.waiting.due ≡ dues → Puts (waiting_by s dues)
  waiting_puts [] e = tt
  waiting_puts (due ∷ dues) e =
      let g = less s.successor h in
      let count = g.count in
      let none = g.none in
      let all = ap (waits is_in_r2_a2) e in
      let one = one_counts is_in_r2_a2 due.packet in
      record {
        count = omega (arith, count, none, all, one);
        least = g.least;
        none = omega (arith, none, all);
        behind = g.behind;
        joined = g.joined;
        done = g.done;
      }

  taken_row : (pdus : List (List ℕ)) → Behind n floor k s.waiting.due s.current s.successor
      (line.taken pdus s.line)
  taken_row [] =
      stays n floor k s.waiting.due s.line.has_next s.line.finished s.current s.successor h
  taken_row (one ∷ pdus) =
      settles n floor k s.waiting.due s.current s.successor
      (record (s.line) { current = line.released (one ∷ pdus) s.line.current }) h

  pdu_puts : (pdus : List (List ℕ)) → Puts (next_pdu s pdus)
  pdu_puts [] = tt
  pdu_puts (one ∷ pdus) =
      by_test Puts (may_send s.window (length one)) (Some (passed s (length one), Pdu one)) None
      (λ t. with_count (passed s (length one)) 0 (taken_row s.line.current.pdus) refl) (λ t. tt)

  quiet_ack : (which : Which) (cookie : Cookie) (o : Option Ack)
      → Quiet (ack_by s which cookie o)
  quiet_ack which cookie o = search rules

  quiet_next : (z : Successor) → Quiet (next_ack s z)
  quiet_next Absent = tt
  quiet_next (Up number) = tt
  quiet_next (Joined leg stage) = quiet_ack Next leg.cookie (ack_due s Next)

  quiet_end : Quiet (put_end s)
  quiet_end = search rules

  quiet_mark : Quiet (put_in_r1_a6 s)
  quiet_mark = search rules

  quiet_ping : Quiet (put_ping s)
  quiet_ping = search rules

  quiet_echo : (number : ℕ) → Quiet (put_echo s number)
  quiet_echo number = search rules

  next_puts : Puts (next s)
  next_puts =
      or_puts (put_control s) (put_stream s)
      (or_puts (put_early s) (put_acks s)
      (or_puts (put_first s) _ (quiet_puts (put_first s) (quiet_first s.opening))
      (or_puts (put_in_r2_a2 s) (put_waiting s) (told_puts s.successor refl)
      (waiting_puts s.waiting.due refl)))
      (or_puts (current_ack s) (next_ack s s.successor)
      (quiet_puts (current_ack s) (quiet_ack Current s.current.cookie (ack_due s Current)))
      (quiet_puts (next_ack s s.successor) (quiet_next s.successor))))
      (or_puts (put_pdu s) (put_behind s) (pdu_puts s.line.current.pdus)
      (or_puts (put_mark s) (put_ping s)
      (or_puts (put_end s) (put_in_r1_a6 s) (quiet_puts (put_end s) quiet_end)
      (quiet_puts (put_in_r1_a6 s) quiet_mark))
      (quiet_puts (put_ping s) quiet_ping)))

  pub puts : (leg : Leg) → Puts (put_of s leg)
  puts leg =
      by_test Puts (is_client_leg leg) (put_echo s leg.number)
      (if is_server_leg s leg then settled_pick (next s) else None)
      (λ e. quiet_puts (put_echo s leg.number) (quiet_echo leg.number))
      (λ e. by_test Puts (is_server_leg s leg) (settled_pick (next s)) None
      (λ f. settled_puts (next s) next_puts) (λ f. tt))

  -- ---- where IN_R2/A2 comes from

  abbrev Source : Message → InProxy → Type 0
  Source m t =
      (cookie : Cookie) → m ≡ Packet (named.InR2A2 cookie) → IsTold cookie t.successor

  abbrev pub Sources : Pick → Type 0
  Sources pick = IfSome pick (λ (one : InProxy × Message). Source one.1 one.0)

  no_source : (m : Message) (t : InProxy) → count_of is_in_r2_a2 (m ∷ []) ≡ 0 → Source m t
  no_source m t none cookie e =
      let one = ap (λ (x : Message). count_of is_in_r2_a2 (x ∷ [])) e in
      absurd (omega (arith, none, one))

  quiet_sources : (pick : Pick) → Quiet pick → Sources pick
  quiet_sources None q = tt
  quiet_sources (Some one) q = no_source one.1 one.0 q.1

  or_sources : (a b : Pick) → Sources a → Sources b → Sources (or_else a b)
  or_sources None b p q = q
  or_sources (Some pick) b p q = p

  settled_sources : (pick : Pick) → Sources pick → Sources (settled_pick pick)
  settled_sources None p = tt
  settled_sources (Some pick) p = λ cookie e.
      subst (IsTold cookie) (sym (ap (λ (x : Seen). x.heir) (same_settled pick.0))) (p cookie e)

  told_sources : (z : Successor) → Sources (told_by s z)
  told_sources Absent = tt
  told_sources (Up number) = tt
  told_sources (Joined leg Told) = tt
  told_sources (Joined leg Follows) = tt
  told_sources (Joined leg (TellsServer behind)) =
      by_test Sources (behind == 0)
      (Some (record s { successor = Joined leg Told }, Packet (named.InR2A2 leg.cookie))) None
      (λ t cookie e. (let is : leg.cookie ≡ cookie = cc in is)) (λ t. tt)

  waiting_sources : (dues : List Due) → s.waiting.due ≡ dues → Sources (waiting_by s dues)
  waiting_sources [] e = tt
  waiting_sources (due ∷ dues) e =
      let none = h.none in
      let all = ap (waits is_in_r2_a2) e in
      let one = one_counts is_in_r2_a2 due.packet in
      no_source (Packet due.packet)
      (record s { waiting = waiting.with_due s.waiting dues; successor = one_less s.successor })
      (omega (arith, none, all, one))

  pdu_sources : (pdus : List (List ℕ)) → Sources (next_pdu s pdus)
  pdu_sources [] = tt
  pdu_sources (one ∷ pdus) =
      by_test Sources (may_send s.window (length one)) (Some (passed s (length one), Pdu one))
      None (λ t. no_source (Pdu one) (passed s (length one)) refl) (λ t. tt)

  next_sources : Sources (next s)
  next_sources =
      or_sources (put_control s) (put_stream s)
      (or_sources (put_early s) (put_acks s)
      (or_sources (put_first s) _ (quiet_sources (put_first s) (quiet_first s.opening))
      (or_sources (put_in_r2_a2 s) (put_waiting s) (told_sources s.successor)
      (waiting_sources s.waiting.due refl)))
      (or_sources (current_ack s) (next_ack s s.successor)
      (quiet_sources (current_ack s) (quiet_ack Current s.current.cookie (ack_due s Current)))
      (quiet_sources (next_ack s s.successor) (quiet_next s.successor))))
      (or_sources (put_pdu s) (put_behind s) (pdu_sources s.line.current.pdus)
      (or_sources (put_mark s) (put_ping s)
      (or_sources (put_end s) (put_in_r1_a6 s) (quiet_sources (put_end s) quiet_end)
      (quiet_sources (put_in_r1_a6 s) quiet_mark))
      (quiet_sources (put_ping s) quiet_ping)))

  pub sources : (leg : Leg) → Sources (put_of s leg)
  sources leg =
      by_test Sources (is_client_leg leg) (put_echo s leg.number)
      (if is_server_leg s leg then settled_pick (next s) else None)
      (λ e. quiet_sources (put_echo s leg.number) (quiet_echo leg.number))
      (λ e. by_test Sources (is_server_leg s leg) (settled_pick (next s)) None
      (λ f. settled_sources (next s) next_sources) (λ f. tt))

-- ---- the role

module _ (n : ℕ) where
  row : (one : OnLeg) (came put : List OnLeg) (x : Done) → Fact n x.0 came put
      → RowKeeps (Fact n) one came put x
  row one came put (t, Ok taken) h = h
  row one came put (t, Err why) h = h

  put_row : (leg : Leg) (came put : List OnLeg) (pick : Pick)
      → IfSome pick (λ (one : InProxy × Message). Tells n 0 (seen one.0)
      (count_of is_in_r2_a2 (of_leg (is_leg n) put) + count_of is_in_r2_a2 (one.1 ∷ [])))
      → PutKeeps (Fact n) leg came put pick
  put_row leg came put None h = tt
  put_row leg came put (Some one) h =
      let count = h.count in
      let more = leg_at_most is_in_r2_a2 (is_leg n) put (leg, one.1) in
      record {
        count = omega (arith, count, more);
        least = h.least;
        none = h.none;
        behind = h.behind;
        joined = h.joined;
        done = h.done;
      }

  abbrev so_many : List OnLeg → ℕ
  so_many put = count_of is_in_r2_a2 (of_leg (is_leg n) put)

  pub steps : StepsKeep proxy_rules (Fact n)
  steps = record {
    up = λ s leg cookie came put h. up_row n 0 s (so_many put) h leg;
    head = λ s leg text came put h.
        kept n 0 s (so_many put) h (head s leg text).0 (same_head s leg text);
    pdu = λ s leg count bytes came put h.
        row (leg, Pdu bytes) came put (pdu s leg count bytes)
        (kept n 0 s (so_many put) h (pdu s leg count bytes).0 (same_pdu s leg count bytes));
    packet = λ s leg count m came put h.
        row (leg, Packet m) came put (packet s leg count m)
        (packet_row n 0 s (so_many put) h leg count m);
    put = λ s leg came put h.
        put_row leg came put (put_of s leg) (puts n 0 s (so_many put) h leg);
    drawn = λ s leg came put h.
        kept n 0 s (so_many put) h (drawn s leg) (same_drawn s leg);
    mark = λ s leg came put h. kept n 0 s (so_many put) h (mark s leg) (same_mark s leg);
    ping = λ s leg came put h. kept n 0 s (so_many put) h (ping s leg) (same_ping s leg);
  }

pub start : (config : InProxyConfig) → Fact config.number (first config) [] []
start config = grind arith

-- IN_R2/A2 was put for the later ci legs up to one, at most
pub is_told : (config : InProxyConfig) (moves : List Move)
    → (let p = all_moved proxy_rules (started (first config)) moves in
    config.number + count_of is_in_r2_a2 (of_leg (is_leg config.number) p.put)
    ≤ told p.role.current.number p.role.successor)
is_told config moves =
    let all = moves_keep proxy_rules (Fact config.number) (steps config.number)
    (started (first config)) moves
    (start config) in
    let count = all.count in omega (arith, count)
