-- what an in proxy keeps where it puts, and where a leg is lost
use Rattle.rh_window.specs.declared.recv_window.Ack as told
use Rattle.law_order.proofs.Vocabulary.{◌≡◌, inl, inr, ℕ, ◌==◌, Bool, true, false, true≢false, ◌&&◌, not, List, [], ◌∷◌, length, Some, None, refl, sym, ◌∙◌, subst, rules, and_parts, if◌then◌else◌, IfSome, Option}
use Rattle.rh_line.specs.Lines as line
use Rattle.rh_inproxy.specs.declared.state.Successor.TheVariants as successors
use Rattle.rh_inproxy.specs.declared.state.Work.TheVariants as works
use Rattle.law_moves.proofs.Vocabulary.{may_send, after_sent, by_test, Cookie, request_verdict, Leg, Which, Current, Next, Due, Message, Pdu, Packet, HeadCame, Marks, Move}
use Rattle.law_role_inproxy.proofs.Vocabulary.{Handover, Before, Came, Passed, InProxyConfig, TellsServer, Told, Follows, Successor, Work, Pick, or_else, InProxy, first, has_come, is_client_leg, is_server_leg, drawn, drawn_by, echo_by, head, is_absent, put_echo, put_first, up, ack_by, ack_due, current_ack, next_ack, put_ack, put_acks, is_announced, is_drained, is_newest, is_over, mark, newest_ended, put_end, settled, settled_pick, tells_server, mark_by, one_less, put_in_r1_a6}
use Rattle.law_role_inproxy.proofs.Vocabulary.{put_in_r2_a2, told_by, next_pdu, put_pdu, next, waiting_by, put_waiting, put_control, put_early, put_stream, put_behind, put_mark, put as put_of, ping, put_ping, pdu, packet, rules as proxy_rules}
use Rattle.law_node_ends.proofs.Passed.Allowed.{StepsKeep, of_role, role_row}
use Rattle.law_node_ends.proofs.Passed.InProxyKept.{Holds, IsBehind, IsWork, Over, Same, seen, to_fine, to_all, same_fine, succeeds, followed_fine, joined_not, packet_all, head_fine, up_fine, same_pdu}
use Rattle.law_node_ends.proofs.Passed.InProxyKept as kept
use Rattle.law_node_ends.specs.Passed.{AsksNoEcho}

module _ (config : InProxyConfig) (Lost : Type 0) where
  abbrev All : InProxy → Type 0
  All = Holds config Lost

  abbrev Fine : InProxy → Type 0
  Fine = kept.Fine config Lost

  -- ---- what is put

  abbrev PutFine : Pick → Type 0
  PutFine pick = IfSome pick (λ (one : InProxy × Message). Fine one.0)

  abbrev PutSame : InProxy → Pick → Type 0
  PutSame s pick = IfSome pick (λ (one : InProxy × Message). Same s one.0)

  put_fine : (s : InProxy) (pick : Pick) → PutSame s pick → Fine s → PutFine pick
  put_fine s None same h = tt
  put_fine s (Some one) same h = same_fine config Lost s one.0 same h

  or_fine : (a b : Pick) → PutFine a → PutFine b → PutFine (or_else a b)
  or_fine None b h k = k
  or_fine (Some pick) b h k = h

  same_put_first : (s : InProxy) → PutSame s (put_first s)
  same_put_first s = search rules

  same_ack_by : (s : InProxy) (which : Which) (cookie : Cookie) (o : Option told.Ack)
      → PutSame s (ack_by s which cookie o)
  same_ack_by s which cookie None = tt
  same_ack_by s which cookie (Some ack) = refl

  ack_fine : (s : InProxy) (which : Which) (cookie : Cookie) → Fine s
      → PutFine (put_ack s which cookie)
  ack_fine s which cookie h =
      put_fine s (put_ack s which cookie) (same_ack_by s which cookie (ack_due s which)) h

  next_ack_fine : (s : InProxy) (z : Successor) → Fine s → PutFine (next_ack s z)
  next_ack_fine s successors.Absent h = tt
  next_ack_fine s (successors.Up number) h = tt
  next_ack_fine s (successors.Joined client stage) h = ack_fine s Next client.cookie h

  same_end : (s : InProxy) → PutSame s (put_end s)
  same_end s = search rules

  same_ping : (s : InProxy) → PutSame s (put_ping s)
  same_ping s = search rules

  told_fine : (s : InProxy) (z : Successor) → s.successor ≡ z → Fine s → PutFine (told_by s z)
  told_fine s successors.Absent is h = tt
  told_fine s (successors.Up number) is h = tt
  told_fine s (successors.Joined client Told) is h = tt
  told_fine s (successors.Joined client Follows) is h = tt
  told_fine s (successors.Joined client (TellsServer before)) is h =
      by_test PutFine (before == 0) _ None
      (λ t. succeeds config Lost s (record s { successor = successors.Joined client Told })
      (joined_not config Lost s client (TellsServer before) is h) refl
      (subst (IsBehind s.current.number) is h.fine.behind) h)
      (λ t. tt)

  absent_less : (z : Successor) → is_absent (one_less z) ≡ is_absent z
  absent_less successors.Absent = refl
  absent_less (successors.Up number) = refl
  absent_less (successors.Joined client Told) = refl
  absent_less (successors.Joined client Follows) = refl
  absent_less (successors.Joined client (TellsServer before)) = refl

  behind_less : (n : ℕ) (z : Successor) → IsBehind n z → IsBehind n (one_less z)
  behind_less n successors.Absent b = b
  behind_less n (successors.Up number) b = b
  behind_less n (successors.Joined client Told) b = b
  behind_less n (successors.Joined client Follows) b = b
  behind_less n (successors.Joined client (TellsServer before)) b = b

  waiting_fine : (s : InProxy) (dues : List Due) → Fine s → PutFine (waiting_by s dues)
  waiting_fine s [] h = tt
  waiting_fine s (due ∷ dues) h = record {
    fine = record {
      made = h.fine.made;
      lost = h.fine.lost;
      last = λ e. absent_less s.successor ∙ h.fine.last e;
      behind = behind_less s.current.number s.successor h.fine.behind;
    };
    underway = h.underway;
  }

  pdu_fine : (s : InProxy) (pdus : List (List ℕ)) → Fine s → PutFine (next_pdu s pdus)
  pdu_fine s [] h = tt
  pdu_fine s (pdu ∷ pdus) h =
      by_test PutFine (may_send s.window (length pdu)) _ None
      (λ t. followed_fine config Lost (sent (length pdu))
      (same_fine config Lost s (sent (length pdu)) refl h))
      (λ t. tt)
    where
      sent : ℕ → InProxy
      sent len =
          record s { line = line.after_take s.line; window = after_sent s.window len }

  mark_fine : (s : InProxy) (handover : Handover) → is_absent s.successor ≡ true → Fine s
      → PutFine (mark_by s handover)
  mark_fine s Before absent h = tt
  mark_fine s Passed absent h = tt
  mark_fine s (Came cookie) absent h = record {
    fine = record {
      made = h.fine.made;
      lost = h.fine.lost;
      last = λ e. absent;
      behind = h.fine.behind;
    };
    underway = h.underway;
  }

  control_fine : (s : InProxy) → Fine s → PutFine (put_control s)
  control_fine s h =
      or_fine (put_early s) (put_acks s)
      (or_fine (put_first s) _ (put_fine s (put_first s) (same_put_first s) h)
      (or_fine (put_in_r2_a2 s) (put_waiting s) (told_fine s s.successor refl h)
      (waiting_fine s s.waiting.due h)))
      (or_fine (current_ack s) (next_ack s s.successor) (ack_fine s Current s.current.cookie h)
      (next_ack_fine s s.successor h))

  behind_fine : (s : InProxy) → Fine s → PutFine (put_behind s)
  behind_fine s h =
      or_fine (put_mark s) (put_ping s)
      (or_fine (put_end s) (put_in_r1_a6 s) (put_fine s (put_end s) (same_end s) h)
      (by_test PutFine (is_absent s.successor && line.is_empty s.line.current.pdus)
      (mark_by s s.handover) None
      (λ t. mark_fine s s.handover
      (and_parts (is_absent s.successor) (line.is_empty s.line.current.pdus) t).0 h)
      (λ t. tt)))
      (put_fine s (put_ping s) (same_ping s) h)

  next_fine : (s : InProxy) → Fine s → PutFine (next s)
  next_fine s h =
      or_fine (put_control s) (put_stream s) (control_fine s h)
      (or_fine (put_pdu s) (put_behind s) (pdu_fine s s.line.current.pdus h) (behind_fine s h))

  -- where the newest ci leg is lost behind END, the work may be done
  settled_all : (s : InProxy) → Fine s → All (settled s)
  settled_all s h =
      by_test All (is_over s) (record s { work = works.Done }) s
      (λ t. record {
        seen = record {
          made = h.fine.made;
          lost = h.fine.lost;
          last = h.fine.last;
          behind = h.fine.behind;
        };
        works = inr (over t);
      })
      (λ t. to_all config Lost s h)
    where
      drained : (a b c d e f : Bool) → (a && b && c && d && e && f) ≡ true → a ≡ true
      drained true b c d e f g = refl
      drained false b c d e f g = g

      tests : (a b c d : Bool) → (a && b && c && d) ≡ true
          → (a ≡ true) × (b ≡ true) × (d ≡ true)
      tests true true true true e = (refl, refl, refl)
      tests true true true false e = absurd (true≢false (sym e))
      tests true true false d e = absurd (true≢false (sym e))
      tests true false c d e = absurd (true≢false (sym e))
      tests false b c d e = absurd (true≢false (sym e))

      over : is_over s ≡ true → Over Lost (record s { work = works.Done })
      over t =
          let all = tests s.newest_lost (newest_ended s s.successor)
          (not (has_come s.handover)) (is_drained s) t in
          record {
            lost = h.fine.lost all.0;
            ended = all.1;
            put =
                drained s.end_put (line.is_empty s.line.current.pdus) (is_announced s.opening)
                (not (tells_server s.successor)) (length s.waiting.due == 0) (not s.ping_due)
                all.2;
          }

  abbrev PutAll : Pick → Type 0
  PutAll pick = IfSome pick (λ (one : InProxy × Message). All one.0)

  settled_put : (pick : Pick) → PutFine pick → PutAll (settled_pick pick)
  settled_put None h = tt
  settled_put (Some pick) h = settled_all pick.0 h

  echo_all : (s : InProxy) (w : Work) (n : ℕ) → w ≡ works.Underway → PutAll (echo_by s w n)
  echo_all s works.Underway n is = tt
  echo_all s (works.EchoDue asked_on) n is = absurd cc
  echo_all s (works.EchoPut asked_on) n is = tt
  echo_all s works.Done n is = tt

  puts_all : (s : InProxy) (leg : Leg) → Fine s → PutAll (put_of s leg)
  puts_all s leg h =
      by_test PutAll (is_client_leg leg) (put_echo s leg.number)
      (if is_server_leg s leg then settled_pick (next s) else None)
      (λ t. echo_all s s.work leg.number h.underway)
      (λ t. by_test PutAll (is_server_leg s leg) (settled_pick (next s)) None
      (λ u. settled_put (next s) (next_fine s h)) (λ u. tt))

  -- ---- ends and breaks

  mark_all : (s : InProxy) (leg : Leg) → Lost → Fine s → All (mark s leg)
  mark_all s leg lost h =
      settled_all (if is_newest s leg then record s { newest_lost = true } else s)
      (by_test Fine (is_newest s leg) (record s { newest_lost = true }) s
      (λ t. record {
        fine = record {
          made = h.fine.made;
          lost = λ e. lost;
          last = h.fine.last;
          behind = h.fine.behind;
        };
        underway = h.underway;
      })
      (λ t. h))

  drawn_all : (s : InProxy) (leg : Leg) → All s → All (drawn s leg)
  drawn_all s leg h =
      by_test All (is_client_leg leg) (drawn_by s s.work leg.number) s (λ t. by s.work h.works)
      (λ t. h)
    where
      by : (w : Work) → IsWork Lost s w → All (drawn_by s w leg.number)
      by works.Underway is = h
      by (works.EchoDue asked_on) is = absurd is
      by (works.EchoPut asked_on) is = absurd is
      by works.Done is = h

  ping_all : (s : InProxy) (leg : Leg) → All s → All (ping s leg)
  ping_all s leg h =
      by_test All (is_server_leg s leg) (record s { ping_due = true }) s
      (λ t. record {
        seen = record {
          made = h.seen.made;
          lost = h.seen.lost;
          last = h.seen.last;
          behind = h.seen.behind;
        };
        works = by s.work h.works;
      })
      (λ t. h)
    where
      by : (w : Work) → IsWork Lost s w → IsWork Lost (record s { ping_due = true }) w
      by works.Underway is = tt
      by (works.EchoDue asked_on) is = is
      by (works.EchoPut asked_on) is = is
      by works.Done (inl passed) = inl passed
      by works.Done (inr over) =
          inr (record { lost = over.lost; ended = over.ended; put = over.put })

  -- ---- the role

  -- a leg is marked only where that is known
  pub keeps : (Asks : Move → Type 0)
      → ((leg : Leg) (text : List ℕ) → Asks (HeadCame leg text) → AsksNoEcho true text)
      → ((leg : Leg) → Asks (Marks leg) → Lost)
      → StepsKeep proxy_rules Asks (λ s came put. Unit {0}) (of_role All)
  keeps Asks head_asks mark_asks = record {
    up = λ s leg cookie came put going h.
        to_all config Lost (up s leg) (up_fine config Lost s leg (to_fine config Lost s going h));
    head = λ s leg text came put going asks h.
        to_all config Lost (head s leg text).0
        (head_fine config Lost s leg.number (request_verdict true text) (head_asks leg text asks)
        (to_fine config Lost s going h));
    pdu = λ s leg count bytes came put going h.
        role_row All (leg, Pdu bytes) came put (pdu s leg count bytes)
        (to_all config Lost (pdu s leg count bytes).0
        (same_fine config Lost s (pdu s leg count bytes).0 (same_pdu config Lost s leg count bytes)
        (to_fine config Lost s going h)));
    packet = λ s leg count named came put going h.
        role_row All (leg, Packet named) came put (packet s leg count named)
        (packet_all config Lost s leg count named (to_fine config Lost s going h));
    put = λ s leg came put going h. puts_all s leg (to_fine config Lost s going h);
    mark = λ s leg came put going only asks known h.
        mark_all s leg (mark_asks leg asks) (to_fine config Lost s going h);
    drawn = λ s leg came put. drawn_all s leg;
    ping = λ s leg came put. ping_all s leg;
  }

  pub starts : All (first config)
  starts = record {
    seen = record {
      made = refl;
      lost = λ e. absurd (true≢false (sym e));
      last = λ e. absurd (true≢false (sym e));
      behind = tt;
    };
    works = tt;
  }
