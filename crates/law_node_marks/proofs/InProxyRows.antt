-- what an in proxy keeps of its work, where no echo is asked for
use Rattle.rh_window.specs.declared.recv_window.Ack as told
use Rattle.law_order.proofs.Vocabulary.{◌≡◌, ◌&&◌, ◌||◌, ◌∙◌, ℕ, Bool, true, false, true≢false, not, List, [], ◌∷◌, length, Some, None, Ok, Err, nat_le, refl, rules, sym, ap, subst, if◌then◌else◌, IfSome, Option, Result}
use Rattle.rh_sig.specs.declared.named.Named.TheVariants as packets
use Rattle.rh_line.specs.Lines as line
use Rattle.rh_shell.specs.declared.answers.Refused.TheVariants as refused
use Rattle.rh_inproxy.specs.declared.state.Opening.TheVariants as openings
use Rattle.rh_inproxy.specs.declared.state.Successor.TheVariants as successors
use Rattle.rh_inproxy.specs.declared.state.Work.TheVariants as works
use Rattle.law_moves.proofs.Vocabulary.{may_send, by_test, Cookie, Named, ConnB1, ConnB3, InR1A1, InR1A5, InR1B1, InR1B2, OutR1A7, EndA1, AckTo, KeepAlive, HttpFault, greatest_echo, Asked, Leg, Which, Current, Next, Count, HeadRefused, HeadTaken, is_ended, Due, Message, is_at_work}
use Rattle.law_role_inproxy.proofs.Vocabulary.{Handover, Before, Came, Passed, Opening, Opener, Successor, TellsServer, Told, Follows, Work, Done, Pick, or_else, taken, refuse, unexpected, InProxy, has_come, has_passed, has_a5, channel_of, is_client_leg, is_server_leg, same_cookie, may_accept, accepted, wants, connected, head_by, echo_asked, channel_asked, drawn, drawn_by, echo_by, is_absent, is_first, is_newcomer, is_newest, is_over, is_drained, newest_ended, mark, settled, settled_pick, phase_by, up, opener_of, on_ack, on_ack_to, on_conn_b1, on_conn_b3, on_first_in_r1_a1, on_later_in_r1_a1, on_in_r1_a1, on_in_r1_a5, on_in_r1_b1, on_in_r1_b2, on_end_a1}
use Rattle.law_role_inproxy.proofs.Vocabulary.{on_keep_alive, on_out_r1_a7, handed_over, finish_by, finished, join, on_channel, on_channel_by, on_ci, on_is, pdu, packet, ping, ack_by, ack_due, current_ack, next_ack, put_first, told_by, put_in_r2_a2, waiting_by, put_waiting, put_acks, put_early, put_control, next_pdu, put_pdu, put_end, mark_by, put_in_r1_a6, put_mark, put_ping, put_behind, put_stream, put_echo, next, put as put_of, rules as proxy_rules}

-- what the fact is about
record Seen : Type 0 where
  work : Work
  newest_lost : Bool
  come : Bool
  passed : Bool

abbrev seen : InProxy → Seen
seen s = record {
  work = s.work;
  newest_lost = s.newest_lost;
  come = has_come s.handover;
  passed = has_passed s.handover;
}

abbrev Same : InProxy → InProxy → Type 0
Same s t = seen t ≡ seen s

-- ---- rows that leave it alone

same_connected : (s : InProxy) (o : Opening) → Same s (connected s o)
same_connected s o = search rules

same_pdu : (s : InProxy) (leg : Leg) (count : Count) (bytes : List ℕ)
    → Same s (pdu s leg count bytes).0
same_pdu s leg count bytes = search rules

same_conn_b1 : (s : InProxy) (n : ℕ) (a b : Cookie) (c : ℕ) (d : Cookie)
    → Same s (on_conn_b1 s n a b c d).0
same_conn_b1 s n a b c d = search rules

same_first_a1 : (s : InProxy) (a b c : Cookie) → Same s (on_first_in_r1_a1 s a b c).0
same_first_a1 s a b c = search rules

same_join : (s : InProxy) (o : Opener) (n : ℕ) (a b c : Cookie) → Same s (join s o n a b c).0
same_join s o n a b c = search rules

same_later_a1 : (s : InProxy) (o : Option Opener) (n : ℕ) (a b c : Cookie)
    → Same s (on_later_in_r1_a1 s o n a b c).0
same_later_a1 s None n a b c = refl
same_later_a1 s (Some o) n a b c =
    by_test (λ (x : Done). Same s x.0) (is_newcomer s.successor n) (join s o n a b c)
    (unexpected s) (λ e. same_join s o n a b c) (λ e. refl)

same_a1 : (s : InProxy) (n : ℕ) (a b c : Cookie) → Same s (on_in_r1_a1 s n a b c).0
same_a1 s n a b c =
    by_test (λ (x : Done). Same s x.0) (is_first s n) (on_first_in_r1_a1 s a b c)
    (on_later_in_r1_a1 s (opener_of s.opening) n a b c) (λ e. same_first_a1 s a b c)
    (λ e. same_later_a1 s (opener_of s.opening) n a b c)

same_ack_to : (s : InProxy) (which : Which) (to received available : ℕ) (channel : Cookie)
    → Same s (on_ack_to s which to received available channel).0
same_ack_to s which to received available channel = search rules

same_a7 : (s : InProxy) (which : Which) (to : ℕ) (successor : Cookie)
    → Same s (on_out_r1_a7 s which to successor).0
same_a7 s which to successor = search rules

same_keep_alive : (s : InProxy) (which : Which) (n : ℕ) → Same s (on_keep_alive s which n).0
same_keep_alive s which n = search rules

same_end_a1 : (s : InProxy) (which : Which) → Same s (on_end_a1 s which).0
same_end_a1 s which = search rules

pub same_conn_b3 : (s : InProxy) (size : ℕ) → Same s (on_conn_b3 s size).0
same_conn_b3 s size = search rules

pub same_b2 : (s : InProxy) (size : ℕ) → Same s (on_in_r1_b2 s size).0
same_b2 s size = search rules

pub same_ack : (s : InProxy) (received available : ℕ) (channel : Cookie)
    → Same s (on_ack s received available channel).0
same_ack s received available channel = search rules

-- ---- and puts

abbrev PutSame : InProxy → Pick → Type 0
PutSame s pick = IfSome pick (λ (one : InProxy × Message). Same s one.0)

same_put_first : (s : InProxy) → PutSame s (put_first s)
same_put_first s = search rules

same_ack_by : (s : InProxy) (which : Which) (cookie : Cookie) (o : Option told.Ack)
    → PutSame s (ack_by s which cookie o)
same_ack_by s which cookie None = tt
same_ack_by s which cookie (Some ack) = refl

same_next_ack : (s : InProxy) (z : Successor) → PutSame s (next_ack s z)
same_next_ack s successors.Absent = tt
same_next_ack s (successors.Up number) = tt
same_next_ack s (successors.Joined client stage) =
    same_ack_by s Next client.cookie (ack_due s Next)

same_told : (s : InProxy) (z : Successor) → PutSame s (told_by s z)
same_told s successors.Absent = tt
same_told s (successors.Up number) = tt
same_told s (successors.Joined client Told) = tt
same_told s (successors.Joined client Follows) = tt
same_told s (successors.Joined client (TellsServer before)) = search rules

same_waiting : (s : InProxy) (dues : List Due) → PutSame s (waiting_by s dues)
same_waiting s [] = tt
same_waiting s (due ∷ dues) = refl

same_next_pdu : (s : InProxy) (pdus : List (List ℕ)) → PutSame s (next_pdu s pdus)
same_next_pdu s [] = tt
same_next_pdu s (pdu ∷ pdus) =
    by_test (PutSame s) (may_send s.window (length pdu)) _ None (λ t. refl) (λ t. tt)

same_end : (s : InProxy) → PutSame s (put_end s)
same_end s = search rules

same_ping : (s : InProxy) → PutSame s (put_ping s)
same_ping s = search rules

-- ---- the facts

-- the work goes on
abbrev pub IsUnderway : Work → Type 0
IsUnderway w = w ≡ works.Underway

-- Handed: no ci leg is lost before IN_R1/A5 came there, while it is the newest one
module _ (Handed : Type 0) where
  -- the newest ci leg was lost behind IN_R1/A5 alone
  abbrev pub IsHanded : InProxy → Type 0
  IsHanded s = Handed → s.newest_lost ≡ true → has_come s.handover ≡ true

  -- W: how far the work is
  module _ (W : Work → Type 0) where
    pub record Kept (s : InProxy) : Type 0 where
      pub handed : IsHanded s
      pub work : W s.work

    pub same_kept : (s t : InProxy) → Same s t → Kept s → Kept t
    same_kept s t same h = record {
      handed =
          subst (λ (x : Seen). Handed → x.newest_lost ≡ true → x.come ≡ true) (sym same)
          h.handed;
      work = subst W (sym (ap (λ (x : Seen). x.work) same)) h.work;
    }

    -- ---- what comes

    accepted_kept : (s : InProxy) (o : Opening) (n : ℕ) → Kept s → Kept (accepted s o n)
    accepted_kept s openings.AwaitsClient n h =
        same_kept s (accepted s openings.AwaitsClient n) refl h
    accepted_kept s openings.AwaitsPacket n h =
        record { handed = λ k e. absurd (true≢false (sym e)); work = h.work }
    accepted_kept s (openings.WantsServer o) n h =
        record { handed = λ k e. absurd (true≢false (sym e)); work = h.work }
    accepted_kept s (openings.Announces o) n h =
        record { handed = λ k e. absurd (true≢false (sym e)); work = h.work }
    accepted_kept s (openings.Announced o) n h =
        record { handed = λ k e. absurd (true≢false (sym e)); work = h.work }

    pub up_kept : (s : InProxy) (leg : Leg) → Kept s → Kept (up s leg)
    up_kept s leg h =
        by_test Kept (may_accept s leg) (accepted s s.opening leg.number) _
        (λ t. accepted_kept s s.opening leg.number h)
        (λ t. by_test Kept (wants s leg) (connected s s.opening) s
        (λ u. same_kept s (connected s s.opening) (same_connected s s.opening) h) (λ u. h))

    pub pdu_kept : (s : InProxy) (leg : Leg) (count : Count) (bytes : List ℕ) → Kept s
        → Kept (pdu s leg count bytes).0
    pdu_kept s leg count bytes h =
        same_kept s (pdu s leg count bytes).0 (same_pdu s leg count bytes) h

    -- IN_R1/A5 comes on the newest ci leg
    came_kept : (s : InProxy) (cookie : Cookie) → Kept s → Kept (handed_over s cookie).0
    came_kept s cookie h = record { handed = λ k e. refl; work = h.work }

    finish_kept : (s : InProxy) (z : Successor) (cookie : Cookie) → Kept s
        → Kept (finish_by s z cookie).0
    finish_kept s successors.Absent cookie h = came_kept s cookie h
    finish_kept s (successors.Up number) cookie h = h
    finish_kept s (successors.Joined leg (TellsServer behind)) cookie h = h
    finish_kept s (successors.Joined leg Follows) cookie h = h
    finish_kept s (successors.Joined leg Told) cookie h =
        by_test (λ (x : Done). Kept x.0) (same_cookie leg.cookie cookie) (taken (finished s leg))
        (refuse s (refused.Cookie leg.cookie cookie))
        (λ t. same_kept s (finished s leg) refl h) (λ t. h)

    a5_kept : (s : InProxy) (which : Which) (cookie : Cookie) → Kept s
        → Kept (on_in_r1_a5 s which cookie).0
    a5_kept s Current cookie h =
        by_test (λ (x : Done). Kept x.0) (has_a5 s Current) (unexpected s) _ (λ t. h)
        (λ t. finish_kept s s.successor cookie h)
    a5_kept s Next cookie h =
        by_test (λ (x : Done). Kept x.0) (has_a5 s Next) (unexpected s) _ (λ t. h)
        (λ t. came_kept s cookie h)

    channel_kept : (s : InProxy) (which : Which) (named : Named) → Kept s
        → Kept (on_channel s which named).0
    channel_kept s which (AckTo to received available channel) h =
        same_kept s (on_ack_to s which to received available channel).0
        (same_ack_to s which to received available channel) h
    channel_kept s which (OutR1A7 to successor) h =
        same_kept s (on_out_r1_a7 s which to successor).0 (same_a7 s which to successor) h
    channel_kept s which (KeepAlive keepalive) h =
        same_kept s (on_keep_alive s which keepalive).0 (same_keep_alive s which keepalive) h
    channel_kept s which EndA1 h = same_kept s (on_end_a1 s which).0 (same_end_a1 s which) h
    channel_kept s which (InR1A5 successor) h = a5_kept s which successor h
    channel_kept s which packet h = h

    on_kept : (s : InProxy) (o : Option Which) (named : Named) → Kept s
        → Kept (on_channel_by s o named).0
    on_kept s None named h = h
    on_kept s (Some which) named h = channel_kept s which named h

    pub ci_kept : (s : InProxy) (n : ℕ) (named : Named) → Kept s → Kept (on_ci s n named).0
    ci_kept s n (ConnB1 v1 v2 v3 v4 v5 v6) h =
        same_kept s (on_conn_b1 s n v2 v3 v5 v6).0 (same_conn_b1 s n v2 v3 v5 v6) h
    ci_kept s n (InR1A1 v1 v2 v3 v4) h =
        same_kept s (on_in_r1_a1 s n v2 v3 v4).0 (same_a1 s n v2 v3 v4) h
    ci_kept s n packet h = on_kept s (channel_of s n) packet h

    -- ---- what is put

    abbrev pub PutKept : Pick → Type 0
    PutKept pick = IfSome pick (λ (one : InProxy × Message). Kept one.0)

    put_kept : (s : InProxy) (pick : Pick) → PutSame s pick → Kept s → PutKept pick
    put_kept s None same h = tt
    put_kept s (Some one) same h = same_kept s one.0 same h

    or_kept : (a b : Pick) → PutKept a → PutKept b → PutKept (or_else a b)
    or_kept None b h k = k
    or_kept (Some pick) b h k = h

    -- IN_R1/A6 goes behind IN_R1/A5
    mark_kept : (s : InProxy) (handover : Handover) → Kept s → PutKept (mark_by s handover)
    mark_kept s Before h = tt
    mark_kept s Passed h = tt
    mark_kept s (Came cookie) h = record { handed = λ k e. refl; work = h.work }

    control_kept : (s : InProxy) → Kept s → PutKept (put_control s)
    control_kept s h =
        or_kept (put_early s) (put_acks s)
        (or_kept (put_first s) _ (put_kept s (put_first s) (same_put_first s) h)
        (or_kept (put_in_r2_a2 s) (put_waiting s)
        (put_kept s (put_in_r2_a2 s) (same_told s s.successor) h)
        (put_kept s (put_waiting s) (same_waiting s s.waiting.due) h)))
        (or_kept (current_ack s) (next_ack s s.successor)
        (put_kept s (current_ack s) (same_ack_by s Current s.current.cookie (ack_due s Current)) h)
        (put_kept s (next_ack s s.successor) (same_next_ack s s.successor) h))

    behind_kept : (s : InProxy) → Kept s → PutKept (put_behind s)
    behind_kept s h =
        or_kept (put_mark s) (put_ping s)
        (or_kept (put_end s) (put_in_r1_a6 s) (put_kept s (put_end s) (same_end s) h)
        (by_test PutKept (is_absent s.successor && line.is_empty s.line.current.pdus)
        (mark_by s s.handover) None (λ t. mark_kept s s.handover h) (λ t. tt)))
        (put_kept s (put_ping s) (same_ping s) h)

    pub next_kept : (s : InProxy) → Kept s → PutKept (next s)
    next_kept s h =
        or_kept (put_control s) (put_stream s) (control_kept s h)
        (or_kept (put_pdu s) (put_behind s)
        (put_kept s (put_pdu s) (same_next_pdu s s.line.current.pdus) h) (behind_kept s h))

  -- ---- while the work goes on

  abbrev pub Fine : InProxy → Type 0
  Fine = Kept IsUnderway

  abbrev PutFine : Pick → Type 0
  PutFine = PutKept IsUnderway

  -- the work goes on, or is done, behind IN_R1/A6; no answer to an echo request is due
  abbrev pub IsWork : InProxy → Work → Type 0
  IsWork s works.Underway = Unit {0}
  IsWork s (works.EchoDue number) = ⊥
  IsWork s (works.EchoPut number) = ⊥
  IsWork s works.Done = Handed → has_passed s.handover ≡ true

  pub record All (s : InProxy) : Type 0 where
    pub handed : IsHanded s
    pub works : IsWork s s.work

  pub to_fine : (s : InProxy) → is_at_work proxy_rules s ≡ true → All s → Fine s
  to_fine s going h =
      record { handed = h.handed; work = by s.work refl s.opening h.works going }
    where
      by : (w : Work) → s.work ≡ w → (o : Opening) → IsWork s w
          → not (is_ended (phase_by w o)) ≡ true → s.work ≡ works.Underway
      by works.Underway is o works going = is
      by (works.EchoDue number) is o works going = absurd works
      by (works.EchoPut number) is o works going = absurd works
      by works.Done is o works going = absurd (true≢false (sym going))

  pub to_all : (s : InProxy) → Fine s → All s
  to_all s h = record { handed = h.handed; works = subst (IsWork s) (sym h.work) tt }

  -- ---- what comes

  pub head_fine : (s : InProxy) (n : ℕ) (verdict : Result Asked HttpFault)
      → ((request : Asked) → verdict ≡ Ok request
      → nat_le request.length greatest_echo ≡ false)
      → Fine s → Fine (head_by s n verdict).0
  head_fine s n (Err fault) none h = h
  head_fine s n (Ok request) none h =
      by_test AtEnd (nat_le request.length greatest_echo) (echo_asked s n request)
      (channel_asked s request) (λ t. absurd (true≢false (sym t ∙ none request refl)))
      (λ t. same_kept IsUnderway s (channel_asked s request).0 refl h)
    where
      AtEnd : InProxy × Result HeadTaken HeadRefused → Type 0
      AtEnd x = Fine x.0

  -- IN_R1/B1: the work is done
  b1_all : (s : InProxy) → Fine s → All (on_in_r1_b1 s).0
  b1_all s h =
      by_test (λ (x : Done). All x.0) (has_passed s.handover)
      (taken (record s { work = works.Done })) (unexpected s)
      (λ t. record { handed = h.handed; works = λ k. t }) (λ t. to_all s h)

  is_all : (s : InProxy) (named : Named) → Fine s → All (on_is s named).0
  is_all s (ConnB3 size version) h =
      to_all (on_conn_b3 s size).0
      (same_kept IsUnderway s (on_conn_b3 s size).0 (same_conn_b3 s size) h)
  is_all s (InR1B2 size) h =
      to_all (on_in_r1_b2 s size).0
      (same_kept IsUnderway s (on_in_r1_b2 s size).0 (same_b2 s size) h)
  is_all s InR1B1 h = b1_all s h
  is_all s (packets.Ack received available channel) h =
      to_all (on_ack s received available channel).0
      (same_kept IsUnderway s (on_ack s received available channel).0
      (same_ack s received available channel) h)
  is_all s packet h = to_all s h

  pub packet_all : (s : InProxy) (leg : Leg) (count : Count) (named : Named) → Fine s
      → All (packet s leg count named).0
  packet_all s leg count named h =
      by_test (λ (x : Done). All x.0) (is_client_leg leg) (on_ci s leg.number named)
      (if is_server_leg s leg then on_is s named else unexpected s)
      (λ t. to_all (on_ci s leg.number named).0 (ci_kept IsUnderway s leg.number named h))
      (λ t. by_test (λ (x : Done). All x.0) (is_server_leg s leg) (on_is s named) (unexpected s)
      (λ u. is_all s named h) (λ u. to_all s h))

  -- ---- what is put

  -- the work may be done where the newest ci leg is lost behind END
  settled_all : (s : InProxy) → Fine s → All (settled s)
  settled_all s h =
      by_test All (is_over s) (record s { work = works.Done }) s
      (λ t. record {
        handed = h.handed;
        works = λ k. absurd (none s.newest_lost (newest_ended s s.successor)
            (has_come s.handover) (is_drained s) (h.handed k) t);
      })
      (λ t. to_all s h)
    where
      none : (a b c d : Bool) → (a ≡ true → c ≡ true) → (a && b && not c && d) ≡ true → ⊥
      none false b c d so e = true≢false (sym e)
      none true false c d so e = true≢false (sym e)
      none true true true d so e = true≢false (sym e)
      none true true false d so e = true≢false (sym (so refl))

  abbrev PutAll : Pick → Type 0
  PutAll pick = IfSome pick (λ (one : InProxy × Message). All one.0)

  settled_put : (pick : Pick) → PutFine pick → PutAll (settled_pick pick)
  settled_put None h = tt
  settled_put (Some pick) h = settled_all pick.0 h

  echo_all : (s : InProxy) (w : Work) (n : ℕ) → w ≡ works.Underway → PutAll (echo_by s w n)
  echo_all s works.Underway n is = tt
  echo_all s (works.EchoDue asked_on) n is = absurd cc
  echo_all s (works.EchoPut asked_on) n is = tt
  echo_all s works.Done n is = tt

  pub puts_all : (s : InProxy) (leg : Leg) → Fine s → PutAll (put_of s leg)
  puts_all s leg h =
      by_test PutAll (is_client_leg leg) (put_echo s leg.number)
      (if is_server_leg s leg then settled_pick (next s) else None)
      (λ t. echo_all s s.work leg.number h.work)
      (λ t. by_test PutAll (is_server_leg s leg) (settled_pick (next s)) None
      (λ u. settled_put (next s) (next_kept IsUnderway s h)) (λ u. tt))

  -- ---- a leg is lost, or drawn

  pub mark_all : (s : InProxy) (leg : Leg)
      → (Handed → (not (is_newest s leg) || has_come s.handover) ≡ true) → Fine s
      → All (mark s leg)
  mark_all s leg so h =
      settled_all (if is_newest s leg then record s { newest_lost = true } else s)
      (by_test Fine (is_newest s leg) (record s { newest_lost = true }) s
      (λ t. record {
        handed = λ k e. newest (is_newest s leg) (has_come s.handover) t (so k);
        work = h.work;
      })
      (λ t. h))
    where
      newest : (a b : Bool) → a ≡ true → (not a || b) ≡ true → b ≡ true
      newest true b e so = so
      newest false b e so = absurd (true≢false (sym e))

  pub drawn_all : (s : InProxy) (leg : Leg) → All s → All (drawn s leg)
  drawn_all s leg h =
      by_test All (is_client_leg leg) (drawn_by s s.work leg.number) s
      (λ t. by s.work h.works) (λ t. h)
    where
      by : (w : Work) → IsWork s w → All (drawn_by s w leg.number)
      by works.Underway is = h
      by (works.EchoDue asked_on) is = absurd is
      by (works.EchoPut asked_on) is = absurd is
      by works.Done is = h

  pub ping_all : (s : InProxy) (leg : Leg) → All s → All (ping s leg)
  ping_all s leg h =
      by_test All (is_server_leg s leg) (record s { ping_due = true }) s
      (λ t. record { handed = h.handed; works = by s.work h.works }) (λ t. h)
    where
      by : (w : Work) → IsWork s w → IsWork (record s { ping_due = true }) w
      by works.Underway is = tt
      by (works.EchoDue asked_on) is = is
      by (works.EchoPut asked_on) is = is
      by works.Done is = is
