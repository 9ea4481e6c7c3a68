-- the handover of an in proxy passes by IN_R1/A6, and IN_R1/B1 ends its work
use Rattle.law_order.proofs.Vocabulary.{◌≡◌, ◌⊎◌, ℕ, ◌≤◌, ◌==◌, ◌&&◌, true, false, true≢false, inl, inr, if◌then◌else◌, List, [], ◌∷◌, Some, None, Ok, Err, refl, sym, ap, ◌∙◌, arith, rules, IfSome, Option}
use Rattle.rh_sig.specs.declared.named.Named.TheVariants as named
use Rattle.rh_line.specs.Lines as line
use Rattle.rh_inproxy.specs.declared.state.Successor.TheVariants as successors
use Rattle.rh_inproxy.specs.declared.state.Work.TheVariants as works
use Rattle.law_moves.proofs.Vocabulary.{Ack, by_test, Cookie, Named, Leg, Which, Current, Next, Count, Due, Message, count_of, is_in_r1_a6, is_in_r1_b1}
use Rattle.law_role_inproxy.proofs.Vocabulary.{ClientLeg, Handover, Before, Came, Passed, InProxyConfig, Joining, Opening, Successor, Work, Done, Pick, or_else, unexpected, InProxy, channel_of, has_a5, is_client_leg, is_server_leg, up, drawn, drawn_by, first_by, put_first, echo_by, put_echo, is_absent, on_conn_b1, on_conn_b3, on_ack, on_ack_to, ack_due, ack_by, current_ack, next_ack, put_acks, is_newest, is_over, mark, on_end_a1, put_end, settled, settled_pick, on_out_r1_a7}
use Rattle.law_role_inproxy.proofs.Vocabulary.{has_passed, on_in_r1_a1, on_in_r1_a5, on_in_r1_b2, finish_by, hand_over, told_by, put_in_r2_a2, mark_by, put_in_r1_a6, next_pdu, put_pdu, ping, on_keep_alive, put_ping, next, waiting_by, put_waiting, put_control, put_early, put_stream, put_behind, put_mark, pdu, packet, on_channel, on_channel_by, on_ci, on_is}

-- what the facts are about
pub record Seen : Type 0 where
  pub config : InProxyConfig
  pub work : Work
  pub handover : Handover

abbrev pub seen : InProxy → Seen
seen s = record { config = s.config; work = s.work; handover = s.handover }

abbrev pub Same : InProxy → InProxy → Type 0
Same s t = seen t ≡ seen s

abbrev pub done : Work → ℕ
done works.Done = 1
done work = 0

-- the work stays done, and the handover has passed no more than before
pub record Follows (s t : InProxy) : Type 0 where
  pub config : t.config ≡ s.config
  pub work : done s.work ≤ done t.work
  pub handover : has_passed t.handover ≡ true → has_passed s.handover ≡ true

pub same_follows : (s t : InProxy) → Same s t → Follows s t
same_follows s t same =
    let is = ap (λ (x : Seen). done x.work) same in record {
      config = ap (λ (x : Seen). x.config) same;
      work = omega (arith, is);
      handover = λ e. ap (λ (x : Seen). has_passed x.handover) (sym same) ∙ e;
    }

-- ---- what leaves these alone

pub same_up : (s : InProxy) (leg : Leg) → Same s (up s leg)
same_up s leg = search rules

pub same_pdu : (s : InProxy) (leg : Leg) (count : Count) (bytes : List ℕ)
    → Same s (pdu s leg count bytes).0
same_pdu s leg count bytes = search rules

same_conn_b1 : (s : InProxy) (n : ℕ) (a b : Cookie) (c : ℕ) (d : Cookie)
    → Same s (on_conn_b1 s n a b c d).0
same_conn_b1 s n a b c d = search rules

same_a1 : (s : InProxy) (n : ℕ) (a b c : Cookie) → Same s (on_in_r1_a1 s n a b c).0
same_a1 s n a b c = search rules

same_ack_to : (s : InProxy) (which : Which) (to received available : ℕ) (channel : Cookie)
    → Same s (on_ack_to s which to received available channel).0
same_ack_to s which to received available channel = search rules

same_a7 : (s : InProxy) (which : Which) (to : ℕ) (successor : Cookie)
    → Same s (on_out_r1_a7 s which to successor).0
same_a7 s which to successor = search rules

same_keep_alive : (s : InProxy) (which : Which) (keepalive : ℕ)
    → Same s (on_keep_alive s which keepalive).0
same_keep_alive s which keepalive = search rules

same_end : (s : InProxy) (which : Which) → Same s (on_end_a1 s which).0
same_end s which = search rules

same_b3 : (s : InProxy) (size : ℕ) → Same s (on_conn_b3 s size).0
same_b3 s size = search rules

same_b2 : (s : InProxy) (size : ℕ) → Same s (on_in_r1_b2 s size).0
same_b2 s size = search rules

same_ack : (s : InProxy) (received available : ℕ) (channel : Cookie)
    → Same s (on_ack s received available channel).0
same_ack s received available channel = search rules

pub same_ping : (s : InProxy) (leg : Leg) → Same s (ping s leg)
same_ping s leg = search rules

same_joined : (s : InProxy) (leg : ClientLeg) (stage : Joining) (cookie : Cookie)
    → Same s (finish_by s (successors.Joined leg stage) cookie).0
same_joined s leg stage cookie = search rules

-- ---- what follows

follows_on : (s t u : InProxy) → Follows s t → Follows t u → Follows s u
follows_on s t u a b =
    let one = a.work in let two = b.work in record {
      config = b.config ∙ a.config;
      work = omega (arith, one, two);
      handover = λ e. a.handover (b.handover e);
    }

at_most_done : (w : Work) → done w ≤ 1
at_most_done works.Underway = omega arith
at_most_done (works.EchoDue n) = omega arith
at_most_done (works.EchoPut n) = omega arith
at_most_done works.Done = omega arith

pub work_follows : (s : InProxy) → Follows s (record s { work = works.Done })
work_follows s =
    let most = at_most_done s.work in
    record { config = refl; work = omega (arith, most); handover = λ e. e }

pub settled_follows : (s : InProxy) → Follows s (settled s)
settled_follows s =
    by_test (Follows s) (is_over s) (record s { work = works.Done }) s (λ e. work_follows s)
    (λ e. same_follows s s refl)

pub drawn_follows : (s : InProxy) (leg : Leg) → Follows s (drawn s leg)
drawn_follows s leg =
    by_test (Follows s) (is_client_leg leg) (drawn_by s s.work leg.number) s (λ e. by s.work)
    (λ e. same_follows s s refl)
  where
    by : (w : Work) → Follows s (drawn_by s w leg.number)
    by (works.EchoPut asked_on) =
        by_test (Follows s) (asked_on == leg.number) (record s { work = works.Done }) s
        (λ e. work_follows s) (λ e. same_follows s s refl)
    by works.Underway = same_follows s s refl
    by (works.EchoDue asked_on) = same_follows s s refl
    by works.Done = same_follows s s refl

pub mark_follows : (s : InProxy) (leg : Leg) → Follows s (mark s leg)
mark_follows s leg =
    by_test (λ (t : InProxy). Follows s (settled t)) (is_newest s leg)
    (record s { newest_lost = true }) s
    (λ e. follows_on s (record s { newest_lost = true }) _ (same_follows s _ refl)
    (settled_follows (record s { newest_lost = true })))
    (λ e. settled_follows s)

-- ---- rows

-- IN_R1/B1 is taken where the handover has passed, and ends the work
abbrev pub Leaves : Named → InProxy → Done → Type 0
Leaves m s (t, Ok taken) =
    Follows s t
    × (is_in_r1_b1 m ≡ true → (has_passed s.handover ≡ true) × (done t.work ≡ 1))
Leaves m s (t, Err why) = Follows s t

module _ (s : InProxy) where
  follow_leaves : (m : Named) (x : Done) → is_in_r1_b1 m ≡ false → Follows s x.0
      → Leaves m s x
  follow_leaves m (t, Ok taken) other f =
      (f, λ e. absurd (true≢false (sym e ∙ other)))
  follow_leaves m (t, Err why) other f = f

  same_leaves : (m : Named) (x : Done) → is_in_r1_b1 m ≡ false → Same s x.0 → Leaves m s x
  same_leaves m x other same = follow_leaves m x other (same_follows s x.0 same)

  -- IN_R1/A5 came, so that the handover is to pass
  came_follows : (cookie : Cookie) → Follows s (record s { handover = Came cookie })
  came_follows cookie =
      record { config = refl; work = omega arith; handover = λ e. absurd cc }

  finish_follows : (z : Successor) (cookie : Cookie) → Follows s (finish_by s z cookie).0
  finish_follows successors.Absent cookie = came_follows cookie
  finish_follows (successors.Up number) cookie = same_follows s s refl
  finish_follows (successors.Joined leg stage) cookie =
      same_follows s (finish_by s (successors.Joined leg stage) cookie).0
      (same_joined s leg stage cookie)

  a5_follows : (which : Which) (cookie : Cookie) → Follows s (on_in_r1_a5 s which cookie).0
  a5_follows which cookie =
      by_test (λ (x : Done). Follows s x.0) (has_a5 s which) (unexpected s)
      (hand_over s which cookie) (λ e. same_follows s s refl) (λ e. by which)
    where
      by : (w : Which) → Follows s (hand_over s w cookie).0
      by Current = finish_follows s.successor cookie
      by Next = came_follows cookie

  channel_leaves : (which : Which) (m : Named) → Leaves m s (on_channel s which m)
  channel_leaves which (named.AckTo to received available channel) =
      same_leaves (named.AckTo to received available channel)
      (on_ack_to s which to received available channel) refl
      (same_ack_to s which to received available channel)
  channel_leaves which (named.OutR1A7 to successor) =
      same_leaves (named.OutR1A7 to successor) (on_out_r1_a7 s which to successor) refl
      (same_a7 s which to successor)
  channel_leaves which (named.KeepAlive keepalive) =
      same_leaves (named.KeepAlive keepalive) (on_keep_alive s which keepalive) refl
      (same_keep_alive s which keepalive)
  channel_leaves which named.EndA1 =
      same_leaves named.EndA1 (on_end_a1 s which) refl (same_end s which)
  channel_leaves which (named.InR1A5 successor) =
      follow_leaves (named.InR1A5 successor) (on_in_r1_a5 s which successor) refl
      (a5_follows which successor)
  channel_leaves which m = same_follows s s refl

  by_channel_leaves : (o : Option Which) (m : Named) → Leaves m s (on_channel_by s o m)
  by_channel_leaves None m = same_follows s s refl
  by_channel_leaves (Some which) m = channel_leaves which m

  ci_leaves : (number : ℕ) (m : Named) → Leaves m s (on_ci s number m)
  ci_leaves number (named.ConnB1 version connection channel lifetime keepalive group) =
      same_leaves (named.ConnB1 version connection channel lifetime keepalive group)
      (on_conn_b1 s number connection channel keepalive group) refl
      (same_conn_b1 s number connection channel keepalive group)
  ci_leaves number (named.InR1A1 version connection predecessor channel) =
      same_leaves (named.InR1A1 version connection predecessor channel)
      (on_in_r1_a1 s number connection predecessor channel) refl
      (same_a1 s number connection predecessor channel)
  ci_leaves number m = by_channel_leaves (channel_of s number) m

  is_leaves : (m : Named) → Leaves m s (on_is s m)
  is_leaves (named.ConnB3 size version) =
      same_leaves (named.ConnB3 size version) (on_conn_b3 s size) refl (same_b3 s size)
  is_leaves (named.InR1B2 size) =
      same_leaves (named.InR1B2 size) (on_in_r1_b2 s size) refl (same_b2 s size)
  is_leaves (named.Ack received available channel) =
      same_leaves (named.Ack received available channel) (on_ack s received available channel)
      refl (same_ack s received available channel)
  is_leaves named.InR1B1 =
      by_test (Leaves named.InR1B1 s) (has_passed s.handover) _ (unexpected s)
      (λ e. (work_follows s, λ f. (e, refl))) (λ e. same_follows s s refl)
  is_leaves m = same_follows s s refl

  pub packet_leaves : (leg : Leg) (count : Count) (m : Named)
      → Leaves m s (packet s leg count m)
  packet_leaves leg count m =
      by_test (Leaves m s) (is_client_leg leg) (on_ci s leg.number m)
      (if is_server_leg s leg then on_is s m else unexpected s) (λ e. ci_leaves leg.number m)
      (λ e. by_test (Leaves m s) (is_server_leg s leg) (on_is s m) (unexpected s)
      (λ f. is_leaves m) (λ f. same_follows s s refl))

  -- ---- puts

  -- the handover passes by IN_R1/A6 alone
  pub record Passes (t : InProxy) (m : Message) : Type 0 where
    pub config : t.config ≡ s.config
    pub work : done s.work ≤ done t.work
    pub handover : has_passed t.handover ≡ true
        → (has_passed s.handover ≡ true) ⊎ (count_of is_in_r1_a6 (m ∷ []) ≡ 1)

  abbrev pub IsPut : Pick → Type 0
  IsPut pick = IfSome pick (λ (one : InProxy × Message). Passes one.0 one.1)

  abbrev pub Quiet : Pick → Type 0
  Quiet pick = IfSome pick (λ (one : InProxy × Message). Same s one.0)

  follow_passes : (t : InProxy) (m : Message) → Follows s t → Passes t m
  follow_passes t m f =
      record { config = f.config; work = f.work; handover = λ e. inl (f.handover e) }

  quiet_puts : (pick : Pick) → Quiet pick → IsPut pick
  quiet_puts None h = tt
  quiet_puts (Some one) h = follow_passes one.0 one.1 (same_follows s one.0 h)

  or_puts : (a b : Pick) → IsPut a → IsPut b → IsPut (or_else a b)
  or_puts None b h k = k
  or_puts (Some pick) b h k = h

  pub settled_puts : (pick : Pick) → IsPut pick → IsPut (settled_pick pick)
  settled_puts None h = tt
  settled_puts (Some pick) h =
      let f = settled_follows pick.0 in
      let one = h.work in let two = f.work in record {
        config = f.config ∙ h.config;
        work = omega (arith, one, two);
        handover = λ e. h.handover (f.handover e);
      }

  quiet_first : (o : Opening) → Quiet (first_by s o)
  quiet_first o = search rules

  quiet_told : (z : Successor) → Quiet (told_by s z)
  quiet_told z = search rules

  quiet_waiting : (dues : List Due) → Quiet (waiting_by s dues)
  quiet_waiting dues = search rules

  quiet_ack : (which : Which) (cookie : Cookie) (o : Option Ack)
      → Quiet (ack_by s which cookie o)
  quiet_ack which cookie o = search rules

  quiet_next : (z : Successor) → Quiet (next_ack s z)
  quiet_next successors.Absent = tt
  quiet_next (successors.Up number) = tt
  quiet_next (successors.Joined leg stage) = quiet_ack Next leg.cookie (ack_due s Next)

  quiet_pdu : (pdus : List (List ℕ)) → Quiet (next_pdu s pdus)
  quiet_pdu pdus = search rules

  quiet_end : Quiet (put_end s)
  quiet_end = search rules

  quiet_ping : Quiet (put_ping s)
  quiet_ping = search rules

  mark_puts : (h : Handover) → IsPut (mark_by s h)
  mark_puts Before = tt
  mark_puts (Came cookie) =
      record { config = refl; work = omega arith; handover = λ e. inr refl }
  mark_puts Passed = tt

  abbrev pub Stays : Pick → Type 0
  Stays pick = IfSome pick (λ (one : InProxy × Message). Follows s one.0)

  pub echo_stays : (number : ℕ) → Stays (put_echo s number)
  echo_stays number = by s.work refl
    where
      by : (w : Work) → s.work ≡ w → Stays (echo_by s w number)
      by works.Underway e = tt
      by (works.EchoPut asked_on) e = tt
      by works.Done e = tt
      by (works.EchoDue asked_on) e =
          by_test Stays (asked_on == number) _ None
          (λ f. let is = ap done e in
          record { config = refl; work = omega (arith, is); handover = λ g. g })
          (λ f. tt)

  pub server_puts : IsPut (next s)
  server_puts =
      or_puts (put_control s) (put_stream s)
      (or_puts (put_early s) (put_acks s)
      (or_puts (put_first s) _ (quiet_puts (put_first s) (quiet_first s.opening))
      (or_puts (put_in_r2_a2 s) (put_waiting s)
      (quiet_puts (put_in_r2_a2 s) (quiet_told s.successor))
      (quiet_puts (put_waiting s) (quiet_waiting s.waiting.due))))
      (or_puts (current_ack s) (next_ack s s.successor)
      (quiet_puts (current_ack s) (quiet_ack Current s.current.cookie (ack_due s Current)))
      (quiet_puts (next_ack s s.successor) (quiet_next s.successor))))
      (or_puts (put_pdu s) (put_behind s)
      (quiet_puts (put_pdu s) (quiet_pdu s.line.current.pdus))
      (or_puts (put_mark s) (put_ping s)
      (or_puts (put_end s) (put_in_r1_a6 s) (quiet_puts (put_end s) quiet_end)
      (by_test IsPut (is_absent s.successor && line.is_empty s.line.current.pdus)
      (mark_by s s.handover) None (λ e. mark_puts s.handover) (λ e. tt)))
      (quiet_puts (put_ping s) quiet_ping)))
