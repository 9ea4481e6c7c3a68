-- what an in proxy owes the server for the channels that began on its ci legs
use Rattle.law_order.proofs.Vocabulary.{◌≡◌, ℕ, ◌+◌, ◌==◌, ◌&&◌, Bool, true, false, not, if◌then◌else◌, List, Some, None, Ok, Err, refl, sym, ap, ◌∙◌, subst, arith, and_parts, nat_tests, replicate, Option}
use Rattle.rh_rts.specs.declared.command.Address4or16.{Address4or16}
use Rattle.rh_sig.specs.declared.named.Named.TheVariants as named
use Rattle.rh_line.specs.Lines as line
use Rattle.rh_shell.specs.declared.answers.Refused.TheVariants as refused
use Rattle.rh_shell.specs.Waiting as waiting
use Rattle.rh_inproxy.specs.declared.state.Opening.TheVariants as openings
use Rattle.rh_inproxy.specs.declared.state.Successor.TheVariants as successors
use Rattle.law_moves.proofs.Vocabulary.{by_test, Cookie, V4, Named, Leg, Which, Current, Next, Count, one_if}
use Rattle.law_moves.proofs.Lemmas.{IsNoAck}
use Rattle.law_role_inproxy.proofs.Vocabulary.{KEEPALIVE, ClientLeg, Connects, Replaces, InProxyConfig, TellsServer, Told, Follows, Opener, Opening, Successor, Done, taken, refuse, unexpected, InProxy, channel_of, has_a5, is_client_leg, is_server_leg, is_joined, is_succeeded, same_cookie, follows, up, may_accept, accepts, accepts_later, accepted, wants, connected, opener_of, opener, opened, kept_for, is_absent, is_first, awaits_packet, on_first_in_r1_a1}
use Rattle.law_role_inproxy.proofs.Vocabulary.{forward_by, forwarded, on_ack_to, on_out_r1_a7, on_end_a1, is_newcomer, joined, join, on_later_in_r1_a1, on_in_r1_a5, finished, finish_by, hand_over, on_keep_alive, on_conn_b3, on_in_r1_b1, on_in_r1_b2, on_ack, packet, on_channel, on_channel_by, on_ci, on_is, ci_leg}
use Rattle.law_role_inproxy.proofs.Counted.InProxyOwes.{Seen, seen, Same, announced, same_is, same_keep_alive, same_end}
use Rattle.law_role_inproxy.proofs.Refusing.Legs.{client_is}
use Rattle.law_role_inproxy.proofs.Refusing.Steps.{absent_is, newcomer_is}
use Rattle.law_role_edges.proofs.Dues.{WaitsBy, forwarded_by}
use Rattle.law_role_edges.proofs.InPlaced.{Placed}
use Rattle.law_role_edges.specs.Forwarding.{waiting_of}

-- each packet that passes a test, on legs that pass another, is put as one that passes a third; the
-- first ci leg has this number
pub record Leads (n : ℕ) (on : Leg → Bool) (test put : Named → Bool) : Type 0 where
  pub connects : (version lifetime keepalive window timeout : ℕ)
      (connection channel group : Cookie) (address : Address4or16) (padding : List ℕ)
      → (if on (ci_leg n)
      then one_if (test (named.ConnB1 version connection channel lifetime keepalive group)) else 0)
      ≡ one_if (put (named.ConnB2 1 connection channel window timeout group address padding))
  pub replaces : (version window timeout : ℕ) (connection predecessor channel : Cookie)
      → (if on (ci_leg n)
      then one_if (test (named.InR1A1 version connection predecessor channel)) else 0)
      ≡ one_if (put (named.InR1A2 1 connection predecessor channel window timeout))
  pub joins : (k version : ℕ) (connection predecessor channel : Cookie) → (k ≡ n → ⊥)
      → (if on (ci_leg k)
      then one_if (test (named.InR1A1 version connection predecessor channel)) else 0)
      ≡ one_if (put (named.InR2A2 channel))
  -- nothing else passes
  pub ack_to : IsNoAck test
  pub out_r1_a7 : (to : ℕ) (successor : Cookie) → test (named.OutR1A7 to successor) ≡ false
  pub keep_alive : (keepalive : ℕ) → test (named.KeepAlive keepalive) ≡ false
  pub end_a1 : test named.EndA1 ≡ false
  pub in_r1_a5 : (successor : Cookie) → test (named.InR1A5 successor) ≡ false
  pub conn_b3 : (window version : ℕ) → test (named.ConnB3 window version) ≡ false
  pub in_r1_b2 : (window : ℕ) → test (named.InR1B2 window) ≡ false
  pub in_r1_b1 : test named.InR1B1 ≡ false
  pub ack : (received available : ℕ) (channel : Cookie)
      → test (named.Ack received available channel) ≡ false
  pub no_acks : IsNoAck put
  pub out_r1_a8 : (successor : Cookie) → put (named.OutR1A8 2 successor) ≡ false
  pub in_r1_a6 : (successor : Cookie) → put (named.InR1A6 successor) ≡ false
  pub end_a2 : put named.EndA2 ≡ false
  pub pings : put named.Ping ≡ false

module _ (n : ℕ) (on : Leg → Bool) (test put : Named → Bool) (leads : Leads n on test put) where
  abbrev pub worth : Leg → Named → ℕ
  worth leg m = if on leg then one_if (test m) else 0

  abbrev pub opening_owes : InProxyConfig → Opening → ℕ
  opening_owes config (openings.WantsServer o) = one_if (put (announced config o o.entry))
  opening_owes config (openings.Announces o) = one_if (put (announced config o o.entry))
  opening_owes config opening = 0

  abbrev pub successor_owes : Successor → ℕ
  successor_owes (successors.Joined leg (TellsServer behind)) =
      one_if (put (named.InR2A2 leg.cookie))
  successor_owes successor = 0

  abbrev pub owed : Seen → ℕ
  owed x = opening_owes x.config x.opening + successor_owes x.successor

  -- so much is owed, and nothing of it waits
  abbrev pub Owes : ℕ → InProxy → Type 0
  Owes k s = (waiting_of put s.waiting.due ≡ 0) × (owed (seen s) ≡ k)

  abbrev pub Gains : ℕ → InProxy → Done → Type 0
  Gains k s (t, Ok taken) = Owes (owed (seen s) + k) t
  Gains k s (t, Err why) = Owes (owed (seen s)) t

  pub same_owes : (s t : InProxy) → waiting_of put s.waiting.due ≡ 0 → Same s t
      → Owes (owed (seen s)) t
  same_owes s t none same =
      (ap (λ (x : Seen). waiting_of put x.waiting.due) same ∙ none, ap owed same)

  pub same_gains : (s : InProxy) (k : ℕ) (x : Done) → waiting_of put s.waiting.due ≡ 0 → k ≡ 0
      → Same s x.0 → Gains k s x
  same_gains s k (t, Ok taken) none zero same =
      let h = same_owes s t none same in
      let is = h.1 in (h.0, omega (arith, is, zero))
  same_gains s k (t, Err why) none zero same = same_owes s t none same

  zero_gains : (s : InProxy) (k : ℕ) (x : Done) → k ≡ 0 → Gains 0 s x → Gains k s x
  zero_gains s k (t, Ok taken) zero h = let is = h.1 in (h.0, omega (arith, is, zero))
  zero_gains s k (t, Err why) zero h = h

  nothing : (leg : Leg) (m : Named) → test m ≡ false → worth leg m ≡ 0
  nothing leg m quiet =
      by_test (λ (k : ℕ). k ≡ 0) (on leg) (one_if (test m)) 0 (λ e. ap one_if quiet) (λ e. refl)

  -- ---- the next channel becomes current

  abbrev pub followed_owes : Bool → ClientLeg → Successor → ℕ
  followed_owes has_next current z = successor_owes (follows has_next current z).1

  last_owes : (has_next : Bool) (current leg : ClientLeg)
      → followed_owes has_next current (successors.Joined leg Follows) ≡ 0
  last_owes true current leg = refl
  last_owes false current leg = refl

  pub stays : (has_next : Bool) (current : ClientLeg) (z : Successor) → has_next ≡ is_joined z
      → followed_owes has_next current z ≡ successor_owes z
  stays true current z e = refl
  stays false current successors.Absent e = refl
  stays false current (successors.Up number) e = refl
  stays false current (successors.Joined leg stage) e = absurd cc

  moves_on : (current : ClientLeg) (z : Successor) → is_succeeded z ≡ true
      → followed_owes false current z ≡ successor_owes z
  moves_on current (successors.Joined leg Follows) e = refl
  moves_on current (successors.Joined leg Told) e = absurd cc
  moves_on current (successors.Joined leg (TellsServer behind)) e = absurd cc
  moves_on current (successors.Up number) e = absurd cc
  moves_on current successors.Absent e = absurd cc

  pub settles : (current : ClientLeg) (z : Successor) (l : line.Line)
      → l.has_next ≡ is_joined z → l.finished ≡ is_succeeded z
      → followed_owes (line.settled l).has_next current z ≡ successor_owes z
  settles current z l joined done =
      by_test (λ (k : line.Line). followed_owes k.has_next current z ≡ successor_owes z)
      (l.finished && line.is_empty l.current.pdus) (line.moved_on l) l
      (λ e. moves_on current z
      (sym done ∙ (and_parts l.finished (line.is_empty l.current.pdus) e).0))
      (λ e. stays l.has_next current z joined)

  module _ (s : InProxy) (none : waiting_of put s.waiting.due ≡ 0) where
    -- ---- ups

    pub up_owes : (leg : Leg) → Owes (owed (seen s)) (up s leg)
    up_owes leg =
        by_test (Owes (owed (seen s))) (may_accept s leg) (accepted s s.opening leg.number)
        (if wants s leg then connected s s.opening else s)
        (λ e. accepts_row s.opening refl
        (and_parts (is_client_leg leg) (accepts s s.opening leg.number) e).1)
        (λ e. by_test (Owes (owed (seen s))) (wants s leg) (connected s s.opening) s
        (λ f. connects_row s.opening refl) (λ f. (none, refl)))
      where
        rises : (number : ℕ) → accepts_later s number ≡ true
            → Owes (owed (seen s))
            (record s { successor = successors.Up number; newest_lost = false })
        rises number e =
            let free : is_absent s.successor ≡ true = grind (arith, nat_tests) in
            let was = ap successor_owes (absent_is s.successor free) in
            (none, omega (arith, was))

        accepts_row : (o : Opening) → s.opening ≡ o → accepts s o leg.number ≡ true
            → Owes (owed (seen s)) (accepted s o leg.number)
        accepts_row openings.AwaitsClient e may =
            let was = ap (opening_owes s.config) e in (none, omega (arith, was))
        accepts_row openings.AwaitsPacket e may = absurd cc
        accepts_row (openings.WantsServer o) e may = rises leg.number may
        accepts_row (openings.Announces o) e may = rises leg.number may
        accepts_row (openings.Announced o) e may = rises leg.number may

        connects_row : (o : Opening) → s.opening ≡ o → Owes (owed (seen s)) (connected s o)
        connects_row (openings.WantsServer o) e =
            let was = ap (opening_owes s.config) e in (none, omega (arith, was))
        connects_row openings.AwaitsClient e = (none, refl)
        connects_row openings.AwaitsPacket e = (none, refl)
        connects_row (openings.Announces o) e = (none, refl)
        connects_row (openings.Announced o) e = (none, refl)

    -- ---- rows that owe nothing more

    forward_gains : (m : Named) → put m ≡ false → Gains 0 s (forwarded s m)
    forward_gains m quiet =
        by (waiting.forwarded s.waiting m) (forwarded_by put leads.no_acks s.waiting m)
      where
        by : (x : waiting.Waiting × Bool) → WaitsBy put leads.no_acks s.waiting m x
            → Gains 0 s (forward_by s x)
        by (w, true) more =
            let nought = ap one_if quiet in (omega (arith, more, none, nought), omega arith)
        by (w, false) same = (omega (arith, same, none), refl)

    finish_gains : (z : Successor) (cookie : Cookie) → s.successor ≡ z
        → Gains 0 s (finish_by s z cookie)
    finish_gains successors.Absent cookie e = (none, omega arith)
    finish_gains (successors.Up number) cookie e = (none, refl)
    finish_gains (successors.Joined leg (TellsServer behind)) cookie e = (none, refl)
    finish_gains (successors.Joined leg Follows) cookie e = (none, refl)
    finish_gains (successors.Joined leg Told) cookie e =
        by_test (Gains 0 s) (same_cookie leg.cookie cookie) (taken (finished s leg))
        (refuse s (refused.Cookie leg.cookie cookie))
        (λ t.
        let was = ap successor_owes e in
        let now = last_owes (line.after_finish s.line).has_next s.current leg in
        (none, omega (arith, was, now)))
        (λ t. (none, refl))

    a5_gains : (which : Which) (cookie : Cookie) → Gains 0 s (on_in_r1_a5 s which cookie)
    a5_gains which cookie =
        by_test (Gains 0 s) (has_a5 s which) (unexpected s) (hand_over s which cookie)
        (λ e. (none, refl)) (λ e. by which)
      where
        by : (w : Which) → Gains 0 s (hand_over s w cookie)
        by Current = finish_gains s.successor cookie refl
        by Next = (none, omega arith)

    channel_gains : (leg : Leg) (which : Which) (m : Named)
        → Gains (worth leg m) s (on_channel s which m)
    channel_gains leg which (named.AckTo to received available channel) =
        zero_gains s _ (on_ack_to s which to received available channel)
        (nothing leg (named.AckTo to received available channel)
        (leads.ack_to to received available channel))
        (by_test (Gains 0 s) (not (has_a5 s which) && (to == 3))
        (forwarded s (named.AckTo 3 received available channel)) (unexpected s)
        (λ e. forward_gains (named.AckTo 3 received available channel)
        (leads.no_acks 3 received available channel)) (λ e. (none, refl)))
    channel_gains leg which (named.OutR1A7 to successor) =
        zero_gains s _ (on_out_r1_a7 s which to successor)
        (nothing leg (named.OutR1A7 to successor) (leads.out_r1_a7 to successor))
        (by_test (Gains 0 s) (not (has_a5 s which) && (to == 2))
        (forwarded s (named.OutR1A8 2 successor)) (unexpected s)
        (λ e. forward_gains (named.OutR1A8 2 successor) (leads.out_r1_a8 successor))
        (λ e. (none, refl)))
    channel_gains leg which (named.KeepAlive keepalive) =
        same_gains s _ (on_keep_alive s which keepalive) none
        (nothing leg (named.KeepAlive keepalive) (leads.keep_alive keepalive))
        (same_keep_alive s which keepalive)
    channel_gains leg which named.EndA1 =
        same_gains s _ (on_end_a1 s which) none (nothing leg named.EndA1 leads.end_a1)
        (same_end s which)
    channel_gains leg which (named.InR1A5 successor) =
        zero_gains s _ (on_in_r1_a5 s which successor)
        (nothing leg (named.InR1A5 successor) (leads.in_r1_a5 successor))
        (a5_gains which successor)
    channel_gains leg which m = (none, refl)

    by_channel_gains : (leg : Leg) (o : Option Which) (m : Named)
        → Gains (worth leg m) s (on_channel_by s o m)
    by_channel_gains leg None m = (none, refl)
    by_channel_gains leg (Some which) m = channel_gains leg which m

    is_gains : (leg : Leg) (m : Named) → Gains (worth leg m) s (on_is s m)
    is_gains leg (named.ConnB3 size version) =
        same_gains s _ (on_conn_b3 s size) none
        (nothing leg (named.ConnB3 size version) (leads.conn_b3 size version))
        (same_is s (named.ConnB3 size version))
    is_gains leg (named.InR1B2 size) =
        same_gains s _ (on_in_r1_b2 s size) none
        (nothing leg (named.InR1B2 size) (leads.in_r1_b2 size)) (same_is s (named.InR1B2 size))
    is_gains leg named.InR1B1 =
        same_gains s _ (on_in_r1_b1 s) none (nothing leg named.InR1B1 leads.in_r1_b1)
        (same_is s named.InR1B1)
    is_gains leg (named.Ack received available channel) =
        same_gains s _ (on_ack s received available channel) none
        (nothing leg (named.Ack received available channel)
        (leads.ack received available channel))
        (same_is s (named.Ack received available channel))
    is_gains leg m = (none, refl)

    -- ---- channels that begin

    module _ (p : Placed n s) where
      -- before the first packet
      early_owes : (o : Opening) → awaits_packet o ≡ true → opening_owes s.config o ≡ 0
      early_owes openings.AwaitsPacket e = refl
      early_owes openings.AwaitsClient e = refl
      early_owes (openings.WantsServer o) e = absurd cc
      early_owes (openings.Announces o) e = absurd cc
      early_owes (openings.Announced o) e = absurd cc

      first_gains : (k : ℕ) (m : Named) (o : Opener) (keepalive : ℕ) → is_first s k ≡ true
          → worth (ci_leg n) m ≡ one_if (put (announced s.config o o.entry))
          → Gains (worth (ci_leg k) m) s (opened s o keepalive)
      first_gains k m o keepalive e is =
          let was = early_owes s.opening
          (and_parts (awaits_packet s.opening) (s.current.number == k) e).0 in
          let here = ap (λ (j : ℕ). worth (ci_leg j) m) (p.first k e) in
          (none, omega (arith, was, here, is))

      join_gains : (k version : ℕ) (o : Opener) (connection predecessor channel : Cookie)
          → s.successor ≡ successors.Up k
          → Gains (worth (ci_leg k) (named.InR1A1 version connection predecessor channel)) s
          (join s o k connection predecessor channel)
      join_gains k version o connection predecessor channel e =
          by_test More (not (same_cookie o.connection connection))
          (refuse s (refused.Cookie o.connection connection)) _ (λ a. (none, refl))
          (λ a. by_test More (not (same_cookie s.current.cookie predecessor))
          (refuse s (refused.Cookie s.current.cookie predecessor)) (taken (joined s k channel))
          (λ b. (none, refl))
          (λ b.
          let was = ap successor_owes e in
          let is = leads.joins k version connection predecessor channel (p.later k e) in
          (none, omega (arith, was, is))))
        where
          More : Done → Type 0
          More =
              Gains (worth (ci_leg k) (named.InR1A1 version connection predecessor channel)) s

      later_gains : (k version : ℕ) (o : Option Opener)
          (connection predecessor channel : Cookie)
          → Gains (worth (ci_leg k) (named.InR1A1 version connection predecessor channel)) s
          (on_later_in_r1_a1 s o k connection predecessor channel)
      later_gains k version None connection predecessor channel = (none, refl)
      later_gains k version (Some o) connection predecessor channel =
          by_test
          (Gains (worth (ci_leg k) (named.InR1A1 version connection predecessor channel)) s)
          (is_newcomer s.successor k) (join s o k connection predecessor channel) (unexpected s)
          (λ e. join_gains k version o connection predecessor channel
          (newcomer_is s.successor k e)) (λ e. (none, refl))

      ci_gains : (k : ℕ) (m : Named) → Gains (worth (ci_leg k) m) s (on_ci s k m)
      ci_gains k (named.ConnB1 version connection channel lifetime keepalive group) =
          by_test (Gains (worth (ci_leg k)
          (named.ConnB1 version connection channel lifetime keepalive group)) s) (is_first s k)
          (opened s (opener connection channel (Connects group)) (kept_for keepalive))
          (unexpected s)
          (λ e. first_gains k (named.ConnB1 version connection channel lifetime keepalive group)
          (opener connection channel (Connects group)) (kept_for keepalive) e
          (leads.connects version lifetime keepalive s.config.window s.config.timeout connection
          channel group (V4 s.config.address) (replicate 12 0)))
          (λ e. (none, refl))
      ci_gains k (named.InR1A1 version connection predecessor channel) =
          by_test (Gains (worth (ci_leg k)
          (named.InR1A1 version connection predecessor channel)) s) (is_first s k)
          (on_first_in_r1_a1 s connection predecessor channel)
          (on_later_in_r1_a1 s (opener_of s.opening) k connection predecessor channel)
          (λ e. first_gains k (named.InR1A1 version connection predecessor channel)
          (opener connection channel (Replaces predecessor)) KEEPALIVE e
          (leads.replaces version s.config.window s.config.timeout connection predecessor
          channel))
          (λ e. later_gains k version (opener_of s.opening) connection predecessor channel)
      ci_gains k m = by_channel_gains (ci_leg k) (channel_of s k) m

      pub packet_gains : (leg : Leg) (count : Count) (m : Named)
          → Gains (worth leg m) s (packet s leg count m)
      packet_gains leg count m =
          by_test (Gains (worth leg m) s) (is_client_leg leg) (on_ci s leg.number m)
          (if is_server_leg s leg then on_is s m else unexpected s)
          (λ e. subst (λ (l : Leg). Gains (worth l m) s (on_ci s leg.number m)) (client_is leg e)
          (ci_gains leg.number m))
          (λ e. by_test (Gains (worth leg m) s) (is_server_leg s leg) (on_is s m) (unexpected s)
          (λ f. is_gains leg m) (λ f. (none, refl)))
