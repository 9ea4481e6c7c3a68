-- an in proxy puts no more packets of a kind than came for them
use Rattle.law_order.proofs.Vocabulary.{◌≡◌, ℕ, ◌+◌, ◌≤◌, ◌==◌, Bool, true, false, ◌&&◌, not, if◌then◌else◌, List, [], ◌∷◌, ◌++◌, length, Some, None, Ok, Err, refl, ap, arith, rules, replicate, Option}
use Rattle.rh_sig.specs.declared.named.Named.TheVariants as named
use Rattle.rh_line.specs.Lines as line
use Rattle.rh_shell.specs.declared.answers.Refused.TheVariants as refused
use Rattle.rh_shell.specs.Waiting as waiting
use Rattle.rh_inproxy.specs.declared.state.Opening.TheVariants as openings
use Rattle.rh_inproxy.specs.declared.state.Successor.TheVariants as successors
use Rattle.law_moves.proofs.Vocabulary.{may_send, Ack, by_test, Cookie, V4, Named, Leg, ClientIn, Which, Current, Next, Count, Due, Packet, one_if, OnLeg, Move, started, all_moved, of_leg, count_of, of_kind}
use Rattle.law_moves.proofs.Lemmas.{one_counts, kind_rises, kind_here, IsSame, waits, forwarded_waits, refused_waits, StepsPay, moves_pay, any_rise}
use Rattle.law_moves.proofs.PacketKinds.Pays as pays
use Rattle.law_role_inproxy.proofs.Vocabulary.{Connects, Handover, Before, Came, Passed, InProxyConfig, TellsServer, Told, Follows, Opener, Opening, Successor, Done, Pick, or_else, taken, refuse, unexpected, InProxy, first, channel_of, has_a5, has_come, hands_over, is_client_leg, is_server_leg, same_cookie, follows, followed, up, may_accept, accepted, wants, connected, head, drawn, announcement, first_by, put_first, put_echo, opener_of, opener, opened, kept_for, is_absent}
use Rattle.law_role_inproxy.proofs.Vocabulary.{is_first, on_conn_b1, on_first_in_r1_a1, forward_by, forwarded, ack_due, ack_by, current_ack, next_ack, put_acks, mark, on_end_a1, put_end, settled_pick, is_newcomer, joined, join, on_later_in_r1_a1, on_in_r1_a1, on_in_r1_a5, finished, finish_by, handed_over, hand_over, told_by, one_less, put_in_r2_a2, mark_by, put_in_r1_a6, next_pdu, put_pdu, put as put_of, next, waiting_by, put_waiting, put_control, put_early, put_stream}
use Rattle.law_role_inproxy.proofs.Vocabulary.{put_behind, put_mark, on_keep_alive, ping, put_ping, pdu, packet, on_channel, on_channel_by, on_ci, on_is, rules as proxy_rules}
use Rattle.law_role_inproxy.proofs.Counted.InProxyOwes.{Seen, seen, Same, announced, same_head, same_pdu, same_is, same_keep_alive, same_end, same_drawn, same_settled, same_mark, same_ping, is_announced, Leads}

module _ (came put : Named → Bool) (base : ℕ) (leads : Leads came put base) where
  abbrev opening_owes : InProxyConfig → Opening → ℕ
  opening_owes config (openings.WantsServer o) = one_if (put (announced config o o.entry))
  opening_owes config (openings.Announces o) = one_if (put (announced config o o.entry))
  opening_owes config opening = 0

  abbrev successor_owes : Successor → ℕ
  successor_owes (successors.Joined leg (TellsServer behind)) =
      one_if (put (named.InR2A2 leg.cookie))
  successor_owes successor = 0

  abbrev pub handover_owes : Handover → ℕ
  handover_owes Before = base
  handover_owes (Came cookie) = one_if (put (named.InR1A6 cookie))
  handover_owes Passed = 0

  abbrev owed : Seen → ℕ
  owed x =
      waits put x.waiting.due + opening_owes x.config x.opening + successor_owes x.successor
      + handover_owes x.handover

  abbrev owes : InProxy → ℕ
  owes s = owed (seen s)

  abbrev Known : InProxy → Type 0
  Known s = Unit {0}

  abbrev Owes : ℕ → InProxy → Type 0
  Owes = pays.Owes Known owes

  abbrev Gains : ℕ → InProxy → Done → Type 0
  Gains = pays.Gains Known owes

  abbrev Spends : InProxy → Pick → Type 0
  Spends = pays.Spends Known owes put

  same_owes : (s t : InProxy) → Same s t → Owes (owes s) t
  same_owes s t same = let is = ap owed same in (tt, omega (arith, is))

  same_gains : (k : ℕ) (s : InProxy) (x : Done) → Same s x.0 → Gains k s x
  same_gains k s (t, Ok taken) same = let is = ap owed same in (tt, omega (arith, is))
  same_gains k s (t, Err why) same = let is = ap owed same in (tt, omega (arith, is))

  more_gains : (j k : ℕ) (s : InProxy) (x : Done) → j ≤ k → Gains j s x → Gains k s x
  more_gains j k s (t, Ok taken) more h = let less = h.1 in (tt, omega (arith, more, less))
  more_gains j k s (t, Err why) more h = h

  -- ---- ups

  up_owes : (s : InProxy) (leg : Leg) → Owes (owes s) (up s leg)
  up_owes s leg =
      by_test (Owes (owes s)) (may_accept s leg) (accepted s s.opening leg.number)
      (if wants s leg then connected s s.opening else s)
      (λ e. accepts s.opening)
      (λ e. by_test (Owes (owes s)) (wants s leg) (connected s s.opening) s
      (λ f. connects s.opening refl) (λ f. (tt, omega arith)))
    where
      accepts : (o : Opening) → Owes (owes s) (accepted s o leg.number)
      accepts openings.AwaitsClient = (tt, omega arith)
      accepts openings.AwaitsPacket = (tt, omega arith)
      accepts (openings.WantsServer o) = (tt, omega arith)
      accepts (openings.Announces o) = (tt, omega arith)
      accepts (openings.Announced o) = (tt, omega arith)

      connects : (o : Opening) → s.opening ≡ o → Owes (owes s) (connected s o)
      connects (openings.WantsServer o) e =
          let is = ap (opening_owes s.config) e in (tt, omega (arith, is))
      connects openings.AwaitsClient e = (tt, omega arith)
      connects openings.AwaitsPacket e = (tt, omega arith)
      connects (openings.Announces o) e = (tt, omega arith)
      connects (openings.Announced o) e = (tt, omega arith)

  -- ---- rows

  followed_owes : (s : InProxy) → owes (followed s) ≤ owes s
  followed_owes s = by s.line.has_next s.successor refl
    where
      by : (b : Bool) (z : Successor) → s.successor ≡ z
          → (let now = follows b s.current z in
          owes (record s { current = now.0; successor = now.1 }) ≤ owes s)
      by true z e = let is = ap successor_owes e in omega (arith, is)
      by false successors.Absent e = let is = ap successor_owes e in omega (arith, is)
      by false (successors.Up number) e = let is = ap successor_owes e in omega (arith, is)
      by false (successors.Joined leg stage) e = omega arith

  module _ (s : InProxy) where
    forward_gains : (m : Named) → Gains (one_if (put m)) s (forwarded s m)
    forward_gains m =
        by (waiting.forwarded s.waiting m) (forwarded_waits put leads.acks s.waiting m)
        (refused_waits put leads.acks s.waiting m)
      where
        by : (r : waiting.Waiting × Bool)
            → waits put r.0.due ≤ waits put s.waiting.due + one_if (put m)
            → IsSame put leads.acks s.waiting r → Gains (one_if (put m)) s (forward_by s r)
        by (w, true) more same = (tt, omega (arith, more))
        by (w, false) more same =
            let is = ap (λ (v : waiting.Waiting). waits put v.due) same in
            (tt, omega (arith, is))

    b1_gains : (version lifetime keepalive : ℕ) (connection channel group : Cookie) (number : ℕ)
        → Gains (one_if (came
        (named.ConnB1 version connection channel lifetime keepalive group))) s
        (on_conn_b1 s number connection channel keepalive group)
    b1_gains version lifetime keepalive connection channel group number =
        by_test (Gains _ s) (is_first s number)
        (opened s (opener connection channel (Connects group)) (kept_for keepalive))
        (unexpected s)
        (λ e. let worth = leads.connects version lifetime keepalive s.config.window
        s.config.timeout connection channel group (V4 s.config.address) (replicate 12 0) in
        (tt, omega (arith, worth)))
        (λ e. (tt, omega arith))

    join_gains : (k : ℕ) (o : Opener) (number : ℕ) (connection predecessor channel : Cookie)
        → one_if (put (named.InR2A2 channel)) ≤ k
        → Gains k s (join s o number connection predecessor channel)
    join_gains k o number connection predecessor channel worth =
        by_test (Gains k s) (not (same_cookie o.connection connection))
        (refuse s (refused.Cookie o.connection connection)) _ (λ e. (tt, omega arith))
        (λ e. by_test (Gains k s) (not (same_cookie s.current.cookie predecessor))
        (refuse s (refused.Cookie s.current.cookie predecessor))
        (taken (joined s number channel)) (λ f. (tt, omega arith))
        (λ f. (tt, omega (arith, worth))))

    later_gains : (k : ℕ) (o : Option Opener) (number : ℕ)
        (connection predecessor channel : Cookie) → one_if (put (named.InR2A2 channel)) ≤ k
        → Gains k s (on_later_in_r1_a1 s o number connection predecessor channel)
    later_gains k None number connection predecessor channel worth = (tt, omega arith)
    later_gains k (Some o) number connection predecessor channel worth =
        by_test (Gains k s) (is_newcomer s.successor number)
        (join s o number connection predecessor channel) (unexpected s)
        (λ e. join_gains k o number connection predecessor channel worth)
        (λ e. (tt, omega arith))

    a1_gains : (version : ℕ) (connection predecessor channel : Cookie) (number : ℕ)
        → Gains (one_if (came (named.InR1A1 version connection predecessor channel))) s
        (on_in_r1_a1 s number connection predecessor channel)
    a1_gains version connection predecessor channel number =
        by_test (Gains _ s) (is_first s number)
        (on_first_in_r1_a1 s connection predecessor channel)
        (on_later_in_r1_a1 s (opener_of s.opening) number connection predecessor channel)
        (λ e. let worth = leads.replaces version s.config.window s.config.timeout connection
        predecessor channel in (tt, omega (arith, worth)))
        (λ e. later_gains _ (opener_of s.opening) number connection predecessor channel
        (leads.joins version connection predecessor channel))

    before_owes : (handover : Handover) → has_come handover ≡ false
        → handover_owes handover ≡ base
    before_owes Before e = refl
    before_owes (Came cookie) e = absurd cc
    before_owes Passed e = absurd cc

    handed_gains : (cookie : Cookie) → has_come s.handover ≡ false
        → Gains (one_if (came (named.InR1A5 cookie))) s (handed_over s cookie)
    handed_gains cookie e =
        let worth = leads.leaves cookie in
        let before = before_owes s.handover e in (tt, omega (arith, worth, before))

    finish_gains : (z : Successor) (cookie : Cookie) → hands_over z s.handover ≡ false
        → Gains (one_if (came (named.InR1A5 cookie))) s (finish_by s z cookie)
    finish_gains successors.Absent cookie e = handed_gains cookie e
    finish_gains (successors.Joined leg Told) cookie e =
        by_test (Gains _ s) (same_cookie leg.cookie cookie) (taken (finished s leg))
        (refuse s (refused.Cookie leg.cookie cookie))
        (λ f. let less = followed_owes (record s {
          line = line.after_finish s.line;
          successor = successors.Joined leg Follows;
        }) in (tt, omega (arith, less)))
        (λ f. (tt, omega arith))
    finish_gains (successors.Joined leg Follows) cookie e = (tt, omega arith)
    finish_gains (successors.Joined leg (TellsServer behind)) cookie e = (tt, omega arith)
    finish_gains (successors.Up number) cookie e = (tt, omega arith)

    a5_gains : (which : Which) (cookie : Cookie)
        → Gains (one_if (came (named.InR1A5 cookie))) s (on_in_r1_a5 s which cookie)
    a5_gains which cookie =
        by_test (Gains _ s) (has_a5 s which) (unexpected s) (hand_over s which cookie)
        (λ e. (tt, omega arith)) (λ e. by which e)
      where
        by : (w : Which) → has_a5 s w ≡ false
            → Gains (one_if (came (named.InR1A5 cookie))) s (hand_over s w cookie)
        by Current e = finish_gains s.successor cookie e
        by Next e = handed_gains cookie e

    channel_gains : (which : Which) (m : Named)
        → Gains (one_if (came m)) s (on_channel s which m)
    channel_gains which (named.AckTo to received available channel) =
        by_test (Gains _ s) (not (has_a5 s which) && (to == 3))
        (forwarded s (named.AckTo 3 received available channel)) (unexpected s)
        (λ e. let none = ap one_if (leads.acks 3 received available channel) in
        more_gains _ _ s (forwarded s (named.AckTo 3 received available channel))
        (omega (arith, none)) (forward_gains (named.AckTo 3 received available channel)))
        (λ e. (tt, omega arith))
    channel_gains which (named.OutR1A7 to successor) =
        by_test (Gains _ s) (not (has_a5 s which) && (to == 2))
        (forwarded s (named.OutR1A8 2 successor)) (unexpected s)
        (λ e. more_gains _ _ s (forwarded s (named.OutR1A8 2 successor))
        (leads.passes to successor) (forward_gains (named.OutR1A8 2 successor)))
        (λ e. (tt, omega arith))
    channel_gains which (named.KeepAlive keepalive) =
        same_gains _ s (on_keep_alive s which keepalive) (same_keep_alive s which keepalive)
    channel_gains which named.EndA1 = same_gains _ s (on_end_a1 s which) (same_end s which)
    channel_gains which (named.InR1A5 successor) = a5_gains which successor
    channel_gains which m = (tt, omega arith)

    by_channel_gains : (o : Option Which) (m : Named)
        → Gains (one_if (came m)) s (on_channel_by s o m)
    by_channel_gains None m = (tt, omega arith)
    by_channel_gains (Some which) m = channel_gains which m

    ci_gains : (number : ℕ) (m : Named) → Gains (one_if (came m)) s (on_ci s number m)
    ci_gains number (named.ConnB1 version connection channel lifetime keepalive group) =
        b1_gains version lifetime keepalive connection channel group number
    ci_gains number (named.InR1A1 version connection predecessor channel) =
        a1_gains version connection predecessor channel number
    ci_gains number m = by_channel_gains (channel_of s number) m

    -- what comes from the client counts
    packet_gains : (leg : Leg) (count : Count) (m : Named)
        → Gains (if is_client_leg leg then one_if (came m) else 0) s (packet s leg count m)
    packet_gains leg count m = by (is_client_leg leg)
      where
        by : (t : Bool) → Gains (if t then one_if (came m) else 0) s
            (if t then on_ci s leg.number m
            else (if is_server_leg s leg then on_is s m else unexpected s))
        by true = ci_gains leg.number m
        by false =
            by_test (Gains 0 s) (is_server_leg s leg) (on_is s m) (unexpected s)
            (λ e. same_gains 0 s (on_is s m) (same_is s m)) (λ e. (tt, omega arith))

    -- ---- what is put

    or_spends : (a b : Pick) → Spends s a → Spends s b → Spends s (or_else a b)
    or_spends None b h k = k
    or_spends (Some pick) b h k = h

    first_spends : (o : Opening) → s.opening ≡ o → Spends s (first_by s o)
    first_spends (openings.Announces o) e =
        let is = ap (opening_owes s.config) e in
        let one = one_counts put (announcement s o o.entry) in
        let same = ap (λ (m : Named). one_if (put m)) (is_announced s o o.entry) in
        (tt, omega (arith, is, one, same))
    first_spends openings.AwaitsClient e = tt
    first_spends openings.AwaitsPacket e = tt
    first_spends (openings.WantsServer o) e = tt
    first_spends (openings.Announced o) e = tt

    told_spends : (z : Successor) → s.successor ≡ z → Spends s (told_by s z)
    told_spends successors.Absent e = tt
    told_spends (successors.Up number) e = tt
    told_spends (successors.Joined leg Told) e = tt
    told_spends (successors.Joined leg Follows) e = tt
    told_spends (successors.Joined leg (TellsServer behind)) e =
        by_test (Spends s) (behind == 0) _ None
        (λ f. let is = ap successor_owes e in
        let one = one_counts put (named.InR2A2 leg.cookie) in (tt, omega (arith, is, one)))
        (λ f. tt)

    less_owes : (z : Successor) → successor_owes (one_less z) ≡ successor_owes z
    less_owes successors.Absent = refl
    less_owes (successors.Up number) = refl
    less_owes (successors.Joined leg Told) = refl
    less_owes (successors.Joined leg Follows) = refl
    less_owes (successors.Joined leg (TellsServer behind)) = refl

    waiting_spends : (dues : List Due) → s.waiting.due ≡ dues → Spends s (waiting_by s dues)
    waiting_spends [] e = tt
    waiting_spends (due ∷ dues) e =
        let is = ap (waits put) e in
        let one = one_counts put due.packet in
        let less = less_owes s.successor in (tt, omega (arith, is, one, less))

    ack_spends : (which : Which) (cookie : Cookie) (o : Option Ack)
        → Spends s (ack_by s which cookie o)
    ack_spends which cookie None = tt
    ack_spends which cookie (Some ack) =
        let one = one_counts put (named.AckTo 0 ack.received ack.available cookie) in
        let none = ap one_if (leads.acks 0 ack.received ack.available cookie) in
        (tt, omega (arith, one, none))

    next_ack_spends : (z : Successor) → Spends s (next_ack s z)
    next_ack_spends successors.Absent = tt
    next_ack_spends (successors.Up number) = tt
    next_ack_spends (successors.Joined leg stage) = ack_spends Next leg.cookie (ack_due s Next)

    pdu_spends : (pdus : List (List ℕ)) → Spends s (next_pdu s pdus)
    pdu_spends [] = tt
    pdu_spends (pdu ∷ pdus) =
        by_test (Spends s) (may_send s.window (length pdu)) _ None
        (λ e. let less = followed_owes (record s { line = line.after_take s.line }) in
        (tt, omega (arith, less)))
        (λ e. tt)

    mark_spends : (h : Handover) → s.handover ≡ h → Spends s (mark_by s h)
    mark_spends Before e = tt
    mark_spends (Came cookie) e =
        let is = ap handover_owes e in
        let one = one_counts put (named.InR1A6 cookie) in (tt, omega (arith, is, one))
    mark_spends Passed e = tt

    control_spends : Spends s (put_control s)
    control_spends =
        or_spends (put_early s) (put_acks s)
        (or_spends (put_first s) _ (first_spends s.opening refl)
        (or_spends (put_in_r2_a2 s) (put_waiting s) (told_spends s.successor refl)
        (waiting_spends s.waiting.due refl)))
        (or_spends (current_ack s) (next_ack s s.successor)
        (ack_spends Current s.current.cookie (ack_due s Current)) (next_ack_spends s.successor))

    behind_spends : Spends s (put_behind s)
    behind_spends =
        or_spends (put_mark s) (put_ping s)
        (or_spends (put_end s) (put_in_r1_a6 s)
        (by_test (Spends s)
        (s.line.current.ended && not s.end_put && line.is_empty s.line.current.pdus) _ None
        (λ e. let one = one_counts put named.EndA2 in let none = ap one_if leads.ends in
        (tt, omega (arith, one, none)))
        (λ e. tt))
        (by_test (Spends s) (is_absent s.successor && line.is_empty s.line.current.pdus)
        (mark_by s s.handover) None (λ e. mark_spends s.handover refl) (λ e. tt)))
        (by_test (Spends s) s.ping_due _ None
        (λ e. let one = one_counts put named.Ping in let none = ap one_if leads.pings in
        (tt, omega (arith, one, none)))
        (λ e. tt))

    settled_spends : (pick : Pick) → Spends s pick → Spends s (settled_pick pick)
    settled_spends None h = tt
    settled_spends (Some pick) h =
        let less = h.1 in
        let is = ap owed (same_settled pick.0) in (tt, omega (arith, less, is))

    echo_spends : (number : ℕ) → Spends s (put_echo s number)
    echo_spends number = search rules

    put_spends : (leg : Leg) → Spends s (put_of s leg)
    put_spends leg =
        by_test (Spends s) (is_client_leg leg) (put_echo s leg.number)
        (if is_server_leg s leg then settled_pick (next s) else None)
        (λ e. echo_spends leg.number)
        (λ e. by_test (Spends s) (is_server_leg s leg) (settled_pick (next s)) None
        (λ f. settled_spends (next s)
        (or_spends (put_control s) (put_stream s) control_spends
        (or_spends (put_pdu s) (put_behind s) (pdu_spends s.line.current.pdus)
        behind_spends)))
        (λ f. tt))

  -- ---- the role

  abbrev worth : InProxy → Leg → Named → ℕ
  worth s leg m = if is_client_leg leg then one_if (came m) else 0

  steps : StepsPay proxy_rules (λ s leg. Unit {0}) Known owes worth put
  steps = record {
    up = λ s leg cookie known may. up_owes s leg;
    head = λ s leg text known. same_owes s (head s leg text).0 (same_head s leg text);
    pdu = λ s leg count bytes known.
        same_gains 0 s (pdu s leg count bytes) (same_pdu s leg count bytes);
    packet = λ s leg count m known. packet_gains s leg count m;
    put = λ s leg known. put_spends s leg;
    drawn = λ s leg known. same_owes s (drawn s leg) (same_drawn s leg);
    mark = λ s leg known. same_owes s (mark s leg) (same_mark s leg);
    ping = λ s leg known. same_owes s (ping s leg) (same_ping s leg);
  }

  abbrev counted : List OnLeg → ℕ
  counted log = base + count_of came (of_kind ClientIn log)

  here : (s : InProxy) (log : List OnLeg) (leg : Leg) (m : Named) → Known s
      → counted log + worth s leg m ≤ counted (log ++ (leg, Packet m) ∷ [])
  here s log leg m known =
      by_test (λ (k : ℕ). counted log + k ≤ counted (log ++ (leg, Packet m) ∷ []))
      (is_client_leg leg) (one_if (came m)) 0
      (λ e. let all = kind_here came ClientIn log leg m e in omega (arith, all))
      (λ e. let more = kind_rises came ClientIn log (leg, Packet m) in omega (arith, more))

  rises : (log : List OnLeg) (one : OnLeg) → counted log ≤ counted (log ++ one ∷ [])
  rises log one = let more = kind_rises came ClientIn log one in omega (arith, more)

  -- with what it still owes
  pub in_proxy_owes : (config : InProxyConfig) (moves : List Move) (to : Leg)
      → (let p = all_moved proxy_rules (started (first config)) moves in
      count_of put (of_leg to p.put) + handover_owes p.role.handover
      ≤ base + count_of came (of_kind ClientIn p.came))
  in_proxy_owes config moves to =
      let p = started (first config) in
      let paid = (moves_pay proxy_rules (λ s leg. Unit {0}) Known owes worth put steps to counted
      rises here p moves (any_rise proxy_rules (λ s leg. Unit {0}) (λ s leg. tt) p moves)
      (tt, omega arith)).1 in
      omega (arith, paid)

  pub in_proxy_pays : (config : InProxyConfig) (moves : List Move) (to : Leg)
      → (let p = all_moved proxy_rules (started (first config)) moves in
      count_of put (of_leg to p.put) ≤ base + count_of came (of_kind ClientIn p.came))
  in_proxy_pays config moves to =
      let paid = in_proxy_owes config moves to in omega (arith, paid)
