-- each step of an out proxy keeps what it knows of its client's window
use Rattle.law_order.proofs.Vocabulary.{◌≡◌, ℕ, ◌==◌, ◌≤◌, ◌+◌, Bool, true, false, true≢false, ◌&&◌, List, [], ◌∷◌, ◌++◌, Some, None, Ok, Err, arith, refl, sym, ap, ◌∙◌, subst, rules, if◌then◌else◌, AllByRecursion, IfSome, Option, Result}
use Rattle.rh_sig.specs.declared.named.Named.TheVariants as named
use Rattle.rh_shell.specs.declared.answers.Refused.TheVariants as refused
use Rattle.rh_outproxy.specs.declared.state.Channel.TheVariants as channels
use Rattle.rh_outproxy.specs.Acknowledging as acks
use Rattle.law_moves.proofs.Vocabulary.{Sender, unsent, after_acked, ack_verdict, BadAck, by_test, Cookie, TO_OUT_PROXY, Named, Leg, Count, Pdu, Packet, OnLeg, Move, Passage, started, moved, all_moved, of_leg, count_of, one_if}
use Rattle.law_moves.proofs.Lemmas.{RowKeeps, PutKeeps, StepsKeep, leg_here, leg_is, leg_rises, moves_keep}
use Rattle.law_role_outproxy.proofs.Vocabulary.{Channel, OutProxyConfig, OutProxy, is_known, joined, new_proxy, Done, is_co, is_os, is_first, same_cookie, unexpected, refuse, forwarded, passed_on, up, head, told_length, new_length, successor_length, on_out_r2_c1, conn_c1_by, acked, on_ack, on_ack_to, ack_row, on_out_r1_a9, drawn, mark, on_end_b1, Pick}
use Rattle.law_role_outproxy.proofs.Vocabulary.{put as put_of, pdu, packet, on_co, on_os, rules as proxy_rules, opens}
use Rattle.law_role_outproxy.specs.Sending.{co_leg, os_leg}
use Rattle.law_role_edges.proofs.Knowing.{acked_known, acked_rises, known_then, refused_same, within_more}
use Rattle.law_role_edges.proofs.OutKept.{IsEdgeKept, put_kept}
use Rattle.law_role_edges.specs.OutProxies.{IsKnown, KnowsClient, edge_for_proxy}

-- what the facts are about
pub record Seen : Type 0 where
  pub config : OutProxyConfig
  pub channel : Channel
  pub window : Sender

abbrev pub seen : OutProxy → Seen
seen s = record { config = s.config; channel = s.channel; window = s.window }

abbrev pub Same : OutProxy → OutProxy → Type 0
Same s t = seen t ≡ seen s

known_high : (low high : ℕ) → low ≤ high → (one : OnLeg) → IsKnown low one → IsKnown high one
known_high low high more one is = within_more edge_for_proxy low high one.1 more is

-- ---- what leaves these alone

same_up : (s : OutProxy) (leg : Leg) (cookie : Cookie) → Same s (up s leg cookie)
same_up s leg cookie = search rules

same_head : (s : OutProxy) (leg : Leg) (text : List ℕ) → Same s (head s leg text).0
same_head s leg text = search rules

same_pdu : (s : OutProxy) (leg : Leg) (count : Count) (bytes : List ℕ)
    → Same s (pdu s leg count bytes).0
same_pdu s leg count bytes = search rules

same_c1 : (s : OutProxy) (count : Count) → Same s (on_out_r2_c1 s count).0
same_c1 s count = search rules

same_forwarded : (s : OutProxy) (m : Named) → Same s (forwarded s m).0
same_forwarded s m = search rules

same_passed : (s : OutProxy) (to : ℕ) (m : Named) → Same s (passed_on s to m).0
same_passed s to m = search rules

same_a9 : (s : OutProxy) → Same s (on_out_r1_a9 s).0
same_a9 s = search rules

same_end : (s : OutProxy) → Same s (on_end_b1 s).0
same_end s = search rules

same_drawn : (s : OutProxy) (leg : Leg) → Same s (drawn s leg)
same_drawn s leg = search rules

same_mark : (s : OutProxy) (leg : Leg) → Same s (mark s leg)
same_mark s leg = search rules

-- a proxy that joined a channel knows it
joined_known : (c : Channel) → IfSome (joined c) (λ (cookie : Cookie). is_known c ≡ true)
joined_known channels.Unknown = tt
joined_known (channels.New connection cookie) = tt
joined_known (channels.Joined connection cookie) = refl
joined_known (channels.Successor connection predecessor cookie) = refl

module _ (config : OutProxyConfig) where
  abbrev pub co : Leg
  co = co_leg config.number

  abbrev pub os : Leg
  os = os_leg config.number

  abbrev pub opened_by : List OnLeg → ℕ
  opened_by came = count_of opens (of_leg co came)

  -- where no packet opened the channel none told anything, and the proxy knows of no channel
  pub record Knows (x : Seen) (came : List OnLeg) : Type 0 where
    pub is : x.config ≡ config
    pub known : opened_by came ≤ 1 → AllByRecursion (IsKnown x.window.edge) came
    pub none : opened_by came ≡ 0 → (is_known x.channel ≡ false) × AllByRecursion (IsKnown 0) came

  abbrev pub Holds : OutProxy → List OnLeg → List OnLeg → Type 0
  Holds s came put = Knows (seen s) came

  same_holds : (s t : OutProxy) (came put : List OnLeg) → Same s t → Holds s came put
      → Holds t came put
  same_holds s t came put same h = subst (λ (x : Seen). Knows x came) (sym same) h

  pub is_client : (s : OutProxy) (leg : Leg) → s.config ≡ config → is_co s leg ≡ true → co ≡ leg
  is_client s leg is e =
      ap (λ (c : OutProxyConfig). co_leg c.number) (sym is) ∙ leg_is (co_leg s.config.number) leg e

  -- ---- what comes

  -- what tells nothing
  came_one : (x : Seen) (came : List OnLeg) (one : OnLeg) → IsKnown 0 one → Knows x came
      → Knows x (came ++ one ∷ [])
  came_one x came one tells h =
      let rise = leg_rises opens co came one in record {
        is = h.is;
        known = λ once.
            known_then (IsKnown x.window.edge) (IsKnown x.window.edge) came one (λ other is. is)
            (h.known (omega (arith, rise, once)))
            (known_high 0 x.window.edge (omega arith) one tells);
        none = λ no.
            let before = h.none (omega (arith, rise, no)) in
            (before.0, known_then (IsKnown 0) (IsKnown 0) came one (λ other is. is) before.1 tells);
      }

  -- a packet that opens the channel
  opened_one : (x : Seen) (came : List OnLeg) (m : Named) (channel : Channel) (size : ℕ)
      → opens m ≡ true → edge_for_proxy m ≡ size → Knows x came
      → Knows (record { config = x.config; channel = channel; window = unsent size })
      (came ++ (co, Packet m) ∷ [])
  opened_one x came m channel size opening tells h =
      let all = leg_here opens co came m in
      let one : one_if (opens m) ≡ 1 = ap one_if opening in record {
        is = h.is;
        known = λ once.
            known_then (IsKnown 0) (IsKnown size) came (co, Packet m)
            (known_high 0 size (omega arith)) (h.none (omega (arith, all, one, once))).1
            (omega (arith, tells));
        none = λ no. absurd (omega (arith, all, one, no));
      }

  -- an acknowledgement of the channel that is known
  acked_one : (x : Seen) (came : List OnLeg) (leg : Leg) (to received available : ℕ)
      (cookie : Cookie) → is_known x.channel ≡ true
      → ack_verdict x.window received available ≡ Ok tt → Knows x came
      → Knows (record {
        config = x.config;
        channel = x.channel;
        window = after_acked x.window received available;
      }) (came ++ (leg, Packet (named.AckTo to received available cookie)) ∷ [])
  acked_one x came leg to received available cookie knows fine h =
      let one : OnLeg = (leg, Packet (named.AckTo to received available cookie)) in
      let rise = leg_rises opens co came one in record {
        is = h.is;
        known = λ once.
            known_then (IsKnown x.window.edge) (IsKnown edge) came one
            (known_high x.window.edge edge (acked_rises x.window received available))
            (h.known (omega (arith, rise, once)))
            (by_test (λ (n : ℕ). n ≤ edge) (to == TO_OUT_PROXY) (received + available) 0
            (λ e. acked_known x.window received available fine) (λ e. omega arith));
        none = λ no.
            absurd (true≢false (sym knows ∙ (h.none (omega (arith, rise, no))).0));
      }
    where
      edge : ℕ
      edge = (after_acked x.window received available).edge

  -- a row that leaves these alone takes what tells nothing
  same_row : (one : OnLeg) (s : OutProxy) (came put : List OnLeg) → Holds s came put → (x : Done)
      → IsKnown 0 one → Same s x.0 → RowKeeps Holds one came put x
  same_row one s came put h (t, Ok taken) tells same =
      came_one (seen t) came one tells (same_holds s t came put same h)
  same_row one s came put h (t, Err why) tells same = same_holds s t came put same h

  module _ (s : OutProxy) (leg : Leg) (came put : List OnLeg) (h : Holds s came put) where
    abbrev Row : Leg → Named → Done → Type 0
    Row on m x = RowKeeps Holds (on, Packet m) came put x

    passed_row : (m : Named) (to : ℕ) (other : Named) → edge_for_proxy m ≤ 0
        → Row leg m (passed_on s to other)
    passed_row m to other tells =
        same_row (leg, Packet m) s came put h (passed_on s to other) tells
        (same_passed s to other)

    -- ---- on the client's leg

    co_row : (count : Count) (m : Named) → Row co m (on_co s count m)
    co_row count (named.ConnA1 version connection cookie size) =
        by_test (Row co (named.ConnA1 version connection cookie size))
        (is_first count && told_length s.request new_length) _ (unexpected s)
        (λ e. opened_one (seen s) came (named.ConnA1 version connection cookie size)
        (channels.New connection cookie) size refl refl h)
        (λ e. h)
    co_row count (named.OutR1A3 version connection predecessor cookie size) =
        by_test (Row co (named.OutR1A3 version connection predecessor cookie size))
        (is_first count && told_length s.request successor_length) _ (unexpected s)
        (λ e. opened_one (seen s) came
        (named.OutR1A3 version connection predecessor cookie size)
        (channels.Successor connection predecessor cookie) size refl refl h)
        (λ e. h)
    co_row count named.OutR2C1 =
        same_row (co, Packet named.OutR2C1) s came put h (on_out_r2_c1 s count) (omega arith)
        (same_c1 s count)
    co_row count m = h

    -- ---- on the server's leg

    c1_row : (version size timeout : ℕ) (c : Channel) → s.channel ≡ c
        → Row leg (named.ConnC1 version size timeout) (conn_c1_by c s version size timeout)
    c1_row version size timeout channels.Unknown e = h
    c1_row version size timeout (channels.New connection cookie) e =
        same_row (leg, Packet (named.ConnC1 version size timeout)) t came put k
        (forwarded t (named.ConnC2 version size timeout)) (omega arith)
        (same_forwarded t (named.ConnC2 version size timeout))
      where
        t : OutProxy
        t = record s { channel = channels.Joined connection cookie }

        k : Holds t came put
        k = record {
          is = h.is;
          known = h.known;
          none = λ no. absurd (true≢false (sym (ap is_known e) ∙ (h.none no).0));
        }
    c1_row version size timeout (channels.Joined connection cookie) e = h
    c1_row version size timeout (channels.Successor connection predecessor cookie) e = h

    acked_row : (to received available : ℕ) (cookie : Cookie) → is_known s.channel ≡ true
        → Row leg (named.AckTo to received available cookie) (acked s received available)
    acked_row to received available cookie known =
        by (ack_verdict s.window received available) refl
      where
        by : (v : Result (Unit {0}) BadAck) → ack_verdict s.window received available ≡ v
            → Row leg (named.AckTo to received available cookie)
            (record s { window = after_acked s.window received available }, ack_row v)
        by (Ok applied) e =
            acked_one (seen s) came leg to received available cookie known e h
        by (Err bad) e =
            subst (λ (w : Sender).
            Knows (record { config = s.config; channel = s.channel; window = w }) came)
            (sym (refused_same s.window received available bad e)) h

    -- of the channel that the proxy joined
    ack_row_by : (o : Option Cookie) → IfSome o (λ (cookie : Cookie). is_known s.channel ≡ true)
        → (to received available : ℕ) (other : Cookie)
        → Row leg (named.AckTo to received available other)
        (acks.ack_by o s received available other)
    ack_row_by None known to received available other = h
    ack_row_by (Some cookie) known to received available other =
        by_test (Row leg (named.AckTo to received available other))
        (same_cookie cookie other) (acked s received available)
        (refuse s (refused.Cookie cookie other))
        (λ e. acked_row to received available other known) (λ e. h)

    ack_to_row : (to received available : ℕ) (cookie : Cookie)
        → Row leg (named.AckTo to received available cookie)
        (on_ack_to s to received available cookie)
    ack_to_row to received available cookie =
        by (to == TO_OUT_PROXY) refl
      where
        one : Named
        one = named.AckTo to received available cookie

        other : Named
        other = named.AckTo 0 received available cookie

        by : (b : Bool) → (to == TO_OUT_PROXY) ≡ b
            → Row leg one (if b then on_ack s received available cookie else passed_on s to other)
        by true e =
            ack_row_by (joined s.channel) (joined_known s.channel) to received available cookie
        by false e =
            passed_row one to other
            (subst (λ (t : Bool). (if t then received + available else 0) ≤ 0) (sym e)
            (omega arith))

    os_row : (m : Named) → Row leg m (on_os s m)
    os_row (named.ConnC1 version size timeout) = c1_row version size timeout s.channel refl
    os_row (named.AckTo to received available cookie) = ack_to_row to received available cookie
    os_row (named.InR1A3 to version size timeout) =
        passed_row (named.InR1A3 to version size timeout) to (named.InR1A4 0 version size timeout)
        (omega arith)
    os_row (named.InR2A3 to) = passed_row (named.InR2A3 to) to (named.InR2A4 0) (omega arith)
    os_row (named.OutR1A1 to) = passed_row (named.OutR1A1 to) to (named.OutR1A2 0) (omega arith)
    os_row (named.OutR1A5 to version timeout) =
        passed_row (named.OutR1A5 to version timeout) to (named.OutR1A6 0 version timeout)
        (omega arith)
    os_row named.OutR1A9 =
        same_row (leg, Packet named.OutR1A9) s came put h (on_out_r1_a9 s) (omega arith)
        (same_a9 s)
    os_row named.EndB1 =
        same_row (leg, Packet named.EndB1) s came put h (on_end_b1 s) (omega arith) (same_end s)
    os_row m = h

    packet_row : (count : Count) (m : Named) → Row leg m (packet s leg count m)
    packet_row count m =
        by_test (Row leg m) (is_co s leg) (on_co s count m)
        (if is_os s leg then on_os s m else unexpected s)
        (λ e. subst (λ (l : Leg). Row l m (on_co s count m)) (is_client s leg h.is e)
        (co_row count m))
        (λ e. by_test (Row leg m) (is_os s leg) (on_os s m) (unexpected s) (λ f. os_row m)
        (λ f. h))

  -- ---- what is put

  put_row : (s : OutProxy) (leg : Leg) (came put : List OnLeg) → Holds s came put
      → PutKeeps Holds leg came put (put_of s leg)
  put_row s leg came put h = by (put_of s leg) (put_kept s leg)
    where
      by : (pick : Pick) → IsEdgeKept s pick → PutKeeps Holds leg came put pick
      by None same = tt
      by (Some one) same = record {
        is = same.0 ∙ h.is;
        known = λ once.
            subst (λ (edge : ℕ). AllByRecursion (IsKnown edge) came) (sym same.2)
            (h.known once);
        none = λ no. (ap is_known same.1 ∙ (h.none no).0, (h.none no).1);
      }

  -- ---- the role

  pub keeps : StepsKeep proxy_rules Holds
  keeps = record {
    up = λ s leg cookie came put.
        same_holds s (up s leg cookie) came put (same_up s leg cookie);
    head = λ s leg text came put. same_holds s (head s leg text).0 came put (same_head s leg text);
    pdu = λ s leg count bytes came put h.
        same_row (leg, Pdu bytes) s came put h (pdu s leg count bytes) tt
        (same_pdu s leg count bytes);
    packet = λ s leg count m came put h. packet_row s leg came put h count m;
    put = λ s leg came put h. put_row s leg came put h;
    drawn = λ s leg came put. same_holds s (drawn s leg) came put (same_drawn s leg);
    mark = λ s leg came put. same_holds s (mark s leg) came put (same_mark s leg);
    ping = λ s leg came put h. h;
  }

-- ---- beside other facts

pub knows_always : (config : OutProxyConfig) (p : Passage OutProxy) (move : Move)
    → Holds config p.role p.came p.put
    → Holds config (moved proxy_rules p move).role (moved proxy_rules p move).came
    (moved proxy_rules p move).put
knows_always config p move h = moves_keep proxy_rules (Holds config) (keeps config) p (move ∷ []) h

pub knows_first : (config : OutProxyConfig) → Holds config (new_proxy config) [] []
knows_first config = record { is = refl; known = λ once. tt; none = λ no. (refl, tt) }

-- ---- the law

pub out_knows : (config : OutProxyConfig) (moves : List Move)
    → (let p = all_moved proxy_rules (started (new_proxy config)) moves in
    KnowsClient config.number p.role p.came)
out_knows config moves =
    (moves_keep proxy_rules (Holds config) (keeps config) (started (new_proxy config)) moves
    (knows_first config)).known
