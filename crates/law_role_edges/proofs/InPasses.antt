-- each step of an in proxy keeps the greatest edge of those that are to be forwarded
use Rattle.law_order.proofs.Vocabulary.{◌≡◌, ℕ, ◌==◌, ◌≤◌, Bool, true, false, ◌&&◌, not, List, [], ◌∷◌, ◌++◌, Some, None, Ok, Err, arith, refl, sym, ◌∙◌, subst, rules, and_parts, eqb-true, if◌then◌else◌, IfSome, Option, nat_tests}
use Rattle.rh_sig.specs.declared.named.Named.TheVariants as named
use Rattle.rh_shell.specs.Waiting.{Key}
use Rattle.rh_shell.specs.Waiting as waits
use Rattle.rh_inproxy.specs.Acknowledging.{forward_by, forwarded, on_ack_to}
use Rattle.rh_inproxy.specs.Ending.{on_end_a1}
use Rattle.rh_inproxy.specs.InReplacement.{on_in_r1_a5}
use Rattle.rh_inproxy.specs.OutReplacement.{on_out_r1_a7}
use Rattle.rh_inproxy.specs.State.{has_a5}
use Rattle.rh_inproxy.specs.Time.{on_keep_alive}
use Rattle.law_moves.proofs.Vocabulary.{by_test, Cookie, TO_OUT_PROXY, Named, Leg, Which, Count, Due, Message, Pdu, Packet, OnLeg, Move, Waiting, all_moved, started}
use Rattle.law_moves.proofs.Lemmas.{PutKeeps, RowKeeps, StepsKeep, moves_keep}
use Rattle.law_moves.specs.Merging.{Raises, greatest, told}
use Rattle.law_role_inproxy.proofs.Vocabulary.{InProxyConfig, Done, Pick, unexpected, InProxy, first, channel_of, is_client_leg, is_server_leg, up, head, drawn, on_conn_b1, is_newest, mark, settled, on_in_r1_a1, next, next_ack, current_ack, or_else, put as put_of, put_acks, put_behind, put_control, put_early, put_echo, put_end, put_first, put_in_r1_a6, put_in_r2_a2, put_mark, put_pdu, put_ping, put_stream, put_waiting, waiting_by, settled_pick, ping, pdu, packet, on_channel, on_channel_by, on_ci, on_is, rules as proxy_rules}
use Rattle.law_role_edges.proofs.Greatest.{Keeps, came_more, greatest_last, kept_more}
use Rattle.law_role_edges.specs.Passing.{PassesOn, told_in}

abbrev Same : InProxy → InProxy → Type 0
Same s t = t.waiting ≡ s.waiting

-- ---- what leaves those that wait alone

same_up : (s : InProxy) (leg : Leg) → Same s (up s leg)
same_up s leg = search rules

same_head : (s : InProxy) (leg : Leg) (text : List ℕ) → Same s (head s leg text).0
same_head s leg text = search rules

same_conn_b1 : (s : InProxy) (n : ℕ) (a b : Cookie) (c : ℕ) (d : Cookie)
    → Same s (on_conn_b1 s n a b c d).0
same_conn_b1 s n a b c d = search rules

same_in_r1_a1 : (s : InProxy) (n : ℕ) (a b c : Cookie) → Same s (on_in_r1_a1 s n a b c).0
same_in_r1_a1 s n a b c = search rules

same_keep_alive : (s : InProxy) (which : Which) (keepalive : ℕ)
    → Same s (on_keep_alive s which keepalive).0
same_keep_alive s which keepalive = search rules

same_end : (s : InProxy) (which : Which) → Same s (on_end_a1 s which).0
same_end s which = search rules

same_a5 : (s : InProxy) (which : Which) (successor : Cookie)
    → Same s (on_in_r1_a5 s which successor).0
same_a5 s which successor = search rules

same_is : (s : InProxy) (m : Named) → Same s (on_is s m).0
same_is s m = search rules

same_pdu : (s : InProxy) (leg : Leg) (count : Count) (bytes : List ℕ)
    → Same s (pdu s leg count bytes).0
same_pdu s leg count bytes = search rules

same_drawn : (s : InProxy) (leg : Leg) → Same s (drawn s leg)
same_drawn s leg = search rules

same_settled : (s : InProxy) → Same s (settled s)
same_settled s = search rules

same_mark : (s : InProxy) (leg : Leg) → Same s (mark s leg)
same_mark s leg =
    same_settled (if is_newest s leg then record s { newest_lost = true } else s)
    ∙ by_test (Same s) (is_newest s leg) _ s (λ e. refl) (λ e. refl)

same_ping : (s : InProxy) (leg : Leg) → Same s (ping s leg)
same_ping s leg = search rules

module _ (raising : (w : Waiting) (packet : Named) (key : Key) → Raises w packet key)
    (key : Key) where
  abbrev Holds : InProxy → List OnLeg → List OnLeg → Type 0
  Holds s came put = Keeps key s.waiting.due came put

  same_holds : (s t : InProxy) (came put : List OnLeg) → Same s t → Holds s came put
      → Holds t came put
  same_holds s t came put same h = subst (λ (w : Waiting). Keeps key w.due came put) (sym same) h

  -- ---- what comes

  -- a row that leaves these alone takes what tells none
  quiet_row : (one : OnLeg) (s : InProxy) (came put : List OnLeg) (x : Done)
      → told_in key one.1 ≡ 0 → Same s x.0 → Holds s came put → RowKeeps Holds one came put x
  quiet_row one s came put (t, Ok taken) none same h =
      came_more key t.waiting.due t.waiting.due came put one (omega arith) (omega (arith, none))
      (same_holds s t came put same h)
  quiet_row one s came put (t, Err why) none same h = same_holds s t came put same h

  -- one that is to be forwarded as another, which tells as much
  forwarded_row : (leg : Leg) (m other : Named) (s : InProxy) (came put : List OnLeg)
      → told key m ≤ told key other → Holds s came put
      → RowKeeps Holds (leg, Packet m) came put (forwarded s other)
  forwarded_row leg m other s came put tells h = by (waits.forwarded s.waiting other) refl
    where
      by : (x : Waiting × Bool) → waits.forwarded s.waiting other ≡ x
          → RowKeeps Holds (leg, Packet m) came put (forward_by s x)
      by (w, true) e =
          let r = raising s.waiting other key in
          let kept = subst (λ (y : Waiting × Bool).
          greatest key s.waiting.due ≤ greatest key y.0.due) e r.kept in
          let reached = subst (λ (y : Waiting × Bool).
          y.1 ≡ true → told key other ≤ greatest key y.0.due) e r.reached refl in
          came_more key s.waiting.due w.due came put (leg, Packet m) kept
          (omega (arith, tells, reached)) h
      by (w, false) e =
          let r = raising s.waiting other key in
          let kept = subst (λ (y : Waiting × Bool).
          greatest key s.waiting.due ≤ greatest key y.0.due) e r.kept in
          kept_more key s.waiting.due w.due came put kept h

  module _ (s : InProxy) (leg : Leg) (came put : List OnLeg) (h : Holds s came put) where
    abbrev Row : Named → Done → Type 0
    Row m x = RowKeeps Holds (leg, Packet m) came put x

    ack_row : (which : Which) (to received available : ℕ) (channel : Cookie)
        → Row (named.AckTo to received available channel)
        (on_ack_to s which to received available channel)
    ack_row which to received available channel =
        by_test (Row (named.AckTo to received available channel))
        (not (has_a5 s which) && (to == TO_OUT_PROXY))
        (forwarded s (named.AckTo TO_OUT_PROXY received available channel)) (unexpected s)
        (λ e. subst (λ (n : ℕ). Row (named.AckTo n received available channel)
        (forwarded s (named.AckTo TO_OUT_PROXY received available channel)))
        (sym (eqb-true to TO_OUT_PROXY
        (and_parts (not (has_a5 s which)) (to == TO_OUT_PROXY) e).1))
        (forwarded_row leg (named.AckTo TO_OUT_PROXY received available channel)
        (named.AckTo TO_OUT_PROXY received available channel) s came put (omega arith) h))
        (λ e. h)

    a7_row : (which : Which) (to : ℕ) (successor : Cookie)
        → Row (named.OutR1A7 to successor) (on_out_r1_a7 s which to successor)
    a7_row which to successor =
        by_test (Row (named.OutR1A7 to successor)) (not (has_a5 s which) && (to == 2)) _
        (unexpected s)
        (λ e. forwarded_row leg (named.OutR1A7 to successor) (named.OutR1A8 2 successor) s came put
        (omega arith) h)
        (λ e. h)

    channel_row : (which : Which) (m : Named) → Row m (on_channel s which m)
    channel_row which (named.AckTo to received available channel) =
        ack_row which to received available channel
    channel_row which (named.OutR1A7 to successor) = a7_row which to successor
    channel_row which (named.KeepAlive keepalive) =
        quiet_row (leg, Packet (named.KeepAlive keepalive)) s came put
        (on_keep_alive s which keepalive) refl (same_keep_alive s which keepalive) h
    channel_row which named.EndA1 =
        quiet_row (leg, Packet named.EndA1) s came put (on_end_a1 s which) refl (same_end s which) h
    channel_row which (named.InR1A5 successor) =
        quiet_row (leg, Packet (named.InR1A5 successor)) s came put
        (on_in_r1_a5 s which successor) refl (same_a5 s which successor) h
    channel_row which m = h

    on_row : (o : Option Which) (m : Named) → Row m (on_channel_by s o m)
    on_row None m = h
    on_row (Some which) m = channel_row which m

    ci_row : (n : ℕ) (m : Named) → Row m (on_ci s n m)
    ci_row n (named.ConnB1 v1 v2 v3 v4 v5 v6) =
        quiet_row (leg, Packet (named.ConnB1 v1 v2 v3 v4 v5 v6)) s came put
        (on_conn_b1 s n v2 v3 v5 v6) refl (same_conn_b1 s n v2 v3 v5 v6) h
    ci_row n (named.InR1A1 v1 v2 v3 v4) =
        quiet_row (leg, Packet (named.InR1A1 v1 v2 v3 v4)) s came put
        (on_in_r1_a1 s n v2 v3 v4) refl (same_in_r1_a1 s n v2 v3 v4) h
    ci_row n m = on_row (channel_of s n) m

    is_row : (m : Named) → Row m (on_is s m)
    is_row (named.ConnB3 size version) =
        quiet_row (leg, Packet (named.ConnB3 size version)) s came put
        (on_is s (named.ConnB3 size version)) refl (same_is s (named.ConnB3 size version)) h
    is_row (named.InR1B2 size) =
        quiet_row (leg, Packet (named.InR1B2 size)) s came put (on_is s (named.InR1B2 size)) refl
        (same_is s (named.InR1B2 size)) h
    is_row named.InR1B1 =
        quiet_row (leg, Packet named.InR1B1) s came put (on_is s named.InR1B1) refl
        (same_is s named.InR1B1) h
    is_row (named.Ack received available channel) =
        quiet_row (leg, Packet (named.Ack received available channel)) s came put
        (on_is s (named.Ack received available channel)) refl
        (same_is s (named.Ack received available channel)) h
    is_row m = h

    packet_row : (count : Count) (m : Named) → Row m (packet s leg count m)
    packet_row count m =
        by_test (Row m) (is_client_leg leg) (on_ci s leg.number m)
        (if is_server_leg s leg then on_is s m else unexpected s) (λ e. ci_row leg.number m)
        (λ e. by_test (Row m) (is_server_leg s leg) (on_is s m) (unexpected s) (λ f. is_row m)
        (λ f. h))

  -- ---- what is put

  or_put : (leg : Leg) (came put : List OnLeg) (a b : Pick) → PutKeeps Holds leg came put a
      → PutKeeps Holds leg came put b → PutKeeps Holds leg came put (or_else a b)
  or_put leg came put None b h k = k
  or_put leg came put (Some pick) b h k = h

  abbrev IsQuiet : InProxy → Pick → Type 0
  IsQuiet s pick = IfSome pick (λ (one : InProxy × Message). Same s one.0)

  module _ (s : InProxy) where
    quiet_first : IsQuiet s (put_first s)
    quiet_first = search rules

    quiet_told : IsQuiet s (put_in_r2_a2 s)
    quiet_told = search rules

    quiet_current : IsQuiet s (current_ack s)
    quiet_current = search rules

    quiet_next : IsQuiet s (next_ack s s.successor)
    quiet_next = search rules

    quiet_front : IsQuiet s (put_pdu s)
    quiet_front = search rules

    quiet_end : IsQuiet s (put_end s)
    quiet_end = search rules

    quiet_handover : IsQuiet s (put_in_r1_a6 s)
    quiet_handover = search rules

    quiet_ping : IsQuiet s (put_ping s)
    quiet_ping = search rules

    quiet_echo : (number : ℕ) → IsQuiet s (put_echo s number)
    quiet_echo number = search rules

  module _ (s : InProxy) (leg : Leg) (came put : List OnLeg) (h : Holds s came put) where
    abbrev Goes : Pick → Type 0
    Goes pick = PutKeeps Holds leg came put pick

    quiet_put : (pick : Pick) → IsQuiet s pick → Goes pick
    quiet_put None quiet = tt
    quiet_put (Some one) quiet =
        let k = same_holds s one.0 came put quiet h in
        let last = greatest_last key put (leg, one.1) in grind (arith, nat_tests, k, last)

    waiting_put : (dues : List Due) → s.waiting.due ≡ dues → Goes (waiting_by s dues)
    waiting_put [] e = tt
    waiting_put (due ∷ dues) e =
        let k = subst (λ (list : List Due). Keeps key list came put) e h in
        let last = greatest_last key put (leg, Packet due.packet) in grind (arith, nat_tests, k, last)

    settled_put : (pick : Pick) → Goes pick → Goes (settled_pick pick)
    settled_put None goes = tt
    settled_put (Some one) goes =
        same_holds one.0 (settled one.0) came (put ++ (leg, one.1) ∷ []) (same_settled one.0) goes

    control_put : Goes (put_control s)
    control_put =
        or_put leg came put (put_early s) (put_acks s)
        (or_put leg came put (put_first s) (or_else (put_in_r2_a2 s) (put_waiting s))
        (quiet_put (put_first s) (quiet_first s))
        (or_put leg came put (put_in_r2_a2 s) (put_waiting s)
        (quiet_put (put_in_r2_a2 s) (quiet_told s)) (waiting_put s.waiting.due refl)))
        (or_put leg came put (current_ack s) (next_ack s s.successor)
        (quiet_put (current_ack s) (quiet_current s))
        (quiet_put (next_ack s s.successor) (quiet_next s)))

    stream_put : Goes (put_stream s)
    stream_put =
        or_put leg came put (put_pdu s) (put_behind s) (quiet_put (put_pdu s) (quiet_front s))
        (or_put leg came put (put_mark s) (put_ping s)
        (or_put leg came put (put_end s) (put_in_r1_a6 s) (quiet_put (put_end s) (quiet_end s))
        (quiet_put (put_in_r1_a6 s) (quiet_handover s)))
        (quiet_put (put_ping s) (quiet_ping s)))

    puts : Goes (put_of s leg)
    puts =
        by_test Goes (is_client_leg leg) (put_echo s leg.number)
        (if is_server_leg s leg then settled_pick (next s) else None)
        (λ e. quiet_put (put_echo s leg.number) (quiet_echo s leg.number))
        (λ e. by_test Goes (is_server_leg s leg) (settled_pick (next s)) None
        (λ f. settled_put (next s)
        (or_put leg came put (put_control s) (put_stream s) control_put stream_put)) (λ f. tt))

  -- ---- all moves

  keeps : StepsKeep proxy_rules Holds
  keeps = record {
    up = λ s leg cookie came put. same_holds s (up s leg) came put (same_up s leg);
    head = λ s leg text came put. same_holds s (head s leg text).0 came put (same_head s leg text);
    pdu = λ s leg count bytes came put.
        quiet_row (leg, Pdu bytes) s came put (pdu s leg count bytes) refl
        (same_pdu s leg count bytes);
    packet = λ s leg count m came put h. packet_row s leg came put h count m;
    put = λ s leg came put h. puts s leg came put h;
    drawn = λ s leg came put. same_holds s (drawn s leg) came put (same_drawn s leg);
    mark = λ s leg came put. same_holds s (mark s leg) came put (same_mark s leg);
    ping = λ s leg came put. same_holds s (ping s leg) came put (same_ping s leg);
  }

pub in_passes : ((w : Waiting) (packet : Named) (key : Key) → Raises w packet key)
    → (config : InProxyConfig) (moves : List Move) (key : Key)
    → PassesOn key (all_moved proxy_rules (started (first config)) moves)
in_passes raising config moves key =
    moves_keep proxy_rules (Holds raising key) (keeps raising key) (started (first config)) moves
    (omega arith)
