-- an in proxy opens once: to its client, and to the server
use Rattle.law_order.proofs.Vocabulary.{◌≡◌, ℕ, ◌+◌, ◌≤◌, ◌==◌, ◌&&◌, true, not, if◌then◌else◌, List, [], ◌∷◌, Some, None, Ok, Err, refl, ap, ◌∙◌, arith, rules, and_parts, IfSome, Option}
use Rattle.rh_sig.specs.declared.named.Named.TheVariants as named
use Rattle.rh_inproxy.specs.declared.state.Opening.TheVariants as openings
use Rattle.rh_inproxy.specs.declared.state.Successor.TheVariants as successors
use Rattle.law_moves.proofs.Vocabulary.{Ack, by_test, Cookie, Named, Leg, ClientIn, Which, Current, Next, Count, Message, Pdu, Packet, one_if, Due, OnLeg, Move, started, all_moved, of_leg, count_of, of_kind, is_conn_b1, opens_server}
use Rattle.law_moves.proofs.Lemmas.{RowKeeps, PutKeeps, StepsKeep, moves_keep, leg_at_most, kind_at_most}
use Rattle.law_role_inproxy.proofs.Vocabulary.{Edge, InProxyConfig, Opener, Opening, Done, Pick, or_else, unexpected, InProxy, first, channel_of, has_opened, is_client_leg, is_server_leg, up, may_accept, accepted, wants, connected, head, drawn, is_unknown, is_first, awaits_packet, is_connection, is_replacement, opener_of, on_conn_b1, with_edge, on_ack, on_ack_to, is_newest, mark, on_end_a1, settled, on_out_r1_a7, on_in_r1_a1, on_in_r1_a5, on_later_in_r1_a1, on_in_r1_b1}
use Rattle.law_role_inproxy.proofs.Vocabulary.{Successor, first_by, put_first, put_echo, ack_due, ack_by, current_ack, next_ack, put_acks, put_end, settled_pick, told_by, put_in_r2_a2, put_in_r1_a6, next_pdu, put_pdu, put_ping, put as put_of, next, waiting_by, put_waiting, put_control, put_early, put_stream, put_behind, put_mark, ping, on_keep_alive, pdu, packet, on_channel, on_channel_by, on_ci, on_is, rules as proxy_rules, is_leg}

-- what the facts are about
record Seen : Type 0 where
  opening : Opening
  edge : Edge

abbrev seen : InProxy → Seen
seen s = record { opening = s.opening; edge = s.edge }

abbrev Same : InProxy → InProxy → Type 0
Same s t = seen t ≡ seen s

-- ---- what leaves these alone

same_head : (s : InProxy) (leg : Leg) (text : List ℕ) → Same s (head s leg text).0
same_head s leg text = search rules

same_pdu : (s : InProxy) (leg : Leg) (count : Count) (bytes : List ℕ)
    → Same s (pdu s leg count bytes).0
same_pdu s leg count bytes = search rules

same_ack_to : (s : InProxy) (which : Which) (to received available : ℕ) (channel : Cookie)
    → Same s (on_ack_to s which to received available channel).0
same_ack_to s which to received available channel = search rules

same_a7 : (s : InProxy) (which : Which) (to : ℕ) (successor : Cookie)
    → Same s (on_out_r1_a7 s which to successor).0
same_a7 s which to successor = search rules

same_keep_alive : (s : InProxy) (which : Which) (keepalive : ℕ)
    → Same s (on_keep_alive s which keepalive).0
same_keep_alive s which keepalive = search rules

same_end : (s : InProxy) (which : Which) → Same s (on_end_a1 s which).0
same_end s which = search rules

same_a5 : (s : InProxy) (which : Which) (successor : Cookie)
    → Same s (on_in_r1_a5 s which successor).0
same_a5 s which successor = search rules

same_later : (s : InProxy) (o : Option Opener) (number : ℕ) (a b c : Cookie)
    → Same s (on_later_in_r1_a1 s o number a b c).0
same_later s o number a b c = search rules

same_b1 : (s : InProxy) → Same s (on_in_r1_b1 s).0
same_b1 s = search rules

same_ack : (s : InProxy) (received available : ℕ) (channel : Cookie)
    → Same s (on_ack s received available channel).0
same_ack s received available channel = search rules

same_drawn : (s : InProxy) (leg : Leg) → Same s (drawn s leg)
same_drawn s leg = search rules

same_settled : (s : InProxy) → Same s (settled s)
same_settled s = search rules

same_mark : (s : InProxy) (leg : Leg) → Same s (mark s leg)
same_mark s leg =
    same_settled (if is_newest s leg then record s { newest_lost = true } else s)
    ∙ by_test (Same s) (is_newest s leg) _ s (λ e. refl) (λ e. refl)

same_ping : (s : InProxy) (leg : Leg) → Same s (ping s leg)
same_ping s leg = search rules

-- ---- what may still come

-- the first packet of the client, and the window of the server
abbrev first_left : Opening → ℕ
first_left opening = one_if (not (has_opened opening))

abbrev window_left : Edge → ℕ
window_left edge = one_if (is_unknown edge)

abbrev Keeps : InProxy → InProxy → Type 0
Keeps s t =
    (first_left t.opening ≤ first_left s.opening) × (window_left t.edge ≤ window_left s.edge)

abbrev Uses : Message → InProxy → Done → Type 0
Uses m s (t, Ok taken) =
    (first_left t.opening + count_of is_conn_b1 (m ∷ []) ≤ first_left s.opening)
    × (window_left t.edge + count_of opens_server (m ∷ []) ≤ window_left s.edge)
Uses m s (t, Err why) = Keeps s t

same_keeps : (s t : InProxy) → Same s t → Keeps s t
same_keeps s t same =
    let first = ap (λ (x : Seen). first_left x.opening) same in
    let window = ap (λ (x : Seen). window_left x.edge) same in
    (omega (arith, first), omega (arith, window))

-- a row that leaves them alone takes another packet
same_uses : (m : Message) (s : InProxy) (x : Done) → count_of is_conn_b1 (m ∷ []) ≡ 0
    → count_of opens_server (m ∷ []) ≡ 0 → Same s x.0 → Uses m s x
same_uses m s (t, Err why) a b same = same_keeps s t same
same_uses m s (t, Ok taken) a b same =
    let first = ap (λ (x : Seen). first_left x.opening) same in
    let window = ap (λ (x : Seen). window_left x.edge) same in
    (omega (arith, a, first), omega (arith, b, window))

awaits_first : (o : Opening) → awaits_packet o ≡ true → first_left o ≡ 1
awaits_first openings.AwaitsPacket e = refl
awaits_first openings.AwaitsClient e = absurd cc
awaits_first (openings.WantsServer o) e = absurd cc
awaits_first (openings.Announces o) e = absurd cc
awaits_first (openings.Announced o) e = absurd cc

up_keeps : (s : InProxy) (leg : Leg) → Keeps s (up s leg)
up_keeps s leg =
    by_test (Keeps s) (may_accept s leg) (accepted s s.opening leg.number)
    (if wants s leg then connected s s.opening else s) (λ e. accepts s.opening refl)
    (λ e. by_test (Keeps s) (wants s leg) (connected s s.opening) s (λ f. connects s.opening)
    (λ f. (omega arith, omega arith)))
  where
    accepts : (o : Opening) → s.opening ≡ o → Keeps s (accepted s o leg.number)
    accepts openings.AwaitsClient e =
        let is = ap first_left e in (omega (arith, is), omega arith)
    accepts openings.AwaitsPacket e = (omega arith, omega arith)
    accepts (openings.WantsServer o) e = (omega arith, omega arith)
    accepts (openings.Announces o) e = (omega arith, omega arith)
    accepts (openings.Announced o) e = (omega arith, omega arith)

    connects : (o : Opening) → Keeps s (connected s o)
    connects openings.AwaitsClient = (omega arith, omega arith)
    connects openings.AwaitsPacket = (omega arith, omega arith)
    connects (openings.WantsServer o) = (omega arith, omega arith)
    connects (openings.Announces o) = (omega arith, omega arith)
    connects (openings.Announced o) = (omega arith, omega arith)

-- ---- rows

module _ (s : InProxy) where
  b1_uses : (m : Named) (number : ℕ) (connection channel : Cookie) (keepalive : ℕ)
      (group : Cookie) → count_of is_conn_b1 (Packet m ∷ []) ≡ 1
      → count_of opens_server (Packet m ∷ []) ≡ 0
      → Uses (Packet m) s (on_conn_b1 s number connection channel keepalive group)
  b1_uses m number connection channel keepalive group a b =
      by_test (Uses (Packet m) s) (is_first s number) _ (unexpected s)
      (λ e.
      let left = awaits_first s.opening
      (and_parts (awaits_packet s.opening) (s.current.number == number) e).0 in
      (omega (arith, a, left), omega (arith, b)))
      (λ e. (omega arith, omega arith))

  a1_uses : (m : Named) (number : ℕ) (connection predecessor channel : Cookie)
      → count_of is_conn_b1 (Packet m ∷ []) ≡ 0 → count_of opens_server (Packet m ∷ []) ≡ 0
      → Uses (Packet m) s (on_in_r1_a1 s number connection predecessor channel)
  a1_uses m number connection predecessor channel a b =
      by_test (Uses (Packet m) s) (is_first s number) _
      (on_later_in_r1_a1 s (opener_of s.opening) number connection predecessor channel)
      (λ e. (omega (arith, a), omega (arith, b)))
      (λ e. same_uses (Packet m) s
      (on_later_in_r1_a1 s (opener_of s.opening) number connection predecessor channel) a b
      (same_later s (opener_of s.opening) number connection predecessor channel))

  channel_uses : (which : Which) (m : Named) → Uses (Packet m) s (on_channel s which m)
  channel_uses which (named.AckTo to received available channel) =
      same_uses (Packet (named.AckTo to received available channel)) s
      (on_ack_to s which to received available channel) refl refl
      (same_ack_to s which to received available channel)
  channel_uses which (named.OutR1A7 to successor) =
      same_uses (Packet (named.OutR1A7 to successor)) s (on_out_r1_a7 s which to successor) refl
      refl (same_a7 s which to successor)
  channel_uses which (named.KeepAlive keepalive) =
      same_uses (Packet (named.KeepAlive keepalive)) s (on_keep_alive s which keepalive) refl refl
      (same_keep_alive s which keepalive)
  channel_uses which named.EndA1 =
      same_uses (Packet named.EndA1) s (on_end_a1 s which) refl refl (same_end s which)
  channel_uses which (named.InR1A5 successor) =
      same_uses (Packet (named.InR1A5 successor)) s (on_in_r1_a5 s which successor) refl refl
      (same_a5 s which successor)
  channel_uses which m = (omega arith, omega arith)

  by_channel_uses : (o : Option Which) (m : Named)
      → Uses (Packet m) s (on_channel_by s o m)
  by_channel_uses None m = (omega arith, omega arith)
  by_channel_uses (Some which) m = channel_uses which m

  ci_uses : (number : ℕ) (m : Named) → Uses (Packet m) s (on_ci s number m)
  ci_uses number (named.ConnB1 version connection channel lifetime keepalive group) =
      b1_uses (named.ConnB1 version connection channel lifetime keepalive group) number connection
      channel keepalive group refl refl
  ci_uses number (named.InR1A1 version connection predecessor channel) =
      a1_uses (named.InR1A1 version connection predecessor channel) number connection predecessor
      channel refl refl
  ci_uses number m = by_channel_uses (channel_of s number) m

  edge_uses : (m : Named) (size : ℕ) → is_unknown s.edge ≡ true
      → count_of is_conn_b1 (Packet m ∷ []) ≡ 0 → count_of opens_server (Packet m ∷ []) ≡ 1
      → Uses (Packet m) s (with_edge s size)
  edge_uses m size e a b =
      let left = ap one_if e in (omega (arith, a), omega (arith, b, left))

  is_uses : (m : Named) → Uses (Packet m) s (on_is s m)
  is_uses (named.ConnB3 size version) =
      by_test (Uses (Packet (named.ConnB3 size version)) s)
      (is_connection (opener_of s.opening) && is_unknown s.edge) (with_edge s size) (unexpected s)
      (λ e. edge_uses (named.ConnB3 size version) size
      (and_parts (is_connection (opener_of s.opening)) (is_unknown s.edge) e).1 refl refl)
      (λ e. (omega arith, omega arith))
  is_uses (named.InR1B2 size) =
      by_test (Uses (Packet (named.InR1B2 size)) s)
      (is_replacement (opener_of s.opening) && is_unknown s.edge) (with_edge s size) (unexpected s)
      (λ e. edge_uses (named.InR1B2 size) size
      (and_parts (is_replacement (opener_of s.opening)) (is_unknown s.edge) e).1 refl refl)
      (λ e. (omega arith, omega arith))
  is_uses named.InR1B1 =
      same_uses (Packet named.InR1B1) s (on_in_r1_b1 s) refl refl (same_b1 s)
  is_uses (named.Ack received available channel) =
      same_uses (Packet (named.Ack received available channel)) s
      (on_ack s received available channel) refl refl (same_ack s received available channel)
  is_uses m = (omega arith, omega arith)

  packet_uses : (leg : Leg) (count : Count) (m : Named)
      → Uses (Packet m) s (packet s leg count m)
  packet_uses leg count m =
      by_test (Uses (Packet m) s) (is_client_leg leg) (on_ci s leg.number m)
      (if is_server_leg s leg then on_is s m else unexpected s) (λ e. ci_uses leg.number m)
      (λ e. by_test (Uses (Packet m) s) (is_server_leg s leg) (on_is s m) (unexpected s)
      (λ f. is_uses m) (λ f. (omega arith, omega arith)))

  -- ---- puts

  abbrev Puts : Pick → Type 0
  Puts pick = IfSome pick (λ (one : InProxy × Message). Keeps s one.0)

  abbrev Quiet : Pick → Type 0
  Quiet pick = IfSome pick (λ (one : InProxy × Message). Same s one.0)

  quiet_puts : (pick : Pick) → Quiet pick → Puts pick
  quiet_puts None h = tt
  quiet_puts (Some one) h = same_keeps s one.0 h

  or_puts : (a b : Pick) → Puts a → Puts b → Puts (or_else a b)
  or_puts None b h k = k
  or_puts (Some pick) b h k = h

  settled_puts : (pick : Pick) → Puts pick → Puts (settled_pick pick)
  settled_puts None h = tt
  settled_puts (Some pick) h =
      let first = ap (λ (x : Seen). first_left x.opening) (same_settled pick.0) in
      let window = ap (λ (x : Seen). window_left x.edge) (same_settled pick.0) in
      let a = h.0 in let b = h.1 in (omega (arith, first, a), omega (arith, window, b))

  first_puts : (o : Opening) → Puts (first_by s o)
  first_puts (openings.Announces o) = (omega arith, omega arith)
  first_puts openings.AwaitsClient = tt
  first_puts openings.AwaitsPacket = tt
  first_puts (openings.WantsServer o) = tt
  first_puts (openings.Announced o) = tt

  quiet_told : (z : Successor) → Quiet (told_by s z)
  quiet_told z = search rules

  quiet_waiting : (dues : List Due) → Quiet (waiting_by s dues)
  quiet_waiting dues = search rules

  quiet_ack : (which : Which) (cookie : Cookie) (o : Option Ack)
      → Quiet (ack_by s which cookie o)
  quiet_ack which cookie o = search rules

  quiet_next : (z : Successor) → Quiet (next_ack s z)
  quiet_next successors.Absent = tt
  quiet_next (successors.Up number) = tt
  quiet_next (successors.Joined leg stage) = quiet_ack Next leg.cookie (ack_due s Next)

  quiet_pdu : (pdus : List (List ℕ)) → Quiet (next_pdu s pdus)
  quiet_pdu pdus = search rules

  quiet_end : Quiet (put_end s)
  quiet_end = search rules

  quiet_mark : Quiet (put_in_r1_a6 s)
  quiet_mark = search rules

  quiet_ping : Quiet (put_ping s)
  quiet_ping = search rules

  quiet_echo : (number : ℕ) → Quiet (put_echo s number)
  quiet_echo number = search rules

  server_puts : Puts (next s)
  server_puts =
      or_puts (put_control s) (put_stream s)
      (or_puts (put_early s) (put_acks s)
      (or_puts (put_first s) _ (first_puts s.opening)
      (or_puts (put_in_r2_a2 s) (put_waiting s)
      (quiet_puts (put_in_r2_a2 s) (quiet_told s.successor))
      (quiet_puts (put_waiting s) (quiet_waiting s.waiting.due))))
      (or_puts (current_ack s) (next_ack s s.successor)
      (quiet_puts (current_ack s) (quiet_ack Current s.current.cookie (ack_due s Current)))
      (quiet_puts (next_ack s s.successor) (quiet_next s.successor))))
      (or_puts (put_pdu s) (put_behind s)
      (quiet_puts (put_pdu s) (quiet_pdu s.line.current.pdus))
      (or_puts (put_mark s) (put_ping s)
      (or_puts (put_end s) (put_in_r1_a6 s) (quiet_puts (put_end s) quiet_end)
      (quiet_puts (put_in_r1_a6 s) quiet_mark))
      (quiet_puts (put_ping s) quiet_ping)))

  puts : (leg : Leg) → Puts (put_of s leg)
  puts leg =
      by_test Puts (is_client_leg leg) (put_echo s leg.number)
      (if is_server_leg s leg then settled_pick (next s) else None)
      (λ e. quiet_puts (put_echo s leg.number) (quiet_echo leg.number))
      (λ e. by_test Puts (is_server_leg s leg) (settled_pick (next s)) None
      (λ f. settled_puts (next s) server_puts) (λ f. tt))

-- ---- the role

module _ (n : ℕ) where
  abbrev Holds : InProxy → List OnLeg → List OnLeg → Type 0
  Holds s came put =
      (count_of is_conn_b1 (of_kind ClientIn came) + first_left s.opening ≤ 1)
      × (count_of opens_server (of_leg (is_leg n) came) + window_left s.edge ≤ 1)

  kept : (s t : InProxy) (came put : List OnLeg) → Keeps s t → Holds s came put
      → Holds t came put
  kept s t came put keeps h =
      let a = h.0 in let b = h.1 in let c = keeps.0 in let d = keeps.1 in
      (omega (arith, a, c), omega (arith, b, d))

  row : (s : InProxy) (leg : Leg) (m : Message) (came put : List OnLeg) (x : Done)
      → Uses m s x → Holds s came put → RowKeeps Holds (leg, m) came put x
  row s leg m came put (t, Ok taken) uses h =
      let a = h.0 in let b = h.1 in let c = uses.0 in let d = uses.1 in
      let more = kind_at_most is_conn_b1 ClientIn came (leg, m) in
      let other = leg_at_most opens_server (is_leg n) came (leg, m) in
      (omega (arith, a, c, more), omega (arith, b, d, other))
  row s leg m came put (t, Err why) uses h = kept s t came put uses h

  put_row : (s : InProxy) (leg : Leg) (came put : List OnLeg) (pick : Pick) → Puts s pick
      → Holds s came put → PutKeeps Holds leg came put pick
  put_row s leg came put None keeps h = tt
  put_row s leg came put (Some one) keeps h = kept s one.0 came put keeps h

  steps : StepsKeep proxy_rules Holds
  steps = record {
    up = λ s leg cookie came put. kept s (up s leg) came put (up_keeps s leg);
    head = λ s leg text came put.
        kept s (head s leg text).0 came put
        (same_keeps s (head s leg text).0 (same_head s leg text));
    pdu = λ s leg count bytes came put.
        row s leg (Pdu bytes) came put (pdu s leg count bytes)
        (same_uses (Pdu bytes) s (pdu s leg count bytes) refl refl (same_pdu s leg count bytes));
    packet = λ s leg count m came put.
        row s leg (Packet m) came put (packet s leg count m) (packet_uses s leg count m);
    put = λ s leg came put. put_row s leg came put (put_of s leg) (puts s leg);
    drawn = λ s leg came put.
        kept s (drawn s leg) came put (same_keeps s (drawn s leg) (same_drawn s leg));
    mark = λ s leg came put.
        kept s (mark s leg) came put (same_keeps s (mark s leg) (same_mark s leg));
    ping = λ s leg came put.
        kept s (ping s leg) came put (same_keeps s (ping s leg) (same_ping s leg));
  }

pub in_proxy_opens_once : (config : InProxyConfig) (moves : List Move)
    → (let p = all_moved proxy_rules (started (first config)) moves in
    (count_of is_conn_b1 (of_kind ClientIn p.came) ≤ 1)
    × (count_of opens_server (of_leg (is_leg config.number) p.came) ≤ 1))
in_proxy_opens_once config moves =
    let h = moves_keep proxy_rules (Holds config.number) (steps config.number)
    (started (first config)) moves (omega arith, omega arith) in
    let a = h.0 in let b = h.1 in (omega (arith, a), omega (arith, b))
