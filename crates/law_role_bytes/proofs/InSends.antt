-- the window of an in proxy counts what it put on its is leg
use Rattle.law_order.proofs.Vocabulary.{◌≡◌, ℕ, ◌≤◌, true, false, true≢false, ◌&&◌, List, [], ◌∷◌, ◌++◌, length, Some, None, Ok, Err, arith, refl, sym, ap, ◌∙◌, subst, rules, and_parts, if◌then◌else◌, IfSome, Option, Result, nat_tests}
use Rattle.rh_sig.specs.declared.named.Named.TheVariants.{Ack}
use Rattle.rh_shell.specs.declared.answers.Refused.TheVariants as refused
use Rattle.law_moves.proofs.Vocabulary.{Sender, may_send, after_acked, ack_verdict, BadAck, by_test, Cookie, Named, ConnB1, ConnB3, InR1A1, InR1B1, InR1B2, Leg, Which, Count, Message, Pdu, Packet, OnLeg, Move, all_moved, started, of_leg, pdu_bytes, count_of, one_if, opens_server}
use Rattle.law_moves.proofs.Lemmas.{PutKeeps, RowKeeps, StepsKeep, leg_here, leg_is, leg_rises, moves_keep}
use Rattle.law_role_inproxy.proofs.Vocabulary.{Edge, InProxyConfig, Opener, Done, Pick, unexpected, refuse, InProxy, first, channel_of, is_client_leg, is_server_leg, same_cookie, up, head, drawn, opener_of, is_connection, is_replacement, is_unknown, with_edge, on_conn_b1, acked, acked_by, ack_for, on_ack, is_newest, mark, settled, on_in_r1_a1, on_in_r1_b1, next, next_ack, next_pdu, current_ack, or_else, put as put_of, put_acks, put_behind, put_control, put_early, put_echo, put_end, put_first, put_in_r1_a6, put_in_r2_a2, put_mark, put_pdu, put_ping, put_stream, put_waiting, settled_pick, ping, pdu, packet, on_channel, on_channel_by, on_ci, on_is, is_leg, rules as proxy_rules}
use Rattle.law_role_outproxy.proofs.Sending.Legs.{bytes_here, bytes_still}
use Rattle.law_role_bytes.specs.Bytes.{CountsPut, WasToldThere}

-- what the facts are about
record Seen : Type 0 where
  config : InProxyConfig
  window : Sender
  edge : Edge

abbrev seen : InProxy → Seen
seen s = record { config = s.config; window = s.window; edge = s.edge }

abbrev Same : InProxy → InProxy → Type 0
Same s t = seen t ≡ seen s

-- ---- what leaves these alone

same_up : (s : InProxy) (leg : Leg) → Same s (up s leg)
same_up s leg = search rules

same_head : (s : InProxy) (leg : Leg) (text : List ℕ) → Same s (head s leg text).0
same_head s leg text = search rules

same_conn_b1 : (s : InProxy) (n : ℕ) (a b : Cookie) (c : ℕ) (d : Cookie)
    → Same s (on_conn_b1 s n a b c d).0
same_conn_b1 s n a b c d = search rules

same_in_r1_a1 : (s : InProxy) (n : ℕ) (a b c : Cookie) → Same s (on_in_r1_a1 s n a b c).0
same_in_r1_a1 s n a b c = search rules

same_channel : (s : InProxy) (which : Which) (named : Named)
    → Same s (on_channel s which named).0
same_channel s which named = search rules

same_on : (s : InProxy) (o : Option Which) (named : Named) → Same s (on_channel_by s o named).0
same_on s None named = refl
same_on s (Some which) named = same_channel s which named

same_ci : (s : InProxy) (n : ℕ) (named : Named) → Same s (on_ci s n named).0
same_ci s n (ConnB1 v1 v2 v3 v4 v5 v6) = same_conn_b1 s n v2 v3 v5 v6
same_ci s n (InR1A1 v1 v2 v3 v4) = same_in_r1_a1 s n v2 v3 v4
same_ci s n packet = same_on s (channel_of s n) packet

same_pdu : (s : InProxy) (leg : Leg) (count : Count) (bytes : List ℕ)
    → Same s (pdu s leg count bytes).0
same_pdu s leg count bytes = search rules

same_b1 : (s : InProxy) → Same s (on_in_r1_b1 s).0
same_b1 s = search rules

same_drawn : (s : InProxy) (leg : Leg) → Same s (drawn s leg)
same_drawn s leg = search rules

same_settled : (s : InProxy) → Same s (settled s)
same_settled s = search rules

same_mark : (s : InProxy) (leg : Leg) → Same s (mark s leg)
same_mark s leg =
    same_settled (if is_newest s leg then record s { newest_lost = true } else s)
    ∙ by_test (Same s) (is_newest s leg) _ s (λ e. refl) (λ e. refl)

same_ping : (s : InProxy) (leg : Leg) → Same s (ping s leg)
same_ping s leg = search rules

acked_sent : (w : Sender) (received available : ℕ)
    → (after_acked w received available).sent ≡ w.sent
acked_sent w received available = search rules

acked_rises : (w : Sender) (received available : ℕ)
    → w.edge ≤ (after_acked w received available).edge
acked_rises w received available = search rules

module _ (config : InProxyConfig) where
  abbrev is : Leg
  is = is_leg config.number

  -- it sends within the edge, and knows of one only where a window was told
  record Sends (x : Seen) (came put : List OnLeg) : Type 0 where
    made : x.config ≡ config
    within : x.window.sent ≤ x.window.edge
    counted : x.window.sent ≡ pdu_bytes (of_leg is put)
    shut : is_unknown x.edge ≡ true → x.window.edge ≡ 0
    told : is_unknown x.edge ≡ false → 1 ≤ count_of opens_server (of_leg is came)

  abbrev Holds : InProxy → List OnLeg → List OnLeg → Type 0
  Holds s came put = Sends (seen s) came put

  same_holds : (s t : InProxy) (came put : List OnLeg) → Same s t → Holds s came put
      → Holds t came put
  same_holds s t came put same h = subst (λ (x : Seen). Sends x came put) (sym same) h

  -- ---- rows

  came_more : (x : Seen) (came put : List OnLeg) (one : OnLeg) → Sends x came put
      → Sends x (came ++ one ∷ []) put
  came_more x came put one h = record {
    made = h.made;
    within = h.within;
    counted = h.counted;
    shut = h.shut;
    told = λ e.
        let before = h.told e in
        let rise = leg_rises opens_server is came one in omega (arith, before, rise);
  }

  row_on : (one : OnLeg) (came put : List OnLeg) (x : Done) → Holds x.0 came put
      → RowKeeps Holds one came put x
  row_on one came put (t, Ok taken) h = came_more (seen t) came put one h
  row_on one came put (t, Err why) h = h

  -- a packet tells the window, once
  edge_row : (s : InProxy) (came put : List OnLeg) (named : Named) (size : ℕ)
      → opens_server named ≡ true → is_unknown s.edge ≡ true → Holds s came put
      → RowKeeps Holds (is, Packet named) came put (with_edge s size)
  edge_row s came put named size opens unknown h = record {
    made = h.made;
    within = omega arith;
    counted =
        let within = h.within in
        let counted = h.counted in
        let none = h.shut unknown in omega (arith, within, counted, none);
    shut = λ e. absurd cc;
    told = λ e.
        let all = leg_here opens_server is came named in
        let one : one_if (opens_server named) ≡ 1 = ap one_if opens in omega (arith, all, one);
  }

  acked_row : (s : InProxy) (came put : List OnLeg) (received available : ℕ)
      → is_unknown s.edge ≡ false → Holds s came put
      → Holds (acked s received available).0 came put
  acked_row s came put received available known h = by (ack_verdict s.window received available)
    where
      t : InProxy
      t = record s { window = after_acked s.window received available }

      kept : Holds t came put
      kept = record {
        made = h.made;
        within =
            let sent = acked_sent s.window received available in
            let rises = acked_rises s.window received available in
            let within = h.within in omega (arith, sent, rises, within);
        counted = acked_sent s.window received available ∙ h.counted;
        shut = λ e. absurd (true≢false (sym e ∙ known));
        told = h.told;
      }

      by : (v : Result (Unit {0}) BadAck) → Holds (acked_by t v).0 came put
      by (Ok applied) = kept
      by (Err bad) = kept

  ack_row : (s : InProxy) (came put : List OnLeg) (received available : ℕ) (channel : Cookie)
      → Holds s came put → Holds (on_ack s received available channel).0 came put
  ack_row s came put received available channel h =
      by_test Row (is_unknown s.edge) (unexpected s) _ (λ e. h)
      (λ known. by known (opener_of s.opening))
    where
      Row : Done → Type 0
      Row x = Holds x.0 came put

      by : is_unknown s.edge ≡ false → (o : Option Opener)
          → Row (ack_for s o received available channel)
      by known None = h
      by known (Some opener) =
          by_test Row (same_cookie opener.channel channel) (acked s received available)
          (refuse s (refused.Cookie opener.channel channel))
          (λ e. acked_row s came put received available known h) (λ e. h)

  is_row : (s : InProxy) (came put : List OnLeg) (named : Named) → Holds s came put
      → RowKeeps Holds (is, Packet named) came put (on_is s named)
  is_row s came put (ConnB3 size version) h =
      by_test (RowKeeps Holds (is, Packet (ConnB3 size version)) came put)
      (is_connection (opener_of s.opening) && is_unknown s.edge) (with_edge s size) (unexpected s)
      (λ e. edge_row s came put (ConnB3 size version) size refl
      (and_parts (is_connection (opener_of s.opening)) (is_unknown s.edge) e).1 h)
      (λ e. h)
  is_row s came put (InR1B2 size) h =
      by_test (RowKeeps Holds (is, Packet (InR1B2 size)) came put)
      (is_replacement (opener_of s.opening) && is_unknown s.edge) (with_edge s size) (unexpected s)
      (λ e. edge_row s came put (InR1B2 size) size refl
      (and_parts (is_replacement (opener_of s.opening)) (is_unknown s.edge) e).1 h)
      (λ e. h)
  is_row s came put InR1B1 h =
      row_on (is, Packet InR1B1) came put (on_in_r1_b1 s)
      (same_holds s (on_in_r1_b1 s).0 came put (same_b1 s) h)
  is_row s came put (Ack received available channel) h =
      row_on (is, Packet (Ack received available channel)) came put
      (on_ack s received available channel) (ack_row s came put received available channel h)
  is_row s came put packet h = h

  is_server : (s : InProxy) (leg : Leg) → s.config ≡ config → is_server_leg s leg ≡ true
      → is ≡ leg
  is_server s leg made e =
      ap (λ (c : InProxyConfig). is_leg c.number) (sym made)
      ∙ leg_is (is_leg s.config.number) leg e

  packet_row : (s : InProxy) (leg : Leg) (count : Count) (named : Named) (came put : List OnLeg)
      → Holds s came put
      → RowKeeps Holds (leg, Packet named) came put (packet s leg count named)
  packet_row s leg count named came put h =
      by_test Row (is_client_leg leg) (on_ci s leg.number named)
      (if is_server_leg s leg then on_is s named else unexpected s)
      (λ e. row_on (leg, Packet named) came put (on_ci s leg.number named)
      (same_holds s (on_ci s leg.number named).0 came put (same_ci s leg.number named) h))
      (λ e. by_test Row (is_server_leg s leg) (on_is s named) (unexpected s)
      (λ f. subst (λ (l : Leg). RowKeeps Holds (l, Packet named) came put (on_is s named))
      (is_server s leg h.made f) (is_row s came put named h)) (λ f. h))
    where
      Row : Done → Type 0
      Row x = RowKeeps Holds (leg, Packet named) came put x

  -- ---- what is put

  or_put : (leg : Leg) (came put : List OnLeg) (a b : Pick) → PutKeeps Holds leg came put a
      → PutKeeps Holds leg came put b → PutKeeps Holds leg came put (or_else a b)
  or_put leg came put None b h k = k
  or_put leg came put (Some pick) b h k = h

  -- no PDU
  abbrev IsQuiet : InProxy → Pick → Type 0
  IsQuiet s pick =
      IfSome pick (λ (one : InProxy × Message). Same s one.0 × (pdu_bytes (one.1 ∷ []) ≡ 0))

  quiet_first : (s : InProxy) → IsQuiet s (put_first s)
  quiet_first s = search rules

  quiet_told : (s : InProxy) → IsQuiet s (put_in_r2_a2 s)
  quiet_told s = search rules

  quiet_waiting : (s : InProxy) → IsQuiet s (put_waiting s)
  quiet_waiting s = search rules

  quiet_current : (s : InProxy) → IsQuiet s (current_ack s)
  quiet_current s = search rules

  quiet_next : (s : InProxy) → IsQuiet s (next_ack s s.successor)
  quiet_next s = search rules

  quiet_end : (s : InProxy) → IsQuiet s (put_end s)
  quiet_end s = search rules

  quiet_handover : (s : InProxy) → IsQuiet s (put_in_r1_a6 s)
  quiet_handover s = search rules

  quiet_ping : (s : InProxy) → IsQuiet s (put_ping s)
  quiet_ping s = search rules

  quiet_echo : (s : InProxy) (number : ℕ) → IsQuiet s (put_echo s number)
  quiet_echo s number = search rules

  module _ (s : InProxy) (came put : List OnLeg) (h : Holds s came put) where
    quiet_put : (leg : Leg) (pick : Pick) → IsQuiet s pick → PutKeeps Holds leg came put pick
    quiet_put leg None quiet = tt
    quiet_put leg (Some one) quiet =
        let k = same_holds s one.0 came put quiet.0 h in record {
          made = k.made;
          within = k.within;
          counted = k.counted ∙ sym (bytes_still is put (leg, one.1) quiet.1);
          shut = k.shut;
          told = k.told;
        }

    front_put : (pdus : List (List ℕ)) → PutKeeps Holds is came put (next_pdu s pdus)
    front_put [] = tt
    front_put (pdu ∷ pdus) =
        by_test (PutKeeps Holds is came put) (may_send s.window (length pdu)) _ None
        (λ may. record {
          made = h.made;
          within = grind (arith, nat_tests, may);
          counted =
              let before = h.counted in
              let all = bytes_here is put (Pdu pdu) in omega (arith, before, all);
          shut = h.shut;
          told = h.told;
        })
        (λ e. tt)

    control_put : PutKeeps Holds is came put (put_control s)
    control_put =
        or_put is came put (put_early s) (put_acks s)
        (or_put is came put (put_first s) (or_else (put_in_r2_a2 s) (put_waiting s))
        (quiet_put is (put_first s) (quiet_first s))
        (or_put is came put (put_in_r2_a2 s) (put_waiting s)
        (quiet_put is (put_in_r2_a2 s) (quiet_told s))
        (quiet_put is (put_waiting s) (quiet_waiting s))))
        (or_put is came put (current_ack s) (next_ack s s.successor)
        (quiet_put is (current_ack s) (quiet_current s))
        (quiet_put is (next_ack s s.successor) (quiet_next s)))

    stream_put : PutKeeps Holds is came put (put_stream s)
    stream_put =
        or_put is came put (put_pdu s) (put_behind s) (front_put s.line.current.pdus)
        (or_put is came put (put_mark s) (put_ping s)
        (or_put is came put (put_end s) (put_in_r1_a6 s)
        (quiet_put is (put_end s) (quiet_end s))
        (quiet_put is (put_in_r1_a6 s) (quiet_handover s)))
        (quiet_put is (put_ping s) (quiet_ping s)))

    settled_put : (pick : Pick) → PutKeeps Holds is came put pick
        → PutKeeps Holds is came put (settled_pick pick)
    settled_put None k = tt
    settled_put (Some one) k =
        same_holds one.0 (settled one.0) came (put ++ (is, one.1) ∷ []) (same_settled one.0) k

    server_put : PutKeeps Holds is came put (settled_pick (next s))
    server_put =
        settled_put (next s) (or_put is came put (put_control s) (put_stream s) control_put stream_put)

  puts : (s : InProxy) (leg : Leg) (came put : List OnLeg) → Holds s came put
      → PutKeeps Holds leg came put (put_of s leg)
  puts s leg came put h =
      by_test (PutKeeps Holds leg came put) (is_client_leg leg) (put_echo s leg.number)
      (if is_server_leg s leg then settled_pick (next s) else None)
      (λ e. quiet_put s came put h leg (put_echo s leg.number) (quiet_echo s leg.number))
      (λ e. by_test (PutKeeps Holds leg came put) (is_server_leg s leg)
      (settled_pick (next s)) None
      (λ f. subst (λ (l : Leg). PutKeeps Holds l came put (settled_pick (next s)))
      (is_server s leg h.made f) (server_put s came put h)) (λ f. tt))

  -- ---- the role

  keeps : StepsKeep proxy_rules Holds
  keeps = record {
    up = λ s leg cookie came put. same_holds s (up s leg) came put (same_up s leg);
    head = λ s leg text came put. same_holds s (head s leg text).0 came put (same_head s leg text);
    pdu = λ s leg count bytes came put h.
        row_on (leg, Pdu bytes) came put (pdu s leg count bytes)
        (same_holds s (pdu s leg count bytes).0 came put (same_pdu s leg count bytes) h);
    packet = λ s leg count named came put h.
        packet_row s leg count named came put h;
    put = puts;
    drawn = λ s leg came put. same_holds s (drawn s leg) came put (same_drawn s leg);
    mark = λ s leg came put. same_holds s (mark s leg) came put (same_mark s leg);
    ping = λ s leg came put. same_holds s (ping s leg) came put (same_ping s leg);
  }

in_proxy_sends : (config : InProxyConfig) (moves : List Move)
    → (let p = all_moved proxy_rules (started (first config)) moves in
    Holds config p.role p.came p.put)
in_proxy_sends config moves =
    moves_keep proxy_rules (Holds config) (keeps config) (started (first config)) moves (record {
      made = refl;
      within = omega arith;
      counted = refl;
      shut = λ e. refl;
      told = λ e. absurd cc;
    })

pub in_proxy_sent : (config : InProxyConfig) (moves : List Move)
    → (let p = all_moved proxy_rules (started (first config)) moves in
    CountsPut (is_leg config.number) p.put p.role.window)
in_proxy_sent config moves = (in_proxy_sends config moves).counted

pub in_proxy_told : (config : InProxyConfig) (moves : List Move)
    → WasToldThere config.number (all_moved proxy_rules (started (first config)) moves)
in_proxy_told config moves = (in_proxy_sends config moves).told
