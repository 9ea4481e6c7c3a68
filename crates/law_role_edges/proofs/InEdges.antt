-- each step of an in proxy keeps what it knows of the server's window
use Rattle.law_order.proofs.Vocabulary.{◌≡◌, ℕ, ◌≤◌, true, false, true≢false, ◌&&◌, List, [], ◌∷◌, ◌++◌, Some, None, Ok, Err, arith, refl, sym, ap, ◌∙◌, subst, rules, and_parts, if◌then◌else◌, AllByRecursion, IfSome, Option, Result}
use Rattle.law_moves.proofs.Vocabulary.{Sender, after_acked, ack_verdict, BadAck, by_test, Cookie, Named, ConnB1, ConnB3, InR1A1, InR1B1, InR1B2, Leg, LegKind, ClientOut, OutServer, ClientIn, InServer, is_of, Which, Count, Message, Pdu, Packet, OnLeg, Move, all_moved, started}
use Rattle.law_moves.proofs.Lemmas.{PutKeeps, RowKeeps, StepsKeep, all_append, each_so, moves_keep}
use Rattle.rh_sig.specs.declared.named.Named.TheVariants.{Ack}
use Rattle.rh_shell.specs.declared.answers.Refused.TheVariants as refused
use Rattle.law_role_inproxy.proofs.Vocabulary.{Edge, InProxyConfig, Opener, Done, Pick, unexpected, refuse, InProxy, first, channel_of, is_client_leg, is_server_leg, same_cookie, up, head, drawn, opener_of, is_connection, is_replacement, is_unknown, with_edge, on_conn_b1, acked, acked_by, ack_for, on_ack, is_newest, mark, settled, on_in_r1_a1, on_in_r1_b1, next, next_ack, current_ack, or_else, put as put_of, put_acks, put_behind, put_control, put_early, put_echo, put_end, put_first, put_in_r1_a6, put_in_r2_a2, put_mark, put_pdu, put_ping, put_stream, put_waiting, settled_pick, ping, pdu, packet, on_channel, on_channel_by, on_ci, on_is, rules as proxy_rules}
use Rattle.law_role_edges.proofs.Knowing.{acked_known, acked_rises, known_then, within_more}
use Rattle.law_role_edges.specs.Edges.{IsKnownOn, KnowsEdges, edge_told}

known_high : (low high : ℕ) → low ≤ high → (one : OnLeg) → IsKnownOn low one → IsKnownOn high one
known_high low high more one is here = within_more edge_told low high one.1 more (is here)

-- ---- what the facts are about

record Seen : Type 0 where
  window : Sender
  edge : Edge

abbrev seen : InProxy → Seen
seen s = record { window = s.window; edge = s.edge }

abbrev Same : InProxy → InProxy → Type 0
Same s t = seen t ≡ seen s

-- while no window was told none is known
record Knows (x : Seen) (came : List OnLeg) : Type 0 where
  known : AllByRecursion (IsKnownOn x.window.edge) came
  shut : is_unknown x.edge ≡ true → x.window.edge ≡ 0

abbrev Holds : InProxy → List OnLeg → List OnLeg → Type 0
Holds s came put = Knows (seen s) came

same_holds : (s t : InProxy) (came put : List OnLeg) → Same s t → Holds s came put
    → Holds t came put
same_holds s t came put same h = subst (λ (x : Seen). Knows x came) (sym same) h

-- ---- what leaves these alone

same_up : (s : InProxy) (leg : Leg) → Same s (up s leg)
same_up s leg = search rules

same_head : (s : InProxy) (leg : Leg) (text : List ℕ) → Same s (head s leg text).0
same_head s leg text = search rules

same_conn_b1 : (s : InProxy) (n : ℕ) (a b : Cookie) (c : ℕ) (d : Cookie)
    → Same s (on_conn_b1 s n a b c d).0
same_conn_b1 s n a b c d = search rules

same_in_r1_a1 : (s : InProxy) (n : ℕ) (a b c : Cookie) → Same s (on_in_r1_a1 s n a b c).0
same_in_r1_a1 s n a b c = search rules

same_channel : (s : InProxy) (which : Which) (named : Named)
    → Same s (on_channel s which named).0
same_channel s which named = search rules

same_on : (s : InProxy) (o : Option Which) (named : Named) → Same s (on_channel_by s o named).0
same_on s None named = refl
same_on s (Some which) named = same_channel s which named

same_ci : (s : InProxy) (n : ℕ) (named : Named) → Same s (on_ci s n named).0
same_ci s n (ConnB1 v1 v2 v3 v4 v5 v6) = same_conn_b1 s n v2 v3 v5 v6
same_ci s n (InR1A1 v1 v2 v3 v4) = same_in_r1_a1 s n v2 v3 v4
same_ci s n packet = same_on s (channel_of s n) packet

same_pdu : (s : InProxy) (leg : Leg) (count : Count) (bytes : List ℕ)
    → Same s (pdu s leg count bytes).0
same_pdu s leg count bytes = search rules

same_b1 : (s : InProxy) → Same s (on_in_r1_b1 s).0
same_b1 s = search rules

same_drawn : (s : InProxy) (leg : Leg) → Same s (drawn s leg)
same_drawn s leg = search rules

same_settled : (s : InProxy) → Same s (settled s)
same_settled s = search rules

same_mark : (s : InProxy) (leg : Leg) → Same s (mark s leg)
same_mark s leg =
    same_settled (if is_newest s leg then record s { newest_lost = true } else s)
    ∙ by_test (Same s) (is_newest s leg) _ s (λ e. refl) (λ e. refl)

same_ping : (s : InProxy) (leg : Leg) → Same s (ping s leg)
same_ping s leg = search rules

-- ---- rows

came_more : (x : Seen) (came : List OnLeg) (one : OnLeg) → IsKnownOn x.window.edge one
    → Knows x came → Knows x (came ++ one ∷ [])
came_more x came one is h =
    record {
      known = all_append (IsKnownOn x.window.edge) came (one ∷ []) h.known (is, tt);
      shut = h.shut;
    }

-- a row that leaves the window alone takes what tells none
quiet_row : (one : OnLeg) (s : InProxy) (came put : List OnLeg) (x : Done)
    → ((edge : ℕ) → IsKnownOn edge one) → Same s x.0 → Holds s came put
    → RowKeeps Holds one came put x
quiet_row one s came put (t, Ok taken) none same h =
    came_more (seen t) came one (none t.window.edge) (same_holds s t came put same h)
quiet_row one s came put (t, Err why) none same h = same_holds s t came put same h

-- a packet tells the window, once
edge_row : (s : InProxy) (leg : Leg) (came put : List OnLeg) (named : Named) (size : ℕ)
    → edge_told named ≡ size → is_unknown s.edge ≡ true → Holds s came put
    → RowKeeps Holds (leg, Packet named) came put (with_edge s size)
edge_row s leg came put named size told unknown h = record {
  known =
      known_then (IsKnownOn s.window.edge) (IsKnownOn size) came (leg, Packet named)
      (known_high s.window.edge size (let none = h.shut unknown in omega (arith, none)))
      h.known (λ here. omega (arith, told));
  shut = λ e. absurd cc;
}

acked_row : (s : InProxy) (leg : Leg) (came put : List OnLeg) (received available : ℕ)
    (channel : Cookie) → is_unknown s.edge ≡ false → Holds s came put
    → RowKeeps Holds (leg, Packet (Ack received available channel)) came put
    (acked s received available)
acked_row s leg came put received available channel known h =
    by (ack_verdict s.window received available) refl
  where
    t : InProxy
    t = record s { window = after_acked s.window received available }

    high : (one : OnLeg) → IsKnownOn s.window.edge one → IsKnownOn t.window.edge one
    high = known_high s.window.edge t.window.edge (acked_rises s.window received available)

    by : (v : Result (Unit {0}) BadAck) → ack_verdict s.window received available ≡ v
        → RowKeeps Holds (leg, Packet (Ack received available channel)) came put (acked_by t v)
    by (Ok applied) e = record {
      known =
          known_then (IsKnownOn s.window.edge) (IsKnownOn t.window.edge) came
          (leg, Packet (Ack received available channel)) high h.known
          (λ here. acked_known s.window received available e);
      shut = λ f. absurd (true≢false (sym f ∙ known));
    }
    by (Err bad) e =
        record {
          known = each_so (IsKnownOn s.window.edge) (IsKnownOn t.window.edge) high came h.known;
          shut = λ f. absurd (true≢false (sym f ∙ known));
        }

ack_row : (s : InProxy) (leg : Leg) (came put : List OnLeg) (received available : ℕ)
    (channel : Cookie) → Holds s came put
    → RowKeeps Holds (leg, Packet (Ack received available channel)) came put
    (on_ack s received available channel)
ack_row s leg came put received available channel h =
    by_test (RowKeeps Holds one came put) (is_unknown s.edge) (unexpected s) _ (λ e. h)
    (λ known. by known (opener_of s.opening))
  where
    one : OnLeg
    one = (leg, Packet (Ack received available channel))

    by : is_unknown s.edge ≡ false → (o : Option Opener)
        → RowKeeps Holds one came put (ack_for s o received available channel)
    by known None = h
    by known (Some opener) =
        by_test (RowKeeps Holds one came put) (same_cookie opener.channel channel)
        (acked s received available) (refuse s (refused.Cookie opener.channel channel))
        (λ e. acked_row s leg came put received available channel known h) (λ e. h)

is_row : (s : InProxy) (leg : Leg) (came put : List OnLeg) (named : Named) → Holds s came put
    → RowKeeps Holds (leg, Packet named) came put (on_is s named)
is_row s leg came put (ConnB3 size version) h =
    by_test (RowKeeps Holds (leg, Packet (ConnB3 size version)) came put)
    (is_connection (opener_of s.opening) && is_unknown s.edge) (with_edge s size) (unexpected s)
    (λ e. edge_row s leg came put (ConnB3 size version) size refl
    (and_parts (is_connection (opener_of s.opening)) (is_unknown s.edge) e).1 h)
    (λ e. h)
is_row s leg came put (InR1B2 size) h =
    by_test (RowKeeps Holds (leg, Packet (InR1B2 size)) came put)
    (is_replacement (opener_of s.opening) && is_unknown s.edge) (with_edge s size) (unexpected s)
    (λ e. edge_row s leg came put (InR1B2 size) size refl
    (and_parts (is_replacement (opener_of s.opening)) (is_unknown s.edge) e).1 h)
    (λ e. h)
is_row s leg came put InR1B1 h =
    quiet_row (leg, Packet InR1B1) s came put (on_in_r1_b1 s) (λ edge here. omega arith)
    (same_b1 s) h
is_row s leg came put (Ack received available channel) h =
    ack_row s leg came put received available channel h
is_row s leg came put packet h = h

-- what comes on a client's leg tells no edge of the server
on_client_leg : (leg : Leg) (m : Message) (edge : ℕ) → is_client_leg leg ≡ true
    → IsKnownOn edge (leg, m)
on_client_leg leg m edge client here = absurd (by leg.kind client here)
  where
    by : (kind : LegKind) → is_of ClientIn (record { kind = kind; number = leg.number }) ≡ true
        → is_of InServer (record { kind = kind; number = leg.number }) ≡ true → ⊥
    by ClientOut a b = absurd cc
    by OutServer a b = absurd cc
    by ClientIn a b = absurd cc
    by InServer a b = absurd cc

packet_row : (s : InProxy) (leg : Leg) (count : Count) (named : Named) (came put : List OnLeg)
    → Holds s came put → RowKeeps Holds (leg, Packet named) came put (packet s leg count named)
packet_row s leg count named came put h =
    by_test (RowKeeps Holds one came put) (is_client_leg leg) (on_ci s leg.number named)
    (if is_server_leg s leg then on_is s named else unexpected s)
    (λ e. quiet_row one s came put (on_ci s leg.number named)
    (λ edge. on_client_leg leg (Packet named) edge e) (same_ci s leg.number named) h)
    (λ e. by_test (RowKeeps Holds one came put) (is_server_leg s leg) (on_is s named)
    (unexpected s) (λ f. is_row s leg came put named h) (λ f. h))
  where
    one : OnLeg
    one = (leg, Packet named)

-- ---- what is put

-- a put leaves the edge as it is
abbrev IsEdgeKept : InProxy → Pick → Type 0
IsEdgeKept s pick =
    IfSome pick (λ (one : InProxy × Message).
    (one.0.window.edge ≡ s.window.edge) × (one.0.edge ≡ s.edge))

module _ (s : InProxy) where
  or_kept : (a b : Pick) → IsEdgeKept s a → IsEdgeKept s b → IsEdgeKept s (or_else a b)
  or_kept None b h k = k
  or_kept (Some one) b h k = h

  settled_kept : (pick : Pick) → IsEdgeKept s pick → IsEdgeKept s (settled_pick pick)
  settled_kept None h = tt
  settled_kept (Some one) h =
      let same = same_settled one.0 in
      (ap (λ (x : Seen). x.window.edge) same ∙ h.0, ap (λ (x : Seen). x.edge) same ∙ h.1)

  first_kept : IsEdgeKept s (put_first s)
  first_kept = search rules

  told_kept : IsEdgeKept s (put_in_r2_a2 s)
  told_kept = search rules

  waiting_kept : IsEdgeKept s (put_waiting s)
  waiting_kept = search rules

  current_kept : IsEdgeKept s (current_ack s)
  current_kept = search rules

  next_kept : IsEdgeKept s (next_ack s s.successor)
  next_kept = search rules

  pdu_kept : IsEdgeKept s (put_pdu s)
  pdu_kept = search rules

  end_kept : IsEdgeKept s (put_end s)
  end_kept = search rules

  handover_kept : IsEdgeKept s (put_in_r1_a6 s)
  handover_kept = search rules

  ping_kept : IsEdgeKept s (put_ping s)
  ping_kept = search rules

  echo_kept : (number : ℕ) → IsEdgeKept s (put_echo s number)
  echo_kept number = search rules

  control_kept : IsEdgeKept s (put_control s)
  control_kept =
      or_kept (put_early s) (put_acks s)
      (or_kept (put_first s) (or_else (put_in_r2_a2 s) (put_waiting s)) first_kept
      (or_kept (put_in_r2_a2 s) (put_waiting s) told_kept waiting_kept))
      (or_kept (current_ack s) (next_ack s s.successor) current_kept next_kept)

  stream_kept : IsEdgeKept s (put_stream s)
  stream_kept =
      or_kept (put_pdu s) (put_behind s) pdu_kept
      (or_kept (put_mark s) (put_ping s)
      (or_kept (put_end s) (put_in_r1_a6 s) end_kept handover_kept) ping_kept)

  put_edge : (leg : Leg) → IsEdgeKept s (put_of s leg)
  put_edge leg =
      by_test (IsEdgeKept s) (is_client_leg leg) (put_echo s leg.number)
      (if is_server_leg s leg then settled_pick (next s) else None)
      (λ e. echo_kept leg.number)
      (λ e. by_test (IsEdgeKept s) (is_server_leg s leg) (settled_pick (next s)) None
      (λ f. settled_kept (next s)
      (or_kept (put_control s) (put_stream s) control_kept stream_kept)) (λ f. tt))

put_row : (s : InProxy) (leg : Leg) (came put : List OnLeg) → Holds s came put
    → PutKeeps Holds leg came put (put_of s leg)
put_row s leg came put h = by (put_of s leg) (put_edge s leg)
  where
    by : (pick : Pick) → IsEdgeKept s pick → PutKeeps Holds leg came put pick
    by None same = tt
    by (Some one) same = record {
      known = subst (λ (edge : ℕ). AllByRecursion (IsKnownOn edge) came) (sym same.0) h.known;
      shut = λ e. same.0 ∙ h.shut (sym (ap is_unknown same.1) ∙ e);
    }

-- ---- all moves

steps : StepsKeep proxy_rules Holds
steps = record {
  up = λ s leg cookie came put. same_holds s (up s leg) came put (same_up s leg);
  head = λ s leg text came put. same_holds s (head s leg text).0 came put (same_head s leg text);
  pdu = λ s leg count bytes came put.
      quiet_row (leg, Pdu bytes) s came put (pdu s leg count bytes) (λ edge here. tt)
      (same_pdu s leg count bytes);
  packet = λ s leg count named came put. packet_row s leg count named came put;
  put = λ s leg came put. put_row s leg came put;
  drawn = λ s leg came put. same_holds s (drawn s leg) came put (same_drawn s leg);
  mark = λ s leg came put. same_holds s (mark s leg) came put (same_mark s leg);
  ping = λ s leg came put. same_holds s (ping s leg) came put (same_ping s leg);
}

pub in_knows : (config : InProxyConfig) (moves : List Move)
    → (let p = all_moved proxy_rules (started (first config)) moves in
    KnowsEdges p.role p.came)
in_knows config moves =
    (moves_keep proxy_rules Holds steps (started (first config)) moves
    (record { known = tt; shut = λ e. refl })).known
