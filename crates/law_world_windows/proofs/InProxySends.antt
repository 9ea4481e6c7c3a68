-- an in proxy sends to the server within its window
use Rattle.rh_window.specs.declared.recv_window.Ack as told
use Rattle.law_order.proofs.Vocabulary.{◌≡◌, ℕ, ◌==◌, Bool, true, false, true≢false, ◌&&◌, not, List, [], ◌∷◌, ◌++◌, length, Some, None, Ok, Err, arith, refl, sym, ◌∙◌, subst, rules, and_parts, if◌then◌else◌, Option, Result}
use Rattle.rh_sig.specs.declared.named.Named.TheVariants.{Ack}
use Rattle.rh_line.specs.Lines as line
use Rattle.rh_shell.specs.declared.answers.Refused.TheVariants as refused
use Rattle.rh_inproxy.specs.declared.state.Opening.TheVariants as openings
use Rattle.rh_inproxy.specs.declared.state.Successor.TheVariants as successors
use Rattle.rh_inproxy.specs.declared.state.Work.TheVariants as works
use Rattle.law_moves.proofs.Vocabulary.{Sender, may_send, after_acked, ack_verdict, BadAck, by_test, Cookie, Named, ConnB1, ConnB3, InR1A1, InR1B1, InR1B2, Leg, Which, Current, Next, Count, Due, Message, Text, Pdu, Packet, same_leg, Move, AreAllowed, started, all_moved, of_leg}
use Rattle.law_role_inproxy.proofs.Vocabulary.{Edge, Handover, Before, Came, Passed, InProxyConfig, TellsServer, Told, Follows, Opener, Opening, Successor, Work, Done, Pick, or_else, refuse, unexpected, InProxy, first, channel_of, is_client_leg, is_server_leg, same_cookie, up, head, drawn, first_by, put_first, echo_answer, echo_by, put_echo, opener_of, is_absent, is_connection, is_replacement, is_unknown, with_edge, on_conn_b1, acked, acked_by, ack_for, on_ack, ack_due}
use Rattle.law_role_inproxy.proofs.Vocabulary.{ack_by, current_ack, next_ack, put_acks, is_newest, mark, put_end, settled, settled_pick, has_passed, on_in_r1_a1, on_in_r1_b1, told_by, put_in_r2_a2, mark_by, put_in_r1_a6, next_pdu, put_pdu, put as put_of, next, waiting_by, put_waiting, put_control, put_early, put_stream, put_behind, put_mark, ping, put_ping, pdu, packet, on_channel, on_channel_by, on_ci, on_is, rules as proxy_rules}
use Rattle.law_node_streams.proofs.Streams.LegLogs.{same_back}
use Rattle.law_world_windows.proofs.Legs.{on}
use Rattle.law_world_windows.proofs.Sending.{Sends, unsent_sends, heard_more, put_more, opens_sends, acked_sends, refused_sends, sent_sends, sends_within, IsFalse, verdict_false}
use Rattle.law_world_windows.proofs.Steps.{RowKeeps, PutKeeps, RowHere, PutHere, row_here, put_here, StepsKeep, moves_keep}
use Rattle.law_world_windows.specs.Hops.{is_leg, pdu_bytes, edge_told, RefusesFalseAcks, SendsWithin}

-- what the facts are about
record Seen : Type 0 where
  config : InProxyConfig
  window : Sender
  edge : Edge

abbrev seen : InProxy → Seen
seen s = record { config = s.config; window = s.window; edge = s.edge }

abbrev Same : InProxy → InProxy → Type 0
Same s t = seen t ≡ seen s

-- of the proxy that was made with this configuration, on its is leg; as long as the edge is unknown
-- nothing may be sent
record SendsOf (config : InProxyConfig) (x : Seen) (came put : List Message) : Type 0 where
  is : x.config ≡ config
  window : Sends x.window came put
  shut : is_unknown x.edge ≡ true → x.window.edge ≡ 0

-- ---- what leaves these alone

same_up : (s : InProxy) (leg : Leg) → Same s (up s leg)
same_up s leg = search rules

same_head : (s : InProxy) (leg : Leg) (text : List ℕ) → Same s (head s leg text).0
same_head s leg text = search rules

same_conn_b1 : (s : InProxy) (n : ℕ) (a b : Cookie) (c : ℕ) (d : Cookie)
    → Same s (on_conn_b1 s n a b c d).0
same_conn_b1 s n a b c d = search rules

same_in_r1_a1 : (s : InProxy) (n : ℕ) (a b c : Cookie) → Same s (on_in_r1_a1 s n a b c).0
same_in_r1_a1 s n a b c = search rules

same_channel : (s : InProxy) (which : Which) (named : Named)
    → Same s (on_channel s which named).0
same_channel s which named = search rules

same_on : (s : InProxy) (o : Option Which) (named : Named) → Same s (on_channel_by s o named).0
same_on s None named = refl
same_on s (Some which) named = same_channel s which named

same_ci : (s : InProxy) (n : ℕ) (named : Named) → Same s (on_ci s n named).0
same_ci s n (ConnB1 v1 v2 v3 v4 v5 v6) = same_conn_b1 s n v2 v3 v5 v6
same_ci s n (InR1A1 v1 v2 v3 v4) = same_in_r1_a1 s n v2 v3 v4
same_ci s n packet = same_on s (channel_of s n) packet

same_pdu : (s : InProxy) (leg : Leg) (count : Count) (bytes : List ℕ)
    → Same s (pdu s leg count bytes).0
same_pdu s leg count bytes = search rules

same_b1 : (s : InProxy) → Same s (on_in_r1_b1 s).0
same_b1 s = search rules

same_drawn : (s : InProxy) (leg : Leg) → Same s (drawn s leg)
same_drawn s leg = search rules

same_settled : (s : InProxy) → Same s (settled s)
same_settled s = search rules

same_mark : (s : InProxy) (leg : Leg) → Same s (mark s leg)
same_mark s leg =
    same_settled (if is_newest s leg then record s { newest_lost = true } else s)
    ∙ by_test (Same s) (is_newest s leg) _ s (λ e. refl) (λ e. refl)

same_ping : (s : InProxy) (leg : Leg) → Same s (ping s leg)
same_ping s leg = search rules

module _ (config : InProxyConfig) where
  abbrev Holds : InProxy → List Message → List Message → Type 0
  Holds s came put = SendsOf config (seen s) came put

  abbrev leg : Leg
  leg = is_leg config.number

  same_holds : (s t : InProxy) (came put : List Message) → Same s t → Holds s came put
      → Holds t came put
  same_holds s t came put same h = subst (λ (x : Seen). SendsOf config x came put) (sym same) h

  -- ---- rows

  came_more : (x : Seen) (came put more : List Message) → SendsOf config x came put
      → SendsOf config x (came ++ more) put
  came_more x came put more h = record {
    is = h.is;
    window = heard_more x.window came put more h.window;
    shut = h.shut;
  }

  -- a row that leaves the window alone
  same_row : (other : Leg) (m : Message) (s : InProxy) (came put : List Message) (x : Done)
      → Same s x.0 → Holds s came put → RowKeeps Holds leg other m came put x
  same_row other m s came put (t, Ok taken) same h =
      came_more (seen t) came put (on leg other m) (same_holds s t came put same h)
  same_row other m s came put (t, Err why) same h = same_holds s t came put same h

  -- a packet tells the window, once
  edge_row : (s : InProxy) (came put : List Message) (named : Named) (size : ℕ)
      → edge_told named ≡ size → is_unknown s.edge ≡ true → Holds s came put
      → RowHere Holds (Packet named) came put (with_edge s size)
  edge_row s came put named size told unknown h = record {
    is = h.is;
    window = opens_sends came put named size told nothing;
    shut = λ e. absurd cc;
  }
    where
      nothing : pdu_bytes put ≡ 0
      nothing =
          let counted = h.window.counted in
          let within = h.window.within in
          let none = h.shut unknown in omega (arith, counted, within, none)

  acked_row : (s : InProxy) (came put : List Message) (received available : ℕ) (channel : Cookie)
      → is_unknown s.edge ≡ false → Holds s came put
      → RowHere Holds (Packet (Ack received available channel)) came put
      (acked s received available)
  acked_row s came put received available channel known h =
      by (ack_verdict s.window received available) refl
    where
      t : InProxy
      t = record s { window = after_acked s.window received available }

      by : (v : Result (Unit {0}) BadAck) → ack_verdict s.window received available ≡ v
          → RowHere Holds (Packet (Ack received available channel)) came put (acked_by t v)
      by (Ok applied) e = record {
        is = h.is;
        window = acked_sends s.window came put received available channel h.window;
        shut = λ f. absurd (true≢false (sym f ∙ known));
      }
      by (Err bad) e = record {
        is = h.is;
        window = refused_sends s.window came put received available bad e h.window;
        shut = λ f. absurd (true≢false (sym f ∙ known));
      }

  ack_row : (s : InProxy) (came put : List Message) (received available : ℕ) (channel : Cookie)
      → Holds s came put
      → RowHere Holds (Packet (Ack received available channel)) came put
      (on_ack s received available channel)
  ack_row s came put received available channel h =
      by_test (RowHere Holds m came put) (is_unknown s.edge) (unexpected s) _ (λ e. h)
      (λ known. by known (opener_of s.opening))
    where
      m : Message
      m = Packet (Ack received available channel)

      by : is_unknown s.edge ≡ false → (o : Option Opener)
          → RowHere Holds m came put (ack_for s o received available channel)
      by known None = h
      by known (Some opener) =
          by_test (RowHere Holds m came put) (same_cookie opener.channel channel)
          (acked s received available) (refuse s (refused.Cookie opener.channel channel))
          (λ e. acked_row s came put received available channel known h) (λ e. h)

  quiet_row : (m : Message) (s : InProxy) (came put : List Message) (x : Done) → Same s x.0
      → Holds s came put → RowHere Holds m came put x
  quiet_row m s came put (t, Ok taken) same h =
      came_more (seen t) came put (m ∷ []) (same_holds s t came put same h)
  quiet_row m s came put (t, Err why) same h = same_holds s t came put same h

  is_row : (s : InProxy) (came put : List Message) (named : Named) → Holds s came put
      → RowHere Holds (Packet named) came put (on_is s named)
  is_row s came put (ConnB3 size version) h =
      by_test (RowHere Holds (Packet (ConnB3 size version)) came put)
      (is_connection (opener_of s.opening) && is_unknown s.edge) (with_edge s size)
      (unexpected s)
      (λ e. edge_row s came put (ConnB3 size version) size refl
      (and_parts (is_connection (opener_of s.opening)) (is_unknown s.edge) e).1 h)
      (λ e. h)
  is_row s came put (InR1B2 size) h =
      by_test (RowHere Holds (Packet (InR1B2 size)) came put)
      (is_replacement (opener_of s.opening) && is_unknown s.edge) (with_edge s size)
      (unexpected s)
      (λ e. edge_row s came put (InR1B2 size) size refl
      (and_parts (is_replacement (opener_of s.opening)) (is_unknown s.edge) e).1 h)
      (λ e. h)
  is_row s came put InR1B1 h =
      quiet_row (Packet InR1B1) s came put (on_in_r1_b1 s) (same_b1 s) h
  is_row s came put (Ack received available channel) h =
      ack_row s came put received available channel h
  is_row s came put packet h = h

  -- the is leg is the one of the configuration
  is_here : (s : InProxy) (other : Leg) → s.config ≡ config → is_server_leg s other ≡ true
      → same_leg other leg ≡ true
  is_here s other is e =
      same_back other leg
      ∙ subst (λ (c : InProxyConfig). same_leg (is_leg c.number) other ≡ true) is e

  packet_row : (s : InProxy) (other : Leg) (count : Count) (named : Named)
      (came put : List Message) → Holds s came put
      → RowKeeps Holds leg other (Packet named) came put (packet s other count named)
  packet_row s other count named came put h =
      by_test (RowKeeps Holds leg other m came put) (is_client_leg other)
      (on_ci s other.number named) (if is_server_leg s other then on_is s named else unexpected s)
      (λ e. same_row other m s came put (on_ci s other.number named)
      (same_ci s other.number named) h)
      (λ e. by_test (RowKeeps Holds leg other m came put) (is_server_leg s other)
      (on_is s named) (unexpected s)
      (λ f. row_here Holds leg other came put m (on_is s named) (is_here s other h.is f)
      (is_row s came put named h)) (λ f. h))
    where
      m : Message
      m = Packet named

  -- ---- what is put

  -- what is no PDU
  put_still : (x : Seen) (came put more : List Message) → pdu_bytes more ≡ 0
      → SendsOf config x came put → SendsOf config x came (put ++ more)
  put_still x came put more none h = record {
    is = h.is;
    window = put_more x.window came put more none h.window;
    shut = h.shut;
  }

  or_put : (came put : List Message) (a b : Pick) → PutHere Holds came put a
      → PutHere Holds came put b → PutHere Holds came put (or_else a b)
  or_put came put None b h k = k
  or_put came put (Some pick) b h k = h

  first_put : (s : InProxy) (came put : List Message) (o : Opening) → Holds s came put
      → PutHere Holds came put (first_by s o)
  first_put s came put (openings.Announces o) h = put_still (seen s) came put _ refl h
  first_put s came put openings.AwaitsClient h = tt
  first_put s came put openings.AwaitsPacket h = tt
  first_put s came put (openings.WantsServer o) h = tt
  first_put s came put (openings.Announced o) h = tt

  told_put : (s : InProxy) (came put : List Message) (z : Successor) → Holds s came put
      → PutHere Holds came put (told_by s z)
  told_put s came put successors.Absent h = tt
  told_put s came put (successors.Up number) h = tt
  told_put s came put (successors.Joined client Told) h = tt
  told_put s came put (successors.Joined client Follows) h = tt
  told_put s came put (successors.Joined client (TellsServer behind)) h =
      by_test (PutHere Holds came put) (behind == 0) _ None
      (λ e. put_still (seen s) came put _ refl h) (λ e. tt)

  waiting_put : (s : InProxy) (came put : List Message) (dues : List Due) → Holds s came put
      → PutHere Holds came put (waiting_by s dues)
  waiting_put s came put [] h = tt
  waiting_put s came put (due ∷ dues) h = put_still (seen s) came put _ refl h

  ack_put : (s : InProxy) (came put : List Message) (which : Which) (cookie : Cookie)
      (o : Option told.Ack) → Holds s came put → PutHere Holds came put (ack_by s which cookie o)
  ack_put s came put which cookie None h = tt
  ack_put s came put which cookie (Some ack) h = put_still (seen s) came put _ refl h

  next_put : (s : InProxy) (came put : List Message) (z : Successor) → Holds s came put
      → PutHere Holds came put (next_ack s z)
  next_put s came put successors.Absent h = tt
  next_put s came put (successors.Up number) h = tt
  next_put s came put (successors.Joined client stage) h =
      ack_put s came put Next client.cookie (ack_due s Next) h

  front_put : (s : InProxy) (came put : List Message) (pdus : List (List ℕ)) → Holds s came put
      → PutHere Holds came put (next_pdu s pdus)
  front_put s came put [] h = tt
  front_put s came put (pdu ∷ pdus) h =
      by_test (PutHere Holds came put) (may_send s.window (length pdu)) _ None
      (λ may. record {
        is = h.is;
        window = sent_sends s.window came put pdu may h.window;
        shut = h.shut;
      })
      (λ e. tt)

  mark_put : (s : InProxy) (came put : List Message) (handover : Handover) → Holds s came put
      → PutHere Holds came put (mark_by s handover)
  mark_put s came put Before h = tt
  mark_put s came put (Came cookie) h = put_still (seen s) came put _ refl h
  mark_put s came put Passed h = tt

  control_put : (s : InProxy) (came put : List Message) → Holds s came put
      → PutHere Holds came put (put_control s)
  control_put s came put h =
      or_put came put (put_early s) (put_acks s)
      (or_put came put (put_first s) _ (first_put s came put s.opening h)
      (or_put came put (put_in_r2_a2 s) (put_waiting s) (told_put s came put s.successor h)
      (waiting_put s came put s.waiting.due h)))
      (or_put came put (current_ack s) (next_ack s s.successor)
      (ack_put s came put Current s.current.cookie (ack_due s Current) h)
      (next_put s came put s.successor h))

  behind_put : (s : InProxy) (came put : List Message) → Holds s came put
      → PutHere Holds came put (put_behind s)
  behind_put s came put h =
      or_put came put (put_mark s) (put_ping s)
      (or_put came put (put_end s) (put_in_r1_a6 s)
      (by_test (PutHere Holds came put)
      (s.line.current.ended && not s.end_put && line.is_empty s.line.current.pdus) _ None
      (λ e. put_still (seen s) came put _ refl h) (λ e. tt))
      (by_test (PutHere Holds came put)
      (is_absent s.successor && line.is_empty s.line.current.pdus)
      (mark_by s s.handover) None (λ e. mark_put s came put s.handover h) (λ e. tt)))
      (by_test (PutHere Holds came put) s.ping_due _ None
      (λ e. put_still (seen s) came put _ refl h) (λ e. tt))

  server_put : (s : InProxy) (came put : List Message) → Holds s came put
      → PutHere Holds came put (next s)
  server_put s came put h =
      or_put came put (put_control s) (put_stream s) (control_put s came put h)
      (or_put came put (put_pdu s) (put_behind s) (front_put s came put s.line.current.pdus h)
      (behind_put s came put h))

  settled_put : (came put : List Message) (pick : Pick) → PutHere Holds came put pick
      → PutHere Holds came put (settled_pick pick)
  settled_put came put None h = tt
  settled_put came put (Some pick) h =
      same_holds pick.0 (settled pick.0) came (put ++ pick.1 ∷ []) (same_settled pick.0) h

  echo_put : (s : InProxy) (other : Leg) (came put : List Message) (work : Work)
      → Holds s came put → PutKeeps Holds leg other came put (echo_by s work other.number)
  echo_put s other came put works.Underway h = tt
  echo_put s other came put (works.EchoPut asked_on) h = tt
  echo_put s other came put works.Done h = tt
  echo_put s other came put (works.EchoDue asked_on) h =
      by_test (PutKeeps Holds leg other came put) (asked_on == other.number) _ None
      (λ e. put_still (seen s) came put _ (none (same_leg other leg)) h) (λ e. tt)
    where
      none : (t : Bool) → pdu_bytes (if t then Text echo_answer ∷ [] else []) ≡ 0
      none true = refl
      none false = refl

  puts : (s : InProxy) (other : Leg) (came put : List Message) → Holds s came put
      → PutKeeps Holds leg other came put (put_of s other)
  puts s other came put h =
      by_test (PutKeeps Holds leg other came put) (is_client_leg other)
      (put_echo s other.number)
      (if is_server_leg s other then settled_pick (next s) else None)
      (λ e. echo_put s other came put s.work h)
      (λ e. by_test (PutKeeps Holds leg other came put) (is_server_leg s other)
      (settled_pick (next s)) None
      (λ f. put_here Holds leg other came put (settled_pick (next s)) (is_here s other h.is f)
      (settled_put came put (next s) (server_put s came put h))) (λ f. tt))

  -- ---- the role

  keeps : StepsKeep proxy_rules leg (λ s. Unit {0}) Holds
  keeps = record {
    up = λ s other cookie came put known. same_holds s (up s other) came put (same_up s other);
    head = λ s other text came put known.
        same_holds s (head s other text).0 came put (same_head s other text);
    pdu = λ s other count bytes came put known.
        same_row other (Pdu bytes) s came put (pdu s other count bytes)
        (same_pdu s other count bytes);
    packet = λ s other count named came put known. packet_row s other count named came put;
    put = λ s other came put known. puts s other came put;
    drawn = λ s other came put known.
        same_holds s (drawn s other) came put (same_drawn s other);
    mark = λ s other came put known. same_holds s (mark s other) came put (same_mark s other);
    ping = λ s other came put known. same_holds s (ping s other) came put (same_ping s other);
  }

  starts : Holds (first config) [] []
  starts = record { is = refl; window = unsent_sends [] [] refl; shut = λ e. refl }

  -- ---- what is refused

  refused_ack : (s : InProxy) (came put : List Message) (received available : ℕ)
      (channel : Cookie) → Holds s came put
      → RefusesFalseAcks (pdu_bytes put) (Ack received available channel)
      (on_ack s received available channel).1
  refused_ack s came put received available channel h =
      by_test Refuses (is_unknown s.edge) (unexpected s) _ (λ e. tt)
      (λ e. by (opener_of s.opening))
    where
      Refuses : Done → Type 0
      Refuses x = RefusesFalseAcks (pdu_bytes put) (Ack received available channel) x.1

      verdict : (t : InProxy) (v : Result (Unit {0}) BadAck)
          → IsFalse (pdu_bytes put) received available v → Refuses (acked_by t v)
      verdict t (Ok applied) is = tt
      verdict t (Err bad) is = is

      by : (o : Option Opener) → Refuses (ack_for s o received available channel)
      by None = tt
      by (Some opener) =
          by_test Refuses (same_cookie opener.channel channel)
          (acked s received available) (refuse s (refused.Cookie opener.channel channel))
          (λ e. verdict _ (ack_verdict s.window received available)
          (verdict_false s.window came put received available h.window))
          (λ e. tt)

  refused_is : (s : InProxy) (came put : List Message) (named : Named) → Holds s came put
      → RefusesFalseAcks (pdu_bytes put) named (on_is s named).1
  refused_is s came put (ConnB3 size version) h =
      by_test (λ (x : Done). RefusesFalseAcks (pdu_bytes put) (ConnB3 size version) x.1)
      (is_connection (opener_of s.opening) && is_unknown s.edge) _ _ (λ e. tt) (λ e. tt)
  refused_is s came put (InR1B2 size) h =
      by_test (λ (x : Done). RefusesFalseAcks (pdu_bytes put) (InR1B2 size) x.1)
      (is_replacement (opener_of s.opening) && is_unknown s.edge) _ _ (λ e. tt) (λ e. tt)
  refused_is s came put InR1B1 h =
      by_test (λ (x : Done). RefusesFalseAcks (pdu_bytes put) InR1B1 x.1)
      (has_passed s.handover) _ _ (λ e. tt) (λ e. tt)
  refused_is s came put (Ack received available channel) h =
      refused_ack s came put received available channel h
  refused_is s came put packet h = tt

  refused_packet : (s : InProxy) (came put : List Message) (count : Count) (named : Named)
      → Holds s came put
      → RefusesFalseAcks (pdu_bytes put) named (packet s leg count named).1
  refused_packet s came put count named h =
      by_test (λ (x : Done). RefusesFalseAcks (pdu_bytes put) named x.1) (is_server_leg s leg)
      (on_is s named) (unexpected s) (λ e. refused_is s came put named h) (λ e. tt)

pub in_proxy_sends : (config : InProxyConfig) (moves : List Move)
    → AreAllowed proxy_rules (started (first config)) moves
    → SendsWithin proxy_rules (is_leg config.number)
    (all_moved proxy_rules (started (first config)) moves)
in_proxy_sends config moves allowed =
    let p = all_moved proxy_rules (started (first config)) moves in
    let leg = is_leg config.number in
    let h = moves_keep proxy_rules leg (λ s. Unit {0}) (Holds config) (keeps config)
    (started (first config)) moves allowed (λ front may. tt) (starts config) in
    record {
      within = sends_within p.role.window (of_leg leg p.came) (of_leg leg p.put) h.window;
      refuses = λ count named.
          refused_packet config p.role (of_leg leg p.came) (of_leg leg p.put) count named h;
      pdus = λ count pdu. refl;
    }
