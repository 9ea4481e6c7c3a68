-- an in proxy passes on the acknowledgements of the client
use Rattle.rh_window.specs.declared.recv_window.Ack as told
use Rattle.law_order.proofs.Vocabulary.{◌≡◌, ℕ, ◌==◌, Bool, true, false, ◌&&◌, not, List, [], ◌∷◌, ◌++◌, Some, None, arith, refl, sym, ◌∙◌, subst, rules, and_parts, eqb-true, if◌then◌else◌, AllByRecursion, Option}
use Rattle.rh_shell.specs.Waiting as waits
use Rattle.rh_inproxy.specs.declared.state.InProxyConfig.{InProxyConfig}
use Rattle.rh_inproxy.specs.declared.state.Entry.{Entry}
use Rattle.rh_inproxy.specs.declared.state.Entry.TheVariants.{Connects, Replaces}
use Rattle.rh_inproxy.specs.declared.state.Opener.{Opener}
use Rattle.rh_inproxy.specs.declared.state.Opening.{Opening}
use Rattle.rh_inproxy.specs.declared.state.Successor.{Successor}
use Rattle.rh_inproxy.specs.declared.state.Work.{Work}
use Rattle.rh_inproxy.specs.Answers.{Done, Pick, or_else, unexpected}
use Rattle.rh_inproxy.specs.State.{InProxy, first, channel_of, has_a5, is_client_leg, is_server_leg}
use Rattle.rh_inproxy.specs.Opening.{up, head, drawn, announcement, first_by, put_first, echo_by, put_echo, on_conn_b1}
use Rattle.rh_inproxy.specs.Acknowledging.{forward_by, forwarded, ack_due, ack_by, put_ack, current_ack, next_ack, put_acks}
use Rattle.rh_inproxy.specs.Ending.{is_newest, mark, on_end_a1, put_end, settled, settled_pick}
use Rattle.rh_inproxy.specs.InReplacement.{on_in_r1_a1, on_in_r1_a5, told_by, put_in_r2_a2, one_less, put_in_r1_a6}
use Rattle.rh_inproxy.specs.Passing.{next_pdu, put_pdu}
use Rattle.rh_inproxy.specs.Putting.{put as put_of, next, waiting_by, put_waiting, put_control, put_early, put_stream, put_behind, put_mark}
use Rattle.rh_inproxy.specs.Time.{ping, put_ping, on_keep_alive}
use Rattle.rh_inproxy.specs.Machine.{pdu, packet, on_channel, on_channel_by, on_ci, on_is, rules as proxy_rules}
use Rattle.rh_inproxy.specs.declared.state.Opening.TheVariants as openings
use Rattle.rh_inproxy.specs.declared.state.Successor.TheVariants as successors
use Rattle.law_moves.proofs.Vocabulary.{by_test, Cookie, Named, ConnB1, InR1A1, InR1A5, AckTo, OutR1A7, OutR1A8, KeepAlive, EndA1, Leg, ClientIn, Which, Current, Next, Count, Due, Pdu, Packet, OnLeg, Move, started, all_moved, HasOn}
use Rattle.law_moves.proofs.Lemmas.{RowKeeps, PutKeeps, StepsKeep, moves_keep}
use Rattle.law_role_windows.proofs.Acknowledging.Waiting.{EachIs, Joins, forwarded_joins}
use Rattle.law_role_windows.proofs.Acknowledging.Sources.{IsFrom, has_on_last, from_stays}
use Rattle.law_role_windows.proofs.Acknowledging.Passing.{Of, each_stays, put_one}
use Rattle.law_role_windows.proofs.Acknowledging.Passing as passing
use Rattle.law_role_windows.specs.Acknowledging.Acks.{OfPacket}

-- what the facts are about: what waits, and the own window
record Seen : Type 0 where
  waiting : waits.Waiting
  window : ℕ

abbrev seen : InProxy → Seen
seen s = record { waiting = s.waiting; window = s.config.window }

module _ (own : ℕ) where
  abbrev Is : Of Named
  Is = IsFrom ClientIn 3 own

  abbrev Sound : Of Seen
  Sound came x = (x.window ≡ own) × EachIs (Is came) x.waiting.due

  abbrev Holds : InProxy → List OnLeg → List OnLeg → Type 0
  Holds = passing.Holds seen Is Sound

  abbrev Same : InProxy → InProxy → Type 0
  Same = passing.Same seen Is Sound

  -- ---- what leaves these alone

  same_up : (s : InProxy) (leg : Leg) → Same s (up s leg)
  same_up s leg = search rules

  same_head : (s : InProxy) (leg : Leg) (text : List ℕ) → Same s (head s leg text).0
  same_head s leg text = search rules

  same_conn_b1 : (s : InProxy) (n : ℕ) (a b : Cookie) (c : ℕ) (d : Cookie)
      → Same s (on_conn_b1 s n a b c d).0
  same_conn_b1 s n a b c d = search rules

  same_in_r1_a1 : (s : InProxy) (n : ℕ) (a b c : Cookie) → Same s (on_in_r1_a1 s n a b c).0
  same_in_r1_a1 s n a b c = search rules

  same_is : (s : InProxy) (named : Named) → Same s (on_is s named).0
  same_is s named = search rules

  same_keep_alive : (s : InProxy) (which : Which) (n : ℕ) → Same s (on_keep_alive s which n).0
  same_keep_alive s which n = search rules

  same_end_a1 : (s : InProxy) (which : Which) → Same s (on_end_a1 s which).0
  same_end_a1 s which = search rules

  same_in_r1_a5 : (s : InProxy) (which : Which) (c : Cookie) → Same s (on_in_r1_a5 s which c).0
  same_in_r1_a5 s which c = search rules

  same_pdu : (s : InProxy) (leg : Leg) (count : Count) (bytes : List ℕ)
      → Same s (pdu s leg count bytes).0
  same_pdu s leg count bytes = search rules

  same_drawn : (s : InProxy) (leg : Leg) → Same s (drawn s leg)
  same_drawn s leg = search rules

  same_settled : (s : InProxy) → Same s (settled s)
  same_settled s = search rules

  same_mark : (s : InProxy) (leg : Leg) → Same s (mark s leg)
  same_mark s leg =
      same_settled (if is_newest s leg then record s { newest_lost = true } else s)
      ∙ by_test (Same s) (is_newest s leg) _ s (λ e. refl) (λ e. refl)

  same_ping : (s : InProxy) (leg : Leg) → Same s (ping s leg)
  same_ping s leg = search rules

  -- ---- rows

  sound_stays : (came : List OnLeg) (one : OnLeg) (x : Seen) → Sound came x
      → Sound (came ++ one ∷ []) x
  sound_stays came one x h =
      (h.0, each_stays Is (from_stays ClientIn 3 own) came one x.waiting.due h.1)

  came_one : (s : InProxy) (one : OnLeg) (came put : List OnLeg) → Holds s came put
      → Holds s (came ++ one ∷ []) put
  came_one = passing.came_one seen Is Sound (from_stays ClientIn 3 own) sound_stays

  same_row : (s : InProxy) (one : OnLeg) (came put : List OnLeg) → Holds s came put → (x : Done)
      → Same s x.0 → RowKeeps Holds one came put x
  same_row = passing.same_row seen Is Sound (from_stays ClientIn 3 own) sound_stays

  same_holds : (s t : InProxy) (came put : List OnLeg) → Same s t → Holds s came put
      → Holds t came put
  same_holds = passing.same_holds seen Is Sound

  -- a packet is to be forwarded
  forward_row : (s : InProxy) (one : OnLeg) (came put : List OnLeg) → Holds s came put
      → (named : Named) → Is (came ++ one ∷ []) named
      → RowKeeps Holds one came put (forwarded s named)
  forward_row s one came put h named is =
      by (waits.forwarded s.waiting named) (forwarded_joins (Is (came ++ one ∷ [])) s.waiting named)
    where
      by : (r : waits.Waiting × Bool) → Joins (Is (came ++ one ∷ [])) named s.waiting r
          → RowKeeps Holds one came put (forward_by s r)
      by (w, true) joins = let k = came_one s one came put h in ((k.0.0, joins is k.0.1), k.1)
      by (w, false) same =
          subst (λ (v : waits.Waiting). Holds (record s { waiting = v }) came put) (sym same) h

  ack_row : (s : InProxy) (leg : Leg) (which : Which) (to received available : ℕ) (channel : Cookie)
      (came put : List OnLeg) → is_client_leg leg ≡ true → Holds s came put
      → RowKeeps Holds (leg, Packet (AckTo to received available channel)) came put
      (on_channel s which (AckTo to received available channel))
  ack_row s leg which to received available channel came put on h =
      by_test (RowKeeps Holds one came put) (not (has_a5 s which) && (to == 3))
      (forwarded s (AckTo 3 received available channel)) (unexpected s)
      (λ t. forward_row s one came put h (AckTo 3 received available channel)
      (λ e. here t)) (λ t. h)
    where
      one : OnLeg
      one = (leg, Packet (AckTo to received available channel))

      here : (not (has_a5 s which) && (to == 3)) ≡ true
          → HasOn ClientIn (AckTo 3 received available channel) (came ++ one ∷ [])
      here t =
          let is : to ≡ 3 = eqb-true to 3 (and_parts (not (has_a5 s which)) (to == 3) t).1 in
          subst (λ (n : ℕ).
          HasOn ClientIn (AckTo n received available channel) (came ++ one ∷ [])) is
          (has_on_last ClientIn leg (AckTo to received available channel) came on)

  channel_row : (s : InProxy) (leg : Leg) (which : Which) (named : Named) (came put : List OnLeg)
      → is_client_leg leg ≡ true → Holds s came put
      → RowKeeps Holds (leg, Packet named) came put (on_channel s which named)
  channel_row s leg which (AckTo to received available channel) came put on h =
      ack_row s leg which to received available channel came put on h
  channel_row s leg which (OutR1A7 to successor) came put on h =
      by_test (RowKeeps Holds (leg, Packet (OutR1A7 to successor)) came put)
      (not (has_a5 s which) && (to == 2)) (forwarded s (OutR1A8 2 successor)) (unexpected s)
      (λ t. forward_row s (leg, Packet (OutR1A7 to successor)) came put h (OutR1A8 2 successor) tt)
      (λ t. h)
  channel_row s leg which (KeepAlive keepalive) came put on h =
      same_row s (leg, Packet (KeepAlive keepalive)) came put h (on_keep_alive s which keepalive)
      (same_keep_alive s which keepalive)
  channel_row s leg which EndA1 came put on h =
      same_row s (leg, Packet EndA1) came put h (on_end_a1 s which) (same_end_a1 s which)
  channel_row s leg which (InR1A5 successor) came put on h =
      same_row s (leg, Packet (InR1A5 successor)) came put h (on_in_r1_a5 s which successor)
      (same_in_r1_a5 s which successor)
  channel_row s leg which packet came put on h = h

  on_row : (s : InProxy) (leg : Leg) (o : Option Which) (named : Named) (came put : List OnLeg)
      → is_client_leg leg ≡ true → Holds s came put
      → RowKeeps Holds (leg, Packet named) came put (on_channel_by s o named)
  on_row s leg None named came put on h = h
  on_row s leg (Some which) named came put on h = channel_row s leg which named came put on h

  ci_row : (s : InProxy) (leg : Leg) (n : ℕ) (named : Named) (came put : List OnLeg)
      → is_client_leg leg ≡ true → Holds s came put
      → RowKeeps Holds (leg, Packet named) came put (on_ci s n named)
  ci_row s leg n (ConnB1 v1 v2 v3 v4 v5 v6) came put on h =
      same_row s (leg, Packet (ConnB1 v1 v2 v3 v4 v5 v6)) came put h (on_conn_b1 s n v2 v3 v5 v6)
      (same_conn_b1 s n v2 v3 v5 v6)
  ci_row s leg n (InR1A1 v1 v2 v3 v4) came put on h =
      same_row s (leg, Packet (InR1A1 v1 v2 v3 v4)) came put h (on_in_r1_a1 s n v2 v3 v4)
      (same_in_r1_a1 s n v2 v3 v4)
  ci_row s leg n packet came put on h = on_row s leg (channel_of s n) packet came put on h

  packet_row : (s : InProxy) (leg : Leg) (count : Count) (named : Named) (came put : List OnLeg)
      → Holds s came put
      → RowKeeps Holds (leg, Packet named) came put (packet s leg count named)
  packet_row s leg count named came put h =
      by_test (RowKeeps Holds (leg, Packet named) came put) (is_client_leg leg)
      (on_ci s leg.number named) (if is_server_leg s leg then on_is s named else unexpected s)
      (λ t. ci_row s leg leg.number named came put t h)
      (λ t. by_test (RowKeeps Holds (leg, Packet named) came put) (is_server_leg s leg)
      (on_is s named) (unexpected s)
      (λ u. same_row s (leg, Packet named) came put h (on_is s named) (same_is s named)) (λ u. h))

  -- ---- what is put

  module _ (leg : Leg) (came put : List OnLeg) where
    abbrev Puts : Pick → Type 0
    Puts pick = PutKeeps Holds leg came put pick

    abbrev Quiet : InProxy → Pick → Type 0
    Quiet = passing.Quiet seen Is Sound came leg

    quiet_put : (s : InProxy) (pick : Pick) → Quiet s pick → Holds s came put → Puts pick
    quiet_put = passing.quiet_put seen Is Sound leg came put

    or_put : (a b : Pick) → Puts a → Puts b → Puts (or_else a b)
    or_put None b h k = k
    or_put (Some pick) b h k = h

    announced : (s : InProxy) (o : Opener) (entry : Entry) → s.config.window ≡ own
        → Is came (announcement s o entry)
    announced s o (Connects group) e = e
    announced s o (Replaces predecessor) e = e

    quiet_first : (s : InProxy) (o : Opening) → s.config.window ≡ own → Quiet s (first_by s o)
    quiet_first s (openings.Announces o) e = (refl, announced s o o.entry e)
    quiet_first s o e = tt

    quiet_told : (s : InProxy) (z : Successor) → Quiet s (told_by s z)
    quiet_told s z = search rules

    quiet_ack : (s : InProxy) (which : Which) (cookie : Cookie) (o : Option told.Ack)
        → Quiet s (ack_by s which cookie o)
    quiet_ack s which cookie None = tt
    quiet_ack s which cookie (Some ack) = (refl, λ e. absurd (omega (arith, e)))

    quiet_pdu : (s : InProxy) (pdus : List (List ℕ)) → Quiet s (next_pdu s pdus)
    quiet_pdu s pdus = search rules

    quiet_end : (s : InProxy) → Quiet s (put_end s)
    quiet_end s = search rules

    quiet_mark : (s : InProxy) → Quiet s (put_in_r1_a6 s)
    quiet_mark s = search rules

    quiet_ping : (s : InProxy) → Quiet s (put_ping s)
    quiet_ping s = search rules

    quiet_echo : (s : InProxy) (work : Work) (n : ℕ) → Quiet s (echo_by s work n)
    quiet_echo s work n = search rules

    waiting_put : (s : InProxy) (dues : List Due) → EachIs (Is came) dues → Holds s came put
        → Puts (waiting_by s dues)
    waiting_put s [] all h = tt
    waiting_put s (due ∷ dues) all h =
        let w = waits.with_due s.waiting dues in
        put_one seen Is Sound (record s { waiting = w; successor = one_less s.successor }) came
        put (leg, Packet due.packet) all.0 ((h.0.0, all.1), h.1)

    ack_put : (s : InProxy) (which : Which) (cookie : Cookie) → Holds s came put
        → Puts (put_ack s which cookie)
    ack_put s which cookie h =
        quiet_put s (put_ack s which cookie) (quiet_ack s which cookie (ack_due s which)) h

    next_put : (s : InProxy) (z : Successor) → Holds s came put → Puts (next_ack s z)
    next_put s successors.Absent h = tt
    next_put s (successors.Up number) h = tt
    next_put s (successors.Joined client stage) h = ack_put s Next client.cookie h

    control_put : (s : InProxy) → Holds s came put → Puts (put_control s)
    control_put s h =
        or_put (put_early s) (put_acks s)
        (or_put (put_first s) _ (quiet_put s (put_first s) (quiet_first s s.opening h.0.0) h)
        (or_put (put_in_r2_a2 s) (put_waiting s)
        (quiet_put s (put_in_r2_a2 s) (quiet_told s s.successor) h)
        (waiting_put s s.waiting.due h.0.1 h)))
        (or_put (current_ack s) (next_ack s s.successor) (ack_put s Current s.current.cookie h)
        (next_put s s.successor h))

    behind_put : (s : InProxy) → Holds s came put → Puts (put_behind s)
    behind_put s h =
        or_put (put_mark s) (put_ping s)
        (or_put (put_end s) (put_in_r1_a6 s) (quiet_put s (put_end s) (quiet_end s) h)
        (quiet_put s (put_in_r1_a6 s) (quiet_mark s) h))
        (quiet_put s (put_ping s) (quiet_ping s) h)

    server_put : (s : InProxy) → Holds s came put → Puts (next s)
    server_put s h =
        or_put (put_control s) (put_stream s) (control_put s h)
        (or_put (put_pdu s) (put_behind s)
        (quiet_put s (put_pdu s) (quiet_pdu s s.line.current.pdus) h) (behind_put s h))

    settled_put : (pick : Pick) → Puts pick → Puts (settled_pick pick)
    settled_put None h = tt
    settled_put (Some pick) h =
        same_holds pick.0 (settled pick.0) came (put ++ (leg, pick.1) ∷ [])
        (same_settled pick.0) h

    puts : (s : InProxy) → Holds s came put → Puts (put_of s leg)
    puts s h =
        by_test Puts (is_client_leg leg) (put_echo s leg.number)
        (if is_server_leg s leg then settled_pick (next s) else None)
        (λ e. quiet_put s (put_echo s leg.number) (quiet_echo s s.work leg.number) h)
        (λ e. by_test Puts (is_server_leg s leg) (settled_pick (next s)) None
        (λ f. settled_put (next s) (server_put s h)) (λ f. tt))

  -- ---- the role

  keeps : StepsKeep proxy_rules Holds
  keeps = record {
    up = λ s leg cookie came put. same_holds s (up s leg) came put (same_up s leg);
    head = λ s leg text came put.
        same_holds s (head s leg text).0 came put (same_head s leg text);
    pdu = λ s leg count bytes came put h.
        same_row s (leg, Pdu bytes) came put h (pdu s leg count bytes) (same_pdu s leg count bytes);
    packet = packet_row;
    put = λ s leg came put. puts leg came put s;
    drawn = λ s leg came put.
        same_holds s (drawn s leg) came put (same_drawn s leg);
    mark = λ s leg came put. same_holds s (mark s leg) came put (same_mark s leg);
    ping = λ s leg came put. same_holds s (ping s leg) came put (same_ping s leg);
  }

-- behind all moves
pub in_proxy_from : (config : InProxyConfig) (moves : List Move)
    → AllByRecursion
    (OfPacket (IsFrom ClientIn 3 config.window
    (all_moved proxy_rules (started (first config)) moves).came))
    (all_moved proxy_rules (started (first config)) moves).put
in_proxy_from config moves =
    (moves_keep proxy_rules (Holds config.window) (keeps config.window) (started (first config))
    moves ((refl, tt), tt)).1
