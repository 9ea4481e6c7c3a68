-- what waits in an in proxy came in turn
use Rattle.rh_window.specs.declared.recv_window.Ack as told
use Rattle.law_order.proofs.Vocabulary.{◌≡◌, ℕ, ◌+◌, ◌==◌, true, if◌then◌else◌, List, [], ◌∷◌, ◌++◌, length, Some, None, arith, rules, refl, sym, ap, ◌∙◌, subst, IfSome, Option}
use Rattle.rh_sig.specs.declared.named.Named.TheVariants as named
use Rattle.rh_line.specs.Lines as line
use Rattle.rh_shell.specs.Waiting as waits
use Rattle.rh_inproxy.specs.declared.state.Opening.TheVariants as openings
use Rattle.rh_inproxy.specs.declared.state.Successor.TheVariants as successors
use Rattle.law_moves.proofs.Vocabulary.{after_sent, may_send, by_test, Cookie, Named, Leg, Which, Current, Next, Due, Pdu, Packet, one_if, OnLeg, Move, started, all_moved, of_leg, count_of}
use Rattle.law_moves.proofs.Lemmas.{PutKeeps, StepsKeep, moves_keep, count_append, here_more, leg_is, one_counts}
use Rattle.law_role_inproxy.proofs.Vocabulary.{InProxyConfig, TellsServer, Told, Follows, Opening, Entry, Connects, Replaces, Opener, Successor, Work, Pick, or_else, InProxy, first, is_client_leg, is_server_leg, head, drawn, announcement, first_by, put_first, echo_by, put_echo, ack_due, ack_by, current_ack, next_ack, put_acks, is_newest, mark, put_end, settled, settled_pick, told_by, one_less, put_in_r2_a2, put_in_r1_a6, passed as pdu_passed, next_pdu, put_pdu, put as put_of}
use Rattle.law_role_inproxy.proofs.Vocabulary.{next, waiting_by, put_waiting, put_control, put_early, put_stream, put_behind, put_mark, ping, put_ping, rules as proxy_rules, is_leg}
use Rattle.law_role_server.proofs.Vocabulary.{is_out_r1_a8}
use Rattle.law_peers_room.proofs.InRoom.Seen.{Holds, Same, Seen, Sound, behind_of, followed_holds, put_one, same_holds, seen}
use Rattle.law_peers_room.proofs.InRoom.Came.{packet_holds, pdu_holds, up_holds}
use Rattle.law_peers_room.specs.InRoom.Waiting.{AreApart, WaitFrom, WaitsInTurn, passed}

-- ---- what leaves these alone

same_head : (s : InProxy) (leg : Leg) (text : List ℕ) → Same s (head s leg text).0
same_head s leg text = search rules

same_drawn : (s : InProxy) (leg : Leg) → Same s (drawn s leg)
same_drawn s leg = search rules

same_settled : (s : InProxy) → Same s (settled s)
same_settled s = search rules

same_mark : (s : InProxy) (leg : Leg) → Same s (mark s leg)
same_mark s leg =
    same_settled (if is_newest s leg then record s { newest_lost = true } else s)
    ∙ by_test (Same s) (is_newest s leg) _ s (λ e. refl) (λ e. refl)

same_ping : (s : InProxy) (leg : Leg) → Same s (ping s leg)
same_ping s leg = search rules

-- ---- what is put

module _ (own : ℕ) (leg : Leg) (came put : List OnLeg) where
  abbrev Puts : Pick → Type 0
  Puts pick = PutKeeps (Holds own) leg came put pick

  -- no OUT_R1/A8, and the state is sound
  abbrev Quiet : Pick → Type 0
  Quiet pick =
      IfSome pick (λ one. Holds own one.0 came put × (count_of is_out_r1_a8 (one.1 ∷ []) ≡ 0))

  quiet_put : (pick : Pick) → Quiet pick → Puts pick
  quiet_put None h = tt
  quiet_put (Some one) h = put_one own one.0 (leg, one.1) came put h.1 h.0

  or_put : (a b : Pick) → Puts a → Puts b → Puts (or_else a b)
  or_put None b h k = k
  or_put (Some pick) b h k = h

  announced : (s : InProxy) (o : Opener) (entry : Entry)
      → count_of is_out_r1_a8 (Packet (announcement s o entry) ∷ []) ≡ 0
  announced s o (Connects group) = refl
  announced s o (Replaces predecessor) = refl

  module _ (s : InProxy) (h : Holds own s came put) where
    quiet_first : (o : Opening) → Quiet (first_by s o)
    quiet_first (openings.Announces o) = (h, announced s o o.entry)
    quiet_first openings.AwaitsClient = tt
    quiet_first openings.AwaitsPacket = tt
    quiet_first (openings.WantsServer o) = tt
    quiet_first (openings.Announced o) = tt

    quiet_told : (z : Successor) → s.successor ≡ z → Quiet (told_by s z)
    quiet_told successors.Absent e = tt
    quiet_told (successors.Up number) e = tt
    quiet_told (successors.Joined of Told) e = tt
    quiet_told (successors.Joined of Follows) e = tt
    quiet_told (successors.Joined of (TellsServer behind)) e =
        by_test Quiet (behind == 0) (Some (
          record s { successor = successors.Joined of Told },
          Packet (named.InR2A2 of.cookie),
        )) None
        (λ f. let t : InProxy = record s { successor = successors.Joined of Told } in
        let same : Same s t =
        ap (λ (y : Successor). record (seen s) { behind = behind_of y }) (sym e) in
        (same_holds own s t came put same h, refl))
        (λ f. tt)

    quiet_ack : (which : Which) (cookie : Cookie) (o : Option told.Ack)
        → Quiet (ack_by s which cookie o)
    quiet_ack which cookie None = tt
    quiet_ack which cookie (Some ack) = (h, refl)

    quiet_next : (z : Successor) → Quiet (next_ack s z)
    quiet_next successors.Absent = tt
    quiet_next (successors.Up number) = tt
    quiet_next (successors.Joined of stage) = quiet_ack Next of.cookie (ack_due s Next)

    quiet_pdu : (pdus : List (List ℕ)) → Quiet (next_pdu s pdus)
    quiet_pdu [] = tt
    quiet_pdu (pdu ∷ pdus) =
        by_test Quiet (may_send s.window (length pdu))
        (Some (pdu_passed s (length pdu), Pdu pdu)) None
        (λ e. let t : InProxy = record s {
          line = line.after_take s.line;
          window = after_sent s.window (length pdu);
        } in
        (followed_holds own t came put h, refl)) (λ e. tt)

    quiet_end : Quiet (put_end s)
    quiet_end = search rules

    quiet_mark : Quiet (put_in_r1_a6 s)
    quiet_mark = search rules

    quiet_ping : Quiet (put_ping s)
    quiet_ping = search rules

    quiet_echo : (work : Work) (n : ℕ) → Quiet (echo_by s work n)
    quiet_echo work n = search rules

    -- the packet that waits longest
    less_behind : (z : Successor) → behind_of (one_less z) ≡ behind_of z
    less_behind successors.Absent = refl
    less_behind (successors.Up number) = refl
    less_behind (successors.Joined of Told) = refl
    less_behind (successors.Joined of Follows) = refl
    less_behind (successors.Joined of (TellsServer behind)) = refl

    waiting_put : is_server_leg s leg ≡ true → (dues : List Due) → s.waiting.due ≡ dues
        → Puts (waiting_by s dues)
    waiting_put on [] e = tt
    waiting_put on (due ∷ dues) e =
        let w = waits.with_due s.waiting dues in
        let all = subst (WaitFrom (passed own put) came) e h.turn in
        let apart = subst (λ (ds : List Due). AreApart ds) e h.apart in
        let t : Seen = record (seen s) { waiting = w } in
        subst (λ (o : Option ℕ). Sound own (record t { behind = o }) came
        (put ++ (leg, Packet due.packet) ∷ [])) (sym (less_behind s.successor)) (record {
          number = h.number;
          room = h.room;
          turn = subst (λ (n : ℕ). WaitFrom n came dues) (sym (one_passed due.packet)) all.1;
          apart = apart.1;
          low = h.low;
          high = h.high;
          none = h.none;
        })
      where
        here : leg ≡ is_leg own
        here =
            sym (leg_is (is_leg s.config.number) leg on)
            ∙ ap is_leg h.number

        one_passed : (m : Named) → passed own (put ++ (leg, Packet m) ∷ [])
            ≡ passed own put + one_if (is_out_r1_a8 m)
        one_passed m =
            subst (λ (l : Leg). passed own (put ++ (l, Packet m) ∷ [])
            ≡ passed own put + one_if (is_out_r1_a8 m)) (sym here)
            (ap (count_of is_out_r1_a8) (here_more (is_leg own) put (Packet m))
            ∙ count_append is_out_r1_a8 (of_leg (is_leg own) put) (Packet m ∷ [])
            ∙ ap (λ (n : ℕ). passed own put + n) (one_counts is_out_r1_a8 m))

    control_put : is_server_leg s leg ≡ true → Puts (put_control s)
    control_put on =
        or_put (put_early s) (put_acks s)
        (or_put (put_first s) (or_else (put_in_r2_a2 s) (put_waiting s))
        (quiet_put (put_first s) (quiet_first s.opening))
        (or_put (put_in_r2_a2 s) (put_waiting s)
        (quiet_put (put_in_r2_a2 s) (quiet_told s.successor refl))
        (waiting_put on s.waiting.due refl)))
        (or_put (current_ack s) (next_ack s s.successor)
        (quiet_put (current_ack s) (quiet_ack Current s.current.cookie (ack_due s Current)))
        (quiet_put (next_ack s s.successor) (quiet_next s.successor)))

    stream_put : Puts (put_stream s)
    stream_put =
        or_put (put_pdu s) (put_behind s)
        (quiet_put (put_pdu s) (quiet_pdu s.line.current.pdus))
        (or_put (put_mark s) (put_ping s)
        (or_put (put_end s) (put_in_r1_a6 s) (quiet_put (put_end s) quiet_end)
        (quiet_put (put_in_r1_a6 s) quiet_mark))
        (quiet_put (put_ping s) quiet_ping))

  settled_put : (pick : Pick) → Puts pick → Puts (settled_pick pick)
  settled_put None h = tt
  settled_put (Some pick) h =
      same_holds own pick.0 (settled pick.0) came (put ++ (leg, pick.1) ∷ [])
      (same_settled pick.0) h

  puts : (s : InProxy) → Holds own s came put → Puts (put_of s leg)
  puts s h =
      by_test Puts (is_client_leg leg) (put_echo s leg.number)
      (if is_server_leg s leg then settled_pick (next s) else None)
      (λ e. quiet_put (put_echo s leg.number) (quiet_echo s h s.work leg.number))
      (λ e. by_test Puts (is_server_leg s leg) (settled_pick (next s)) None
      (λ f. settled_put (next s)
      (or_put (put_control s) (put_stream s) (control_put s h f) (stream_put s h))) (λ f. tt))

-- ---- the law

keeps : (own : ℕ) → StepsKeep proxy_rules (Holds own)
keeps own = record {
  up = λ s leg cookie came put. up_holds own s leg came put;
  head = λ s leg text came put.
      same_holds own s (head s leg text).0 came put (same_head s leg text);
  pdu = λ s leg count bytes came put. pdu_holds own s leg count bytes came put;
  packet = λ s leg count m came put. packet_holds own s leg count m came put;
  put = λ s leg came put. puts own leg came put s;
  drawn = λ s leg came put. same_holds own s (drawn s leg) came put (same_drawn s leg);
  mark = λ s leg came put. same_holds own s (mark s leg) came put (same_mark s leg);
  ping = λ s leg came put. same_holds own s (ping s leg) came put (same_ping s leg);
}

starts : (config : InProxyConfig) → Holds config.number (first config) [] []
starts config = record {
  number = refl;
  room = refl;
  turn = refl;
  apart = tt;
  low = omega arith;
  high = omega arith;
  none = λ k above. refl;
}

pub waits_in_turn : (config : InProxyConfig) (moves : List Move)
    → WaitsInTurn config.number (all_moved proxy_rules (started (first config)) moves)
waits_in_turn config moves =
    let h = moves_keep proxy_rules (Holds config.number) (keeps config.number)
    (started (first config)) moves (starts config) in
    record { room = h.room; turn = h.turn; apart = h.apart }
