-- what an in proxy puts keeps that what its windows told was put
use Rattle.law_order.proofs.Vocabulary.{◌≡◌, ℕ, ◌==◌, ◌||◌, if◌then◌else◌, List, [], ◌∷◌, ◌++◌, length, Some, None, Ok, Err, refl, sym, ap, ◌∙◌, subst, arith, rules, nat_tests, IfSome, Option}
use Rattle.rh_sig.specs.declared.named.Named.TheVariants as named
use Rattle.rh_line.specs.Lines as line
use Rattle.rh_window.specs.Receiving as windows
use Rattle.rh_inproxy.specs.declared.state.Opening.TheVariants as openings
use Rattle.rh_inproxy.specs.declared.state.Successor.TheVariants as successors
use Rattle.law_moves.proofs.Vocabulary.{Receiver, may_send, Ack, by_test, Leg, Current, Next, Due, Message, Pdu, Packet, OnLeg, Move, started, all_moved, HasOne, of_leg}
use Rattle.law_moves.proofs.Lemmas.{RowKeeps, PutKeeps, any_rise, here_more, last_one_so}
use Rattle.law_role_inproxy.proofs.Vocabulary.{Entry, Connects, Replaces, InProxyConfig, TellsServer, Told, Follows, Opener, Opening, Successor, Done, Pick, or_else, InProxy, first, has_a5, is_client_leg, is_server_leg, head, drawn, announcement, first_by, put_first, put_echo, ack_due, ack_by, current_ack, next_ack, put_acks, mark, put_end, settled_pick, told_by, one_less, put_in_r2_a2, put_in_r1_a6, next_pdu, passed, put_pdu, put as put_of, next, waiting_by, put_waiting, put_control, put_early, put_stream}
use Rattle.law_role_inproxy.proofs.Vocabulary.{put_behind, put_mark, ping, put_ping, pdu, packet, rules as proxy_rules, is_leg}
use Rattle.law_role_inproxy.proofs.Refusing.Keeps.{server_is}
use Rattle.law_role_edges.proofs.Beside.{KeepBeside, moves_keep_beside}
use Rattle.law_role_edges.proofs.InPlaced.{Placed, Stands, placed, stands_always, stands_first}
use Rattle.law_role_edges.proofs.InTells.{packet_row, pdu_row, up_row}
use Rattle.law_role_edges.proofs.InTold.{IsEarly, IsNext, Same, Seen, Tells, Behind, stays, first_due, more, next_more, opened_more, same_drawn, same_head, same_mark, same_ping, same_settled, seen, settles, told_last, told_more}
use Rattle.law_role_edges.specs.ClientWindows.{TellsClient, TellsWindow}

module _ (config : InProxyConfig) where
  abbrev server : Leg
  server = is_leg config.number

  abbrev Holds : InProxy → List OnLeg → List OnLeg → Type 0
  Holds s came put = Tells config (seen s) put

  module _ (s : InProxy) (came put : List OnLeg) (h : Holds s came put)
      (p : Placed config.number s) where
    abbrev Goes : Pick → Type 0
    Goes pick = PutKeeps Holds server came put pick

    or_goes : (a b : Pick) → Goes a → Goes b → Goes (or_else a b)
    or_goes None b g k = k
    or_goes (Some pick) b g k = g

    abbrev IsQuiet : Pick → Type 0
    IsQuiet pick = IfSome pick (λ (one : InProxy × Message). Same s one.0)

    quiet_goes : (pick : Pick) → IsQuiet pick → Goes pick
    quiet_goes None quiet = tt
    quiet_goes (Some one) quiet =
        more config (seen one.0) put (server, one.1)
        (subst (λ (x : Seen). Tells config x put) (sym quiet) h)

    -- ---- the first packet

    tells : (o : Opener) (entry : Entry)
        → TellsWindow config.window (announcement s o entry)
    tells o (Connects group) = ap (λ (c : InProxyConfig). c.window) h.same
    tells o (Replaces predecessor) = ap (λ (c : InProxyConfig). c.window) h.same

    first_goes : (o : Opening) → Goes (first_by s o)
    first_goes (openings.Announces o) =
        let all = more config (seen s) put (server, Packet (announcement s o o.entry)) h in
        record {
          same = h.same;
          size = h.size;
          early = λ e. absurd cc;
          opened = λ e.
              subst (HasOne (TellsWindow config.window))
              (sym (here_more server put (Packet (announcement s o o.entry))))
              (last_one_so (TellsWindow config.window) (of_leg server put)
              (announcement s o o.entry) (tells o o.entry));
          current = all.current;
          next = all.next;
        }
    first_goes openings.AwaitsClient = tt
    first_goes openings.AwaitsPacket = tt
    first_goes (openings.WantsServer o) = tt
    first_goes (openings.Announced o) = tt

    -- ---- what is to be told of the next channel, and what waits

    with_heir : (z : Successor) (one : OnLeg) → IsNext config s.line put z
        → Tells config (record (seen s) { successor = z }) (put ++ one ∷ [])
    with_heir z one g =
        more config (record (seen s) { successor = z }) put one (record {
          same = h.same;
          size = h.size;
          early = h.early;
          opened = h.opened;
          current = h.current;
          next = g;
        })

    told_goes : (z : Successor) → s.successor ≡ z → Goes (told_by s z)
    told_goes successors.Absent e = tt
    told_goes (successors.Up number) e = tt
    told_goes (successors.Joined leg Told) e = tt
    told_goes (successors.Joined leg Follows) e = tt
    told_goes (successors.Joined leg (TellsServer behind)) e =
        by_test Goes (behind == 0) _ None
        (λ t. with_heir (successors.Joined leg Told) (server, Packet (named.InR2A2 leg.cookie))
        (subst (λ (z : Successor). IsNext config s.line put z) e h.next))
        (λ t. tt)

    less : (z : Successor) → IsNext config s.line put z → IsNext config s.line put (one_less z)
    less successors.Absent g = g
    less (successors.Up number) g = g
    less (successors.Joined leg Told) g = g
    less (successors.Joined leg Follows) g = g
    less (successors.Joined leg (TellsServer behind)) g = g

    waiting_goes : (dues : List Due) → Goes (waiting_by s dues)
    waiting_goes [] = tt
    waiting_goes (due ∷ dues) =
        with_heir (one_less s.successor) (server, Packet due.packet) (less s.successor h.next)

    -- ---- acknowledgements

    none_early : (ack : Ack) → ack_due s Current ≡ Some ack → IsEarly config s.line.current → ⊥
    none_early ack e early =
        by_test (λ (o : Option Ack). o ≡ Some ack → ⊥)
        (s.line.current.ended || has_a5 s Current) None (line.due s.line Current)
        (λ t f. absurd cc)
        (λ t f. first_due config.window ack
        (subst (λ (w : Receiver). windows.due w ≡ Some ack) early.1 f)) e

    current_goes : (o : Option Ack) → ack_due s Current ≡ o
        → Goes (ack_by s Current s.current.cookie o)
    current_goes None e = tt
    current_goes (Some ack) e =
        let one : OnLeg =
        (server, Packet (named.AckTo 0 ack.received ack.available s.current.cookie)) in
        record {
          same = h.same;
          size = h.size;
          early = λ f. absurd (none_early ack e (h.early f));
          opened = λ f. opened_more config put one (h.opened f);
          current = told_last config s.current.cookie put server ack.received ack.available;
          next = next_more config s.line put one s.successor h.next;
        }

    next_goes : (z : Successor) → s.successor ≡ z → Goes (next_ack s z)
    next_goes successors.Absent e = tt
    next_goes (successors.Up number) e = tt
    next_goes (successors.Joined leg stage) e = by (ack_due s Next)
      where
        by : (o : Option Ack) → Goes (ack_by s Next leg.cookie o)
        by None = tt
        by (Some ack) =
            let one : OnLeg =
            (server, Packet (named.AckTo 0 ack.received ack.available leg.cookie)) in
            record {
              same = h.same;
              size = h.size;
              early = h.early;
              opened = λ f. opened_more config put one (h.opened f);
              current =
                  let was = h.current in
                  let grows = told_more config s.current.cookie put one in
                  omega (arith, was, grows);
              next = subst (λ (z : Successor).
                  IsNext config (line.after_told s.line Next ack) (put ++ one ∷ []) z) (sym e)
                  (told_last config leg.cookie put server ack.received ack.available);
            }

    -- ---- RPC PDUs

    taken_behind : (pdus : List (List ℕ))
        → Behind config put s.current s.successor (line.taken pdus s.line)
    taken_behind [] =
        let both = stays config put s.line.has_next s.current s.successor s.line p.joined h.current
        h.next in (h.size, both.0, both.1)
    taken_behind (one ∷ pdus) =
        settles config put s.current s.successor
        (record (s.line) { current = line.released (one ∷ pdus) s.line.current }) p.joined p.done
        h.size h.current h.next

    pdu_goes : (pdus : List (List ℕ)) → s.line.current.pdus ≡ pdus → Goes (next_pdu s pdus)
    pdu_goes [] e = tt
    pdu_goes (one ∷ pdus) e =
        by_test Goes (may_send s.window (length one)) (Some (passed s (length one), Pdu one)) None
        (λ t.
        let all = taken_behind s.line.current.pdus in
        more config (seen (passed s (length one))) put (server, Pdu one) (record {
          same = h.same;
          size = all.0;
          early = λ f. absurd (let none = sym e ∙ (h.early f).0 in cc);
          opened = h.opened;
          current = all.1;
          next = all.2;
        }))
        (λ t. tt)

    quiet_end : IsQuiet (put_end s)
    quiet_end = search rules

    quiet_handover : IsQuiet (put_in_r1_a6 s)
    quiet_handover = search rules

    quiet_ping : IsQuiet (put_ping s)
    quiet_ping = search rules

    control_goes : Goes (put_control s)
    control_goes =
        or_goes (put_early s) (put_acks s)
        (or_goes (put_first s) _ (first_goes s.opening)
        (or_goes (put_in_r2_a2 s) (put_waiting s) (told_goes s.successor refl)
        (waiting_goes s.waiting.due)))
        (or_goes (current_ack s) (next_ack s s.successor) (current_goes (ack_due s Current) refl)
        (next_goes s.successor refl))

    stream_goes : Goes (put_stream s)
    stream_goes =
        or_goes (put_pdu s) (put_behind s) (pdu_goes s.line.current.pdus refl)
        (or_goes (put_mark s) (put_ping s)
        (or_goes (put_end s) (put_in_r1_a6 s) (quiet_goes (put_end s) quiet_end)
        (quiet_goes (put_in_r1_a6 s) quiet_handover))
        (quiet_goes (put_ping s) quiet_ping))

    settled_goes : (pick : Pick) → Goes pick → Goes (settled_pick pick)
    settled_goes None goes = tt
    settled_goes (Some one) goes =
        subst (λ (x : Seen). Tells config x (put ++ (server, one.1) ∷ []))
        (sym (same_settled one.0)) goes

    server_goes : Goes (settled_pick (next s))
    server_goes =
        settled_goes (next s)
        (or_goes (put_control s) (put_stream s) control_goes stream_goes)

    quiet_echo : (number : ℕ) → IsQuiet (put_echo s number)
    quiet_echo number = search rules

    echo_goes : (leg : Leg) (pick : Pick) → IsQuiet pick → PutKeeps Holds leg came put pick
    echo_goes leg None quiet = tt
    echo_goes leg (Some one) quiet =
        more config (seen one.0) put (leg, one.1)
        (subst (λ (x : Seen). Tells config x put) (sym quiet) h)

  put_row : (s : InProxy) (leg : Leg) (came put : List OnLeg)
      → Stands config.number s came put → Holds s came put
      → PutKeeps Holds leg came put (put_of s leg)
  put_row s leg came put a h =
      let p = placed config.number s came put a in
      by_test (PutKeeps Holds leg came put) (is_client_leg leg) (put_echo s leg.number)
      (if is_server_leg s leg then settled_pick (next s) else None)
      (λ e. echo_goes s came put h p leg (put_echo s leg.number)
      (quiet_echo s came put h p leg.number))
      (λ e. by_test (PutKeeps Holds leg came put) (is_server_leg s leg) (settled_pick (next s))
      None
      (λ f. subst (λ (l : Leg). PutKeeps Holds l came put (settled_pick (next s)))
      (server_is config.number s came put a.0 leg f) (server_goes s came put h p)) (λ f. tt))

  -- ---- the role

  same_holds : (s t : InProxy) (came put : List OnLeg) → Same s t → Holds s came put
      → Holds t came put
  same_holds s t came put same h = subst (λ (x : Seen). Tells config x put) (sym same) h

  row_on : (one : OnLeg) (came put : List OnLeg) (x : Done) → Tells config (seen x.0) put
      → RowKeeps Holds one came put x
  row_on one came put (t, Ok taken) h = h
  row_on one came put (t, Err why) h = h

  abbrev MayUp : InProxy → Leg → Type 0
  MayUp s leg = Unit {0}

  keeps : KeepBeside proxy_rules MayUp (Stands config.number) Holds
  keeps = record {
    up = λ s leg cookie came put may a h.
        up_row config.number config s put h (placed config.number s came put a) leg;
    head = λ s leg text came put a.
        same_holds s (head s leg text).0 came put (same_head s leg text);
    pdu = λ s leg count bytes came put a h.
        row_on (leg, Pdu bytes) came put (pdu s leg count bytes)
        (pdu_row config.number config s put h (placed config.number s came put a) leg count
        bytes);
    packet = λ s leg count m came put a h.
        row_on (leg, Packet m) came put (packet s leg count m)
        (packet_row config.number config s put h (placed config.number s came put a) leg count m);
    put = put_row;
    drawn = λ s leg came put a. same_holds s (drawn s leg) came put (same_drawn s leg);
    mark = λ s leg came put a. same_holds s (mark s leg) came put (same_mark s leg);
    ping = λ s leg came put a. same_holds s (ping s leg) came put (same_ping s leg);
  }

pub in_tells : (config : InProxyConfig) (moves : List Move)
    → TellsClient config (all_moved proxy_rules (started (first config)) moves)
in_tells config moves =
    let h = moves_keep_beside proxy_rules (MayUp config) (Stands config.number) (Holds config)
    (keeps config) (stands_always config.number) (started (first config)) moves
    (any_rise proxy_rules (MayUp config) (λ s leg. tt) (started (first config)) moves)
    (stands_first config) (record {
      same = refl;
      size = refl;
      early = λ e. (refl, refl);
      opened = λ e. absurd cc;
      current = grind (arith, nat_tests);
      next = tt;
    }) in
    record { opened = h.opened; current = h.current; next = h.next }
