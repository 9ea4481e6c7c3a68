-- an in proxy's legs come up once each: its ci legs by their numbers, and its is leg
use Rattle.rh_window.specs.declared.recv_window.Ack as told
use Rattle.law_order.proofs.Vocabulary.{◌≡◌, ℕ, ◌+◌, ◌-◌, ◌==◌, ◌<◌, ◌≤◌, ◌&&◌, ◌||◌, List, [], ◌∷◌, length, Bool, true, false, not, Some, None, Ok, Err, refl, sym, ap, ◌∙◌, subst, rules, arith, nat_le, if◌then◌else◌, Option, Result, nat_tests}
use Rattle.rh_sig.specs.declared.named.Named.TheVariants.{Ack}
use Rattle.rh_line.specs.Lines as line
use Rattle.rh_shell.specs.declared.answers.Refused.TheVariants as refused
use Rattle.rh_inproxy.specs.declared.state.InProxyConfig.{InProxyConfig}
use Rattle.rh_inproxy.specs.declared.opening.TheConstants.{GREATEST_LENGTHS, KEEPALIVE}
use Rattle.rh_inproxy.specs.declared.state.ClientLeg.{ClientLeg}
use Rattle.rh_inproxy.specs.declared.state.Entry.TheVariants.{Connects, Replaces}
use Rattle.rh_inproxy.specs.declared.state.Handover.{Handover}
use Rattle.rh_inproxy.specs.declared.state.Handover.TheVariants.{Before, Came, Passed}
use Rattle.rh_inproxy.specs.declared.state.Joining.{Joining}
use Rattle.rh_inproxy.specs.declared.state.Joining.TheVariants.{TellsServer, Follows}
use Rattle.rh_inproxy.specs.declared.state.Opener.{Opener}
use Rattle.rh_inproxy.specs.declared.state.Opening.{Opening}
use Rattle.rh_inproxy.specs.declared.state.Opening.TheVariants.{AwaitsClient, AwaitsPacket, WantsServer, Announces, Announced}
use Rattle.rh_inproxy.specs.declared.state.Successor.{Successor}
use Rattle.rh_inproxy.specs.declared.state.Successor.TheVariants.{Absent, Joined}
use Rattle.rh_inproxy.specs.declared.state.Work.{Work}
use Rattle.rh_inproxy.specs.Answers.{Done, Pick, or_else, taken, refuse, unexpected}
use Rattle.rh_inproxy.specs.State.{InProxy, first, is_server_leg, is_client_leg, channel_of, has_come, has_a5, follows, same_cookie}
use Rattle.rh_inproxy.specs.Opening.{echo_answer, wants, may_up, was_up, up, wants_server, had_client, has_server, newest, newest_by, is_absent, accepts, accepts_later, may_accept, accepted, connected, head, head_by, drawn, is_first, opener_of, awaits_packet, opener, opened, kept_for, on_first_in_r1_a1, on_conn_b1, on_conn_b3, put_first, first_by, put_echo, echo_by}
use Rattle.rh_inproxy.specs.Acknowledging.{on_ack_to, on_ack, put_acks, current_ack, next_ack, ack_by, ack_due}
use Rattle.rh_inproxy.specs.Ending.{on_end_a1, mark, put_end, settled, settled_pick, is_newest}
use Rattle.rh_inproxy.specs.InReplacement.{joined, join, is_newcomer, on_later_in_r1_a1, on_in_r1_a1, on_in_r1_a5, on_in_r1_b1, on_in_r1_b2, told_by, put_in_r2_a2, one_less, finish_by, finished, hand_over, mark_by, put_in_r1_a6}
use Rattle.rh_inproxy.specs.OutReplacement.{on_out_r1_a7}
use Rattle.rh_inproxy.specs.Passing.{passed, next_pdu, put_pdu}
use Rattle.rh_inproxy.specs.Putting.{put, next, put_waiting, waiting_by, put_control, put_early, put_stream, put_behind, put_mark}
use Rattle.rh_inproxy.specs.Time.{on_keep_alive, ping, put_ping}
use Rattle.rh_inproxy.specs.Machine.{packet, pdu, on_ci, on_is, on_channel, on_channel_by, rules as proxy_rules}
use Rattle.rh_inproxy.specs.declared.state.Joining.TheVariants as joining
use Rattle.rh_inproxy.specs.declared.state.Successor.TheVariants as successors
use Rattle.rh_inproxy.specs.declared.state.Work.TheVariants as works
use Rattle.law_moves.proofs.Vocabulary.{may_send, by_test, same_number, Cookie, Named, ConnB1, ConnB3, InR1A1, InR1A5, InR1B1, InR1B2, InR2A2, OutR1A7, EndA1, EndA2, AckTo, KeepAlive, Ping, HttpFault, Asked, request_verdict, Leg, LegKind, ClientOut, OutServer, ClientIn, InServer, Which, Current, Next, Count, Due, with_due, Text, Pdu, Packet, kind_number, Move, Up, HeadCame, PduCame, PacketCame, Puts, IsDrawn, Marks, Pings, Passage, moved}
use Rattle.law_moves.proofs.Lemmas.{both}
use Rattle.law_node_causes.proofs.MoveRoles.{by_row, behind_put, by_put}
use Rattle.law_node_causes.proofs.Sorts.{or_true}
use Rattle.law_node_causes.specs.Numbers.{AreNumbered, IsAbove}
use Rattle.law_node_causes.specs.Once.{ComesUpOnce}

-- its numbers, how far its first legs are, the ci leg of its current channel, and the one behind it
pub record Legs : Type 0 where
  pub config : InProxyConfig
  pub opening : Opening
  pub current : ClientLeg
  pub successor : Successor

abbrev pub legs : InProxy → Legs
legs s = record {
  config = s.config;
  opening = s.opening;
  current = s.current;
  successor = s.successor;
}

abbrev pub Same : InProxy → InProxy → Type 0
Same s t = legs t ≡ legs s

-- no ci leg has a number below the first
pub record AreInOrder (x : Legs) : Type 0 where
  pub first : x.config.number ≤ x.current.number
  pub behind : IsAbove x.current.number x.successor

abbrev pub Holds : InProxy → Type 0
Holds s = AreInOrder (legs s)

-- its numbers stay; a leg that was up was up from then on
pub record Grows (x y : Legs) : Type 0 where
  pub config : y.config ≡ x.config
  pub client : had_client x.opening ≡ true → had_client y.opening ≡ true
  pub server : has_server x.opening ≡ true → has_server y.opening ≡ true
  pub newest : newest_by x.current x.successor ≤ newest_by y.current y.successor
  pub numbered : AreInOrder y

abbrev pub Later : InProxy → InProxy → Type 0
Later s t = Grows (legs s) (legs t)

grows_self : (x : Legs) → AreInOrder x → Grows x x
grows_self x are = record {
  config = refl;
  client = λ h. h;
  server = λ h. h;
  newest = omega arith;
  numbered = are;
}

later_same : (s t : InProxy) → Holds s → Same s t → Later s t
later_same s t are same = subst (Grows (legs s)) (sym same) (grows_self (legs s) are)

-- ---- the next channel becomes current

follows_grows : (s : InProxy) (z : Successor) (has_next : Bool)
    → Grows (legs s) (record (legs s) { successor = z })
    → Grows (legs s) (record (legs s) {
      current = (follows has_next s.current z).0;
      successor = (follows has_next s.current z).1;
    })
follows_grows s Absent true g = g
follows_grows s Absent false g = g
follows_grows s (successors.Up number) true g = g
follows_grows s (successors.Up number) false g = g
follows_grows s (Joined leg stage) true g = g
follows_grows s (Joined leg stage) false g = record {
  config = g.config;
  client = g.client;
  server = g.server;
  newest = g.newest;
  numbered = record {
    first = omega (arith, g.numbered.first, g.numbered.behind);
    behind = tt;
  };
}

-- ---- rows

same_ack_to : (s : InProxy) (which : Which) (a b c : ℕ) (d : Cookie)
    → Same s (on_ack_to s which a b c d).0
same_ack_to s which a b c d = search rules

same_out_r1_a7 : (s : InProxy) (which : Which) (a : ℕ) (b : Cookie)
    → Same s (on_out_r1_a7 s which a b).0
same_out_r1_a7 s which a b = search rules

same_keep_alive : (s : InProxy) (which : Which) (a : ℕ) → Same s (on_keep_alive s which a).0
same_keep_alive s which a = search rules

same_end_a1 : (s : InProxy) (which : Which) → Same s (on_end_a1 s which).0
same_end_a1 s which = search rules

same_conn_b3 : (s : InProxy) (a : ℕ) → Same s (on_conn_b3 s a).0
same_conn_b3 s a = search rules

same_in_r1_b2 : (s : InProxy) (a : ℕ) → Same s (on_in_r1_b2 s a).0
same_in_r1_b2 s a = search rules

same_in_r1_b1 : (s : InProxy) → Same s (on_in_r1_b1 s).0
same_in_r1_b1 s = search rules

same_ack : (s : InProxy) (a b : ℕ) (c : Cookie) → Same s (on_ack s a b c).0
same_ack s a b c = search rules

same_pdu : (s : InProxy) (leg : Leg) (count : Count) (bytes : List ℕ)
    → Same s (pdu s leg count bytes).0
same_pdu s leg count bytes = search rules

-- the first packet on the first ci leg
opened_later : (s : InProxy) (o : Opener) (n : ℕ) → Holds s → awaits_packet s.opening ≡ true
    → Later s (opened s o n).0
opened_later s o n are e = record {
  config = refl;
  client = λ h. refl;
  server = λ h. by s.opening e h;
  newest = same s.successor;
  numbered = record { first = are.first; behind = are.behind };
}
  where
    by : (x : Opening) → awaits_packet x ≡ true → has_server x ≡ true → false ≡ true
    by AwaitsClient e h = absurd cc
    by AwaitsPacket e h = absurd cc
    by (WantsServer opener) e h = absurd cc
    by (Announces opener) e h = absurd cc
    by (Announced opener) e h = absurd cc

    same : (z : Successor) → newest_by s.current z
        ≤ newest_by (record { number = s.current.number; cookie = o.channel }) z
    same Absent = omega arith
    same (successors.Up number) = omega arith
    same (Joined leg stage) = omega arith

later_conn_b1 : (s : InProxy) (n : ℕ) (a b : Cookie) (c : ℕ) (d : Cookie) → Holds s
    → Later s (on_conn_b1 s n a b c d).0
later_conn_b1 s n a b c d are =
    by_test (λ (x : Done). Later s x.0) (is_first s n)
    (opened s (opener a b (Connects d)) (kept_for c)) (unexpected s)
    (λ e. opened_later s (opener a b (Connects d)) (kept_for c) are
    (both (awaits_packet s.opening) (s.current.number == n) e).0)
    (λ e. grows_self (legs s) are)

joined_later : (s : InProxy) (n : ℕ) (cookie : Cookie) (z : Successor) → s.successor ≡ z
    → is_newcomer z n ≡ true → Holds s → Later s (joined s n cookie)
joined_later s n cookie Absent is e are = absurd cc
joined_later s n cookie (Joined leg stage) is e are = absurd cc
joined_later s n cookie (successors.Up number) is e are =
    let same : number ≡ n = same_number number n e in
    let above : s.current.number < number =
    subst (IsAbove s.current.number) is are.behind in
    record {
      config = refl;
      client = λ h. h;
      server = λ h. h;
      newest = subst (λ (x : Successor). newest_by s.current x ≤ n) (sym is)
          (omega (arith, same));
      numbered = record { first = are.first; behind = omega (arith, above, same) };
    }

later_join : (s : InProxy) (o : Opener) (n : ℕ) (a b c : Cookie) → is_newcomer s.successor n ≡ true
    → Holds s → Later s (join s o n a b c).0
later_join s o n a b c e are =
    by_test (λ (d : Done). Later s d.0) (not (same_cookie o.connection a))
    (refuse s (refused.Cookie o.connection a))
    (if not (same_cookie s.current.cookie b) then refuse s (refused.Cookie s.current.cookie b)
    else taken (joined s n c))
    (λ f. grows_self (legs s) are)
    (λ f. by_test (λ (d : Done). Later s d.0) (not (same_cookie s.current.cookie b))
    (refuse s (refused.Cookie s.current.cookie b)) (taken (joined s n c))
    (λ g. grows_self (legs s) are) (λ g. joined_later s n c s.successor refl e are))

later_in_r1_a1 : (s : InProxy) (n : ℕ) (a b c : Cookie) → Holds s
    → Later s (on_in_r1_a1 s n a b c).0
later_in_r1_a1 s n a b c are =
    by_test (λ (d : Done). Later s d.0) (is_first s n) (on_first_in_r1_a1 s a b c)
    (on_later_in_r1_a1 s (opener_of s.opening) n a b c)
    (λ e. opened_later s (opener a c (Replaces b)) KEEPALIVE are
    (both (awaits_packet s.opening) (s.current.number == n) e).0)
    (λ e. by (opener_of s.opening))
  where
    by : (o : Option Opener) → Later s (on_later_in_r1_a1 s o n a b c).0
    by None = grows_self (legs s) are
    by (Some o) =
        by_test (λ (d : Done). Later s d.0) (is_newcomer s.successor n) (join s o n a b c)
        (unexpected s) (λ e. later_join s o n a b c e are) (λ e. grows_self (legs s) are)

-- IN_R1/A5 on an earlier ci leg: that leg's channel is finished
finished_later : (s : InProxy) (leg : ClientLeg) (stage : Joining) → s.successor ≡ Joined leg stage
    → Holds s → Later s (finished s leg)
finished_later s leg stage is are =
    follows_grows s (Joined leg Follows) (line.after_finish s.line).has_next (record {
      config = refl;
      client = λ h. h;
      server = λ h. h;
      newest = subst (λ (x : Successor). newest_by s.current x ≤ leg.number) (sym is)
          (omega arith);
      numbered = record {
        first = are.first;
        behind = subst (IsAbove s.current.number) is are.behind;
      };
    })

later_finish : (s : InProxy) (z : Successor) (cookie : Cookie) → s.successor ≡ z → Holds s
    → Later s (finish_by s z cookie).0
later_finish s Absent cookie is are = grows_self (legs s) are
later_finish s (successors.Up number) cookie is are = grows_self (legs s) are
later_finish s (Joined leg (TellsServer behind)) cookie is are = grows_self (legs s) are
later_finish s (Joined leg Follows) cookie is are = grows_self (legs s) are
later_finish s (Joined leg joining.Told) cookie is are =
    by_test (λ (d : Done). Later s d.0) (same_cookie leg.cookie cookie) (taken (finished s leg))
    (refuse s (refused.Cookie leg.cookie cookie))
    (λ e. finished_later s leg joining.Told is are) (λ e. grows_self (legs s) are)

later_in_r1_a5 : (s : InProxy) (which : Which) (cookie : Cookie) → Holds s
    → Later s (on_in_r1_a5 s which cookie).0
later_in_r1_a5 s which cookie are =
    by_test (λ (d : Done). Later s d.0) (has_a5 s which) (unexpected s) (hand_over s which cookie)
    (λ e. grows_self (legs s) are) (λ e. by which)
  where
    by : (w : Which) → Later s (hand_over s w cookie).0
    by Current = later_finish s s.successor cookie refl are
    by Next = grows_self (legs s) are

later_channel : (s : InProxy) (which : Which) (packet : Named) → Holds s
    → Later s (on_channel s which packet).0
later_channel s which (AckTo v1 v2 v3 v4) are =
    later_same s (on_ack_to s which v1 v2 v3 v4).0 are (same_ack_to s which v1 v2 v3 v4)
later_channel s which (OutR1A7 v1 v2) are =
    later_same s (on_out_r1_a7 s which v1 v2).0 are (same_out_r1_a7 s which v1 v2)
later_channel s which (KeepAlive v1) are =
    later_same s (on_keep_alive s which v1).0 are (same_keep_alive s which v1)
later_channel s which EndA1 are =
    later_same s (on_end_a1 s which).0 are (same_end_a1 s which)
later_channel s which (InR1A5 v1) are = later_in_r1_a5 s which v1 are
later_channel s which packet are = grows_self (legs s) are

later_channel_by : (s : InProxy) (o : Option Which) (packet : Named) → Holds s
    → Later s (on_channel_by s o packet).0
later_channel_by s None packet are = grows_self (legs s) are
later_channel_by s (Some which) packet are = later_channel s which packet are

later_ci : (s : InProxy) (n : ℕ) (packet : Named) → Holds s → Later s (on_ci s n packet).0
later_ci s n (ConnB1 v1 v2 v3 v4 v5 v6) are = later_conn_b1 s n v2 v3 v5 v6 are
later_ci s n (InR1A1 v1 v2 v3 v4) are = later_in_r1_a1 s n v2 v3 v4 are
later_ci s n packet are = later_channel_by s (channel_of s n) packet are

later_is : (s : InProxy) (packet : Named) → Holds s → Later s (on_is s packet).0
later_is s (ConnB3 v1 v2) are = later_same s (on_conn_b3 s v1).0 are (same_conn_b3 s v1)
later_is s (InR1B2 v1) are = later_same s (on_in_r1_b2 s v1).0 are (same_in_r1_b2 s v1)
later_is s InR1B1 are = later_same s (on_in_r1_b1 s).0 are (same_in_r1_b1 s)
later_is s (Ack v1 v2 v3) are = later_same s (on_ack s v1 v2 v3).0 are (same_ack s v1 v2 v3)
later_is s packet are = grows_self (legs s) are

later_packet : (s : InProxy) (leg : Leg) (count : Count) (named : Named) → Holds s
    → Later s (packet s leg count named).0
later_packet s leg count named are =
    by_test (λ (d : Done). Later s d.0) (is_client_leg leg) (on_ci s leg.number named)
    (if is_server_leg s leg then on_is s named else unexpected s)
    (λ e. later_ci s leg.number named are)
    (λ e. by_test (λ (d : Done). Later s d.0) (is_server_leg s leg) (on_is s named) (unexpected s)
    (λ f. later_is s named are) (λ f. grows_self (legs s) are))

same_head : (s : InProxy) (leg : Leg) (text : List ℕ) → Same s (head s leg text).0
same_head s leg text = by (request_verdict true text)
  where
    by : (r : Result Asked HttpFault) → Same s (head_by s leg.number r).0
    by (Err fault) = refl
    by (Ok request) = search rules

-- ---- a leg comes up

first_two : (a b c d : Bool) → (a && b && c && d) ≡ true → (a ≡ true) × (b ≡ true)
first_two true true c d h = (refl, refl)
first_two true false c d h = absurd cc
first_two false b c d h = absurd cc

later_up : (s : InProxy) (leg : Leg) → Holds s → Later s (up s leg)
later_up s leg are =
    by_test (Later s) (may_accept s leg) (accepted s s.opening leg.number)
    (if wants s leg then connected s s.opening else s)
    (λ e. accept s.opening refl (both (is_client_leg leg) (accepts s s.opening leg.number) e).1)
    (λ e. by_test (Later s) (wants s leg) (connected s s.opening) s
    (λ f. connect s.opening refl) (λ f. grows_self (legs s) are))
  where
    later_one : (x : Opening) → had_client x ≡ true
        → accepts_later (record s { opening = x }) leg.number ≡ true → s.opening ≡ x
        → Later s (record s { successor = successors.Up leg.number; newest_lost = false })
    later_one x had e is =
        let parts = first_two (leg.number == s.current.number + 1) (is_absent s.successor)
        (nat_le s.lengths GREATEST_LENGTHS) (not (has_come s.handover)) e in
        let next : leg.number ≡ s.current.number + 1 =
        same_number leg.number (s.current.number + 1) parts.0 in
        record {
          config = refl;
          client = λ h. h;
          server = λ h. h;
          newest = below s.successor parts.1 (omega (arith, next));
          numbered = record { first = are.first; behind = omega (arith, next) };
        }
      where
        below : (z : Successor) → is_absent z ≡ true → s.current.number ≤ leg.number
            → newest_by s.current z ≤ leg.number
        below Absent e le = le
        below (successors.Up number) e le = absurd cc
        below (Joined l stage) e le = absurd cc

    accept : (x : Opening) → s.opening ≡ x → accepts s x leg.number ≡ true
        → Later s (accepted s x leg.number)
    accept AwaitsClient is e = record {
      config = refl;
      client = λ h. refl;
      server = λ h. let none : has_server s.opening ≡ false = ap has_server is in absurd cc;
      newest = omega arith;
      numbered = record { first = are.first; behind = are.behind };
    }
    accept AwaitsPacket is e = absurd cc
    accept (WantsServer o) is e = later_one (WantsServer o) refl e is
    accept (Announces o) is e = later_one (Announces o) refl e is
    accept (Announced o) is e = later_one (Announced o) refl e is

    connect : (x : Opening) → s.opening ≡ x → Later s (connected s x)
    connect (WantsServer o) is = record {
      config = refl;
      client = λ h. refl;
      server = λ h. refl;
      newest = omega arith;
      numbered = record { first = are.first; behind = are.behind };
    }
    connect AwaitsClient is = grows_self (legs s) are
    connect AwaitsPacket is = grows_self (legs s) are
    connect (Announces o) is = grows_self (legs s) are
    connect (Announced o) is = grows_self (legs s) are

-- ---- what is put, drawn and lost

same_drawn : (s : InProxy) (leg : Leg) → Same s (drawn s leg)
same_drawn s leg = search rules

same_settled : (s : InProxy) → Same s (settled s)
same_settled s = search rules

same_mark : (s : InProxy) (leg : Leg) → Same s (mark s leg)
same_mark s leg =
    same_settled (if is_newest s leg then record s { newest_lost = true } else s)
    ∙ by_test (Same s) (is_newest s leg) (record s { newest_lost = true }) s (λ e. refl) (λ e. refl)

same_ping : (s : InProxy) (leg : Leg) → Same s (ping s leg)
same_ping s leg = search rules

abbrev LaterPick : InProxy → Pick → Type 0
LaterPick s pick = Later s (behind_put s pick)

or_later : (s : InProxy) (a b : Pick) → LaterPick s a → LaterPick s b → LaterPick s (or_else a b)
or_later s None b p q = q
or_later s (Some pick) b p q = p

first_later : (s : InProxy) (x : Opening) → s.opening ≡ x → Holds s → LaterPick s (first_by s x)
first_later s AwaitsClient is are = grows_self (legs s) are
first_later s AwaitsPacket is are = grows_self (legs s) are
first_later s (WantsServer o) is are = grows_self (legs s) are
first_later s (Announced o) is are = grows_self (legs s) are
first_later s (Announces o) is are = record {
  config = refl;
  client = λ h. refl;
  server = λ h. refl;
  newest = omega arith;
  numbered = record { first = are.first; behind = are.behind };
}

-- the ci leg behind the current one is further on
joining_later : (s : InProxy) (leg : ClientLeg) (stage further : Joining) (t : InProxy)
    → s.successor ≡ Joined leg stage
    → legs t ≡ record (legs s) { successor = Joined leg further } → Holds s → Later s t
joining_later s leg stage further t is same are =
    subst (Grows (legs s)) (sym same) (record {
      config = refl;
      client = λ h. h;
      server = λ h. h;
      newest = subst (λ (x : Successor). newest_by s.current x ≤ leg.number) (sym is)
          (omega arith);
      numbered = record {
        first = are.first;
        behind = subst (IsAbove s.current.number) is are.behind;
      };
    })

told_later : (s : InProxy) (z : Successor) → s.successor ≡ z → Holds s → LaterPick s (told_by s z)
told_later s Absent is are = grows_self (legs s) are
told_later s (successors.Up number) is are = grows_self (legs s) are
told_later s (Joined leg joining.Told) is are = grows_self (legs s) are
told_later s (Joined leg Follows) is are = grows_self (legs s) are
told_later s (Joined leg (TellsServer behind)) is are =
    by_test (LaterPick s) (behind == 0)
    (Some (record s { successor = Joined leg joining.Told }, Packet (InR2A2 leg.cookie))) None
    (λ e. joining_later s leg (TellsServer behind) joining.Told
    (record s { successor = Joined leg joining.Told }) is refl are)
    (λ e. grows_self (legs s) are)

less_later : (s : InProxy) (z : Successor) (dues : List Due) → s.successor ≡ z → Holds s
    → Later s (record s { waiting = with_due s.waiting dues; successor = one_less z })
less_later s Absent dues is are =
    later_same s (record s { waiting = with_due s.waiting dues; successor = Absent }) are
    (ap (λ (x : Successor). record (legs s) { successor = x }) (sym is))
less_later s (successors.Up number) dues is are =
    later_same s (record s {
      waiting = with_due s.waiting dues;
      successor = successors.Up number;
    }) are (ap (λ (x : Successor). record (legs s) { successor = x }) (sym is))
less_later s (Joined leg joining.Told) dues is are =
    joining_later s leg joining.Told joining.Told (record s {
      waiting = with_due s.waiting dues;
      successor = Joined leg joining.Told;
    }) is refl are
less_later s (Joined leg Follows) dues is are =
    joining_later s leg Follows Follows (record s {
      waiting = with_due s.waiting dues;
      successor = Joined leg Follows;
    }) is refl are
less_later s (Joined leg (TellsServer behind)) dues is are =
    joining_later s leg (TellsServer behind) (TellsServer (behind - 1)) (record s {
      waiting = with_due s.waiting dues;
      successor = Joined leg (TellsServer (behind - 1));
    }) is refl are

waiting_later : (s : InProxy) (dues : List Due) → Holds s → LaterPick s (waiting_by s dues)
waiting_later s [] are = grows_self (legs s) are
waiting_later s (due ∷ dues) are = less_later s s.successor dues refl are

acks_later : (s : InProxy) → Holds s → LaterPick s (put_acks s)
acks_later s are =
    or_later s (current_ack s) (next_ack s s.successor)
    (by_ack Current s.current.cookie (ack_due s Current)) (by_next s.successor)
  where
    by_ack : (which : Which) (cookie : Cookie) (o : Option told.Ack)
        → LaterPick s (ack_by s which cookie o)
    by_ack which cookie None = grows_self (legs s) are
    by_ack which cookie (Some ack) = grows_self (legs s) are

    by_next : (z : Successor) → LaterPick s (next_ack s z)
    by_next Absent = grows_self (legs s) are
    by_next (successors.Up number) = grows_self (legs s) are
    by_next (Joined leg stage) = by_ack Next leg.cookie (ack_due s Next)

pdu_later : (s : InProxy) (pdus : List (List ℕ)) → Holds s → LaterPick s (next_pdu s pdus)
pdu_later s [] are = grows_self (legs s) are
pdu_later s (bytes ∷ pdus) are =
    by_test (LaterPick s) (may_send s.window (length bytes))
    (Some (passed s (length bytes), Pdu bytes)) None
    (λ e. follows_grows s s.successor (line.after_take s.line).has_next (grows_self (legs s) are))
    (λ e. grows_self (legs s) are)

mark_later : (s : InProxy) (handover : Handover) → Holds s → LaterPick s (mark_by s handover)
mark_later s Before are = grows_self (legs s) are
mark_later s (Came cookie) are = grows_self (legs s) are
mark_later s Passed are = grows_self (legs s) are

a6_later : (s : InProxy) → Holds s → LaterPick s (put_in_r1_a6 s)
a6_later s are =
    by_test (LaterPick s) (is_absent s.successor && line.is_empty s.line.current.pdus)
    (mark_by s s.handover) None (λ e. mark_later s s.handover are) (λ e. grows_self (legs s) are)

end_later : (s : InProxy) → Holds s → LaterPick s (put_end s)
end_later s are =
    by_test (LaterPick s)
    (s.line.current.ended && not s.end_put && line.is_empty s.line.current.pdus)
    (Some (record s { end_put = true }, Packet EndA2)) None (λ e. grows_self (legs s) are)
    (λ e. grows_self (legs s) are)

ping_later : (s : InProxy) → Holds s → LaterPick s (put_ping s)
ping_later s are =
    by_test (LaterPick s) s.ping_due (Some (record s { ping_due = false }, Packet Ping)) None
    (λ e. grows_self (legs s) are) (λ e. grows_self (legs s) are)

next_later : (s : InProxy) → Holds s → LaterPick s (next s)
next_later s are =
    or_later s (put_control s) (put_stream s)
    (or_later s (put_early s) (put_acks s)
    (or_later s (put_first s) (or_else (put_in_r2_a2 s) (put_waiting s))
    (first_later s s.opening refl are)
    (or_later s (put_in_r2_a2 s) (put_waiting s) (told_later s s.successor refl are)
    (waiting_later s s.waiting.due are)))
    (acks_later s are))
    (or_later s (put_pdu s) (put_behind s) (pdu_later s s.line.current.pdus are)
    (or_later s (put_mark s) (put_ping s)
    (or_later s (put_end s) (put_in_r1_a6 s) (end_later s are) (a6_later s are))
    (ping_later s are)))

settled_later : (s : InProxy) (pick : Pick) → LaterPick s pick → LaterPick s (settled_pick pick)
settled_later s None g = g
settled_later s (Some pick) g =
    subst (Grows (legs s)) (sym (same_settled pick.0)) g

echo_later : (s : InProxy) (work : Work) (n : ℕ) → Holds s → LaterPick s (echo_by s work n)
echo_later s works.Underway n are = grows_self (legs s) are
echo_later s (works.EchoPut on) n are = grows_self (legs s) are
echo_later s works.Done n are = grows_self (legs s) are
echo_later s (works.EchoDue on) n are =
    by_test (LaterPick s) (on == n)
    (Some (record s { work = works.EchoPut on }, Text echo_answer)) None
    (λ e. grows_self (legs s) are) (λ e. grows_self (legs s) are)

put_later : (s : InProxy) (leg : Leg) → Holds s → LaterPick s (put s leg)
put_later s leg are =
    by_test (LaterPick s) (is_client_leg leg) (put_echo s leg.number)
    (if is_server_leg s leg then settled_pick (next s) else None)
    (λ e. echo_later s s.work leg.number are)
    (λ e. by_test (LaterPick s) (is_server_leg s leg) (settled_pick (next s)) None
    (λ f. settled_later s (next s) (next_later s are)) (λ f. grows_self (legs s) are))

-- ---- moves

pub later_move : (p : Passage InProxy) (move : Move) → Holds p.role
    → Later p.role (moved proxy_rules p move).role
later_move p (Up leg cookie) are = later_up p.role leg are
later_move p (HeadCame leg text) are =
    later_same p.role (head p.role leg text).0 are (same_head p.role leg text)
later_move p (PduCame leg count bytes) are =
    by_row (Later p.role) p leg (Pdu bytes) (pdu p.role leg count bytes)
    (later_same p.role (pdu p.role leg count bytes).0 are (same_pdu p.role leg count bytes))
later_move p (PacketCame leg count named) are =
    by_row (Later p.role) p leg (Packet named) (packet p.role leg count named)
    (later_packet p.role leg count named are)
later_move p (Puts leg) are =
    by_put (Later p.role) p leg (put p.role leg) (put_later p.role leg are)
later_move p (IsDrawn leg) are =
    later_same p.role (drawn p.role leg) are (same_drawn p.role leg)
later_move p (Marks leg) are = later_same p.role (mark p.role leg) are (same_mark p.role leg)
later_move p (Pings leg) are = later_same p.role (ping p.role leg) are (same_ping p.role leg)

-- ---- what was up

-- a leg is not both
apart : (k : LegKind) (same : Bool)
    → ((kind_number ClientIn == kind_number k)
    && ((kind_number InServer == kind_number k) && same)) ≡ false
apart ClientOut same = refl
apart OutServer same = refl
apart ClientIn same = refl
apart InServer same = refl

not_both : (s : InProxy) (leg : Leg) → (is_client_leg leg && is_server_leg s leg) ≡ false
not_both s leg = apart leg.kind (s.config.number == leg.number)

stays_by : (c o had has had2 has2 low up up2 : Bool) → (had ≡ true → had2 ≡ true)
    → (has ≡ true → has2 ≡ true) → (up ≡ true → up2 ≡ true)
    → ((c && had && low && up) || (o && has)) ≡ true
    → ((c && had2 && low && up2) || (o && has2)) ≡ true
stays_by true o true has had2 has2 true true up2 p q r h =
    let a = p refl in let b = r refl in rw (a, b) refl
stays_by true true had true had2 has2 low up up2 p q r h =
    let a = q refl in rw a (or_true (had2 && low && up2))
stays_by true true true false had2 has2 true false up2 p q r h = absurd cc
stays_by true true true false had2 has2 false up up2 p q r h = absurd cc
stays_by true true false false had2 has2 low up up2 p q r h = absurd cc
stays_by true false true has had2 has2 true false up2 p q r h = absurd cc
stays_by true false true has had2 has2 false up up2 p q r h = absurd cc
stays_by true false false has had2 has2 low up up2 p q r h = absurd cc
stays_by false true had true had2 has2 low up up2 p q r h = q refl
stays_by false true had false had2 has2 low up up2 p q r h = absurd cc
stays_by false false had has had2 has2 low up up2 p q r h = absurd cc

up_to : (n m k : ℕ) → m ≤ k → nat_le n m ≡ true → nat_le n k ≡ true
up_to n m k le h = grind (arith, nat_tests)

stays_up : (s t : InProxy) (leg : Leg) → Later s t → was_up s leg ≡ true → was_up t leg ≡ true
stays_up s t leg g h =
    let before : was_up (record t { config = s.config }) leg ≡ true =
    stays_by (is_client_leg leg) (is_server_leg s leg) (had_client s.opening)
    (has_server s.opening) (had_client t.opening) (has_server t.opening)
    (nat_le s.config.number leg.number) (nat_le leg.number (newest s))
    (nat_le leg.number (newest t)) g.client g.server
    (up_to leg.number (newest s) (newest t) g.newest) h in
    ap (λ (c : InProxyConfig). was_up (record t { config = c }) leg) g.config ∙ before

-- ---- a leg comes up once

or_left : (a b : Bool) → (a || b) ≡ false → a ≡ false
or_left true b h = absurd cc
or_left false b h = refl

-- a ci leg of a number that is not above the newest is no later one
not_later : (s : InProxy) (n : ℕ) → nat_le n (newest s) ≡ true → accepts_later s n ≡ false
not_later s n =
    by (nat_le s.lengths GREATEST_LENGTHS) (not (has_come s.handover)) s.successor
  where
    other : (a b : Bool) → nat_le n s.current.number ≡ true
        → ((n == s.current.number + 1) && true && a && b) ≡ false
    other a b h =
        let apart : (n == s.current.number + 1) ≡ false = grind (arith, nat_tests) in
        rw apart refl

    none : (t a b : Bool) → (t && false && a && b) ≡ false
    none true a b = refl
    none false a b = refl

    by : (a b : Bool) (z : Successor) → nat_le n (newest_by s.current z) ≡ true
        → ((n == s.current.number + 1) && is_absent z && a && b) ≡ false
    by a b Absent h = other a b h
    by a b (successors.Up number) h = none (n == s.current.number + 1) a b
    by a b (Joined leg stage) h = none (n == s.current.number + 1) a b

not_accepted : (s : InProxy) (x : Opening) (n : ℕ) (low : Bool)
    → (had_client x && low && nat_le n (newest s)) ≡ true → accepts s x n ≡ false
not_accepted s AwaitsClient n low h = absurd cc
not_accepted s AwaitsPacket n low h = refl
not_accepted s (WantsServer o) n low h =
    not_later s n (both low (nat_le n (newest s)) h).1
not_accepted s (Announces o) n low h = not_later s n (both low (nat_le n (newest s)) h).1
not_accepted s (Announced o) n low h = not_later s n (both low (nat_le n (newest s)) h).1

not_wanted : (x : Opening) → has_server x ≡ true → wants_server x ≡ false
not_wanted AwaitsClient h = absurd cc
not_wanted AwaitsPacket h = absurd cc
not_wanted (WantsServer o) h = absurd cc
not_wanted (Announces o) h = refl
not_wanted (Announced o) h = refl

once_by : (c o want accept had low up has : Bool) → (c && o) ≡ false
    → ((had && low && up) ≡ true → accept ≡ false) → (has ≡ true → want ≡ false)
    → ((c && had && low && up) || (o && has)) ≡ true
    → ((o && want) || (c && accept)) ≡ false
once_by true true want accept had low up has apart p q h = absurd cc
once_by true false want accept true true true has apart p q h = p refl
once_by true false want accept true true false has apart p q h = absurd cc
once_by true false want accept true false up has apart p q h = absurd cc
once_by true false want accept false low up has apart p q h = absurd cc
once_by false false want accept had low up has apart p q h = absurd cc
once_by false true want accept had low up true apart p q h = rw (q refl) refl
once_by false true want accept had low up false apart p q h = absurd cc

not_again : (s : InProxy) (leg : Leg) → was_up s leg ≡ true → may_up s leg ≡ false
not_again s leg h =
    once_by (is_client_leg leg) (is_server_leg s leg) (wants_server s.opening)
    (accepts s s.opening leg.number) (had_client s.opening) (nat_le s.config.number leg.number)
    (nat_le leg.number (newest s)) (has_server s.opening) (not_both s leg)
    (not_accepted s s.opening leg.number (nat_le s.config.number leg.number))
    (not_wanted s.opening) h

-- ---- a leg that comes up was up

pub within : (a b : ℕ) → a ≤ b → nat_le a b ≡ true
within a b le = grind (arith, nat_tests)

is_first_up : (c low up rest : Bool) → c ≡ true → low ≡ true → up ≡ true
    → ((c && true && low && up) || rest) ≡ true
is_first_up true true true rest p q r = refl
is_first_up true true false rest p q r = absurd cc
is_first_up true false up rest p q r = absurd cc
is_first_up false low up rest p q r = absurd cc

newest_least : (current : ClientLeg) (z : Successor) → IsAbove current.number z
    → current.number ≤ newest_by current z
newest_least current Absent above = omega arith
newest_least current (successors.Up number) above = omega (arith, above)
newest_least current (Joined leg stage) above = omega (arith, above)

later_up_is : (s : InProxy) (leg : Leg) (x : Opening) → s.opening ≡ x → had_client x ≡ true
    → Holds s → is_client_leg leg ≡ true → accepts_later s leg.number ≡ true
    → was_up (record s { successor = successors.Up leg.number; newest_lost = false }) leg ≡ true
later_up_is s leg x is had are client e =
    let next : leg.number ≡ s.current.number + 1 =
    same_number leg.number (s.current.number + 1)
    (first_two (leg.number == s.current.number + 1) (is_absent s.successor)
    (nat_le s.lengths GREATEST_LENGTHS) (not (has_come s.handover)) e).0 in
    let was : had_client s.opening ≡ true = ap had_client is ∙ had in
    rw was (is_first_up (is_client_leg leg) (nat_le s.config.number leg.number)
    (nat_le leg.number leg.number) (is_server_leg s leg && has_server s.opening) client
    (within s.config.number leg.number (omega (arith, are.first, next)))
    (within leg.number leg.number (omega arith)))

accepted_up : (s : InProxy) (leg : Leg) (x : Opening) → s.opening ≡ x → Holds s
    → is_client_leg leg ≡ true → accepts s x leg.number ≡ true
    → was_up (accepted s x leg.number) leg ≡ true
accepted_up s leg AwaitsClient is are client e =
    let same : s.current.number ≡ leg.number = same_number s.current.number leg.number e in
    is_first_up (is_client_leg leg) (nat_le s.config.number leg.number)
    (nat_le leg.number (newest s)) (is_server_leg s leg && false) client
    (within s.config.number leg.number (omega (arith, are.first, same)))
    (within leg.number (newest s)
    (omega (arith, same, newest_least s.current s.successor are.behind)))
accepted_up s leg AwaitsPacket is are client e = absurd cc
accepted_up s leg (WantsServer o) is are client e =
    later_up_is s leg (WantsServer o) is refl are client e
accepted_up s leg (Announces o) is are client e =
    later_up_is s leg (Announces o) is refl are client e
accepted_up s leg (Announced o) is are client e =
    later_up_is s leg (Announced o) is refl are client e

connected_up : (s : InProxy) (leg : Leg) (x : Opening) → is_server_leg s leg ≡ true
    → wants_server x ≡ true → was_up (connected s x) leg ≡ true
connected_up s leg AwaitsClient server e = absurd cc
connected_up s leg AwaitsPacket server e = absurd cc
connected_up s leg (Announces o) server e = absurd cc
connected_up s leg (Announced o) server e = absurd cc
connected_up s leg (WantsServer o) server e =
    rw server (or_true (is_client_leg leg && true && nat_le s.config.number leg.number
    && nat_le leg.number (newest s)))

comes_up : (s : InProxy) (leg : Leg) → Holds s → may_up s leg ≡ true
    → was_up (up s leg) leg ≡ true
comes_up s leg are may =
    by_test (λ (t : InProxy). was_up t leg ≡ true) (may_accept s leg)
    (accepted s s.opening leg.number) (if wants s leg then connected s s.opening else s)
    (λ e. let parts = both (is_client_leg leg) (accepts s s.opening leg.number) e in
    accepted_up s leg s.opening refl are parts.0 parts.1)
    (λ e. by_test (λ (t : InProxy). was_up t leg ≡ true) (wants s leg) (connected s s.opening) s
    (λ f. let parts = both (is_server_leg s leg) (wants_server s.opening) f in
    connected_up s leg s.opening parts.0 parts.1)
    (λ f. let neither : false ≡ true = sym (ap (λ b. b || may_accept s leg) f ∙ e) ∙ may in
    absurd cc))

pub in_order : (s : InProxy) → AreNumbered s → Holds s
in_order s are = record { first = are.first; behind = are.behind }

pub in_proxy_once : ComesUpOnce proxy_rules AreNumbered
in_proxy_once = record {
  kept = λ p move are may.
      let next = (later_move p move (in_order p.role are)).numbered in
      record { first = next.first; behind = next.behind };
  stays = λ p move leg are may h.
      stays_up p.role (moved proxy_rules p move).role leg
      (later_move p move (in_order p.role are)) h;
  up = λ s leg cookie are may. comes_up s leg (in_order s are) may.1;
  once = λ s leg are h. not_again s leg h;
  unwanted = λ s leg are h. or_left (wants s leg) (may_accept s leg) (not_again s leg h);
}

pub first_numbered : (config : InProxyConfig) → AreNumbered (first config)
first_numbered config = record { first = omega arith; behind = tt }
