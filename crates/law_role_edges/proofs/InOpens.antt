-- an in proxy puts what it owes the server, and nothing else of its kind
use Rattle.law_order.proofs.Vocabulary.{◌≡◌, ℕ, ◌+◌, ◌==◌, ◌&&◌, Bool, not, if◌then◌else◌, List, [], ◌∷◌, ◌++◌, length, Some, None, Ok, Err, refl, ap, ◌∙◌, subst, arith, IfSome, Option}
use Rattle.rh_line.specs.Lines as line
use Rattle.rh_inproxy.specs.declared.state.Opening.TheVariants as openings
use Rattle.rh_inproxy.specs.declared.state.Successor.TheVariants as successors
use Rattle.rh_inproxy.specs.declared.state.Work.TheVariants as works
use Rattle.law_moves.proofs.Vocabulary.{may_send, Ack, by_test, Cookie, Named, Leg, Which, Current, Next, Due, Message, Text, Pdu, Packet, one_if, OnLeg, Move, started, all_moved}
use Rattle.law_moves.proofs.Lemmas.{RowKeeps, PutKeeps, any_rise}
use Rattle.law_role_inproxy.proofs.Vocabulary.{Work, InProxyConfig, TellsServer, Told, Follows, Opening, Successor, Done, Pick, or_else, InProxy, first, is_client_leg, is_server_leg, up, head, drawn, first_by, put_first, echo_by, echo_answer, put_echo, is_absent, ack_due, ack_by, current_ack, next_ack, put_acks, mark, put_end, settled_pick, told_by, one_less, put_in_r2_a2, mark_by, put_in_r1_a6, next_pdu, passed, put_pdu, put as put_of, next, waiting_by, put_waiting, put_control, put_early, put_stream}
use Rattle.law_role_inproxy.proofs.Vocabulary.{Handover, Before, Came, Passed, put_behind, put_mark, ping, put_ping, pdu, packet, rules as proxy_rules, is_leg}
use Rattle.law_role_inproxy.proofs.Counted.InProxyOwes.{Seen, seen, is_announced, same_head, same_pdu, same_drawn, same_settled, same_mark, same_ping}
use Rattle.law_role_inproxy.proofs.Refusing.Keeps.{server_is}
use Rattle.law_role_edges.proofs.Beside.{KeepBeside, moves_keep_beside}
use Rattle.law_role_edges.proofs.InOwing as owing
use Rattle.law_role_edges.proofs.InOwing.{Leads}
use Rattle.law_role_edges.proofs.InPlaced.{Placed, Stands, placed, stands_always, stands_first}
use Rattle.law_role_edges.proofs.Sums.{at, sum_more, sum_on, worth_here, worth_none, worth_of, worth_on}
use Rattle.law_role_edges.specs.Forwarding.{waiting_of}

module _ (n : ℕ) (on : Leg → Bool) (test put : Named → Bool) (leads : Leads n on test put) where
  abbrev pub opening_owes : InProxyConfig → Opening → ℕ
  opening_owes = owing.opening_owes n on test put leads

  abbrev pub successor_owes : Successor → ℕ
  successor_owes = owing.successor_owes n on test put leads

  abbrev owed : Seen → ℕ
  owed = owing.owed n on test put leads

  -- ---- what is put

  -- it pays, and nothing waits
  abbrev Pays : InProxy → InProxy × Message → Type 0
  Pays s one =
      (waiting_of put one.0.waiting.due ≡ 0)
      × (owed (seen one.0) + worth_of put one.1 ≡ owed (seen s))

  abbrev Spends : InProxy → Pick → Type 0
  Spends s pick = IfSome pick (Pays s)

  module _ (s : InProxy) (none : waiting_of put s.waiting.due ≡ 0) (p : Placed n s) where
    or_spends : (a b : Pick) → Spends s a → Spends s b → Spends s (or_else a b)
    or_spends None b h k = k
    or_spends (Some pick) b h k = h

    first_spends : (o : Opening) → s.opening ≡ o → Spends s (first_by s o)
    first_spends (openings.Announces o) e =
        let was = ap (opening_owes s.config) e in
        let same = ap (λ (m : Named). one_if (put m)) (is_announced s o o.entry) in
        (none, omega (arith, was, same))
    first_spends openings.AwaitsClient e = tt
    first_spends openings.AwaitsPacket e = tt
    first_spends (openings.WantsServer o) e = tt
    first_spends (openings.Announced o) e = tt

    told_spends : (z : Successor) → s.successor ≡ z → Spends s (told_by s z)
    told_spends successors.Absent e = tt
    told_spends (successors.Up number) e = tt
    told_spends (successors.Joined leg Told) e = tt
    told_spends (successors.Joined leg Follows) e = tt
    told_spends (successors.Joined leg (TellsServer behind)) e =
        by_test (Spends s) (behind == 0) _ None
        (λ f. let was = ap successor_owes e in (none, omega (arith, was))) (λ f. tt)

    less_owes : (z : Successor) → successor_owes (one_less z) ≡ successor_owes z
    less_owes successors.Absent = refl
    less_owes (successors.Up number) = refl
    less_owes (successors.Joined leg Told) = refl
    less_owes (successors.Joined leg Follows) = refl
    less_owes (successors.Joined leg (TellsServer behind)) = refl

    waiting_spends : (dues : List Due) → s.waiting.due ≡ dues → Spends s (waiting_by s dues)
    waiting_spends [] e = tt
    waiting_spends (due ∷ dues) e =
        let all = ap (waiting_of put) e in
        let less = less_owes s.successor in
        (omega (arith, all, none), omega (arith, all, none, less))

    ack_spends : (which : Which) (cookie : Cookie) (o : Option Ack)
        → Spends s (ack_by s which cookie o)
    ack_spends which cookie None = tt
    ack_spends which cookie (Some ack) =
        let nought = ap one_if (leads.no_acks 0 ack.received ack.available cookie) in
        (none, omega (arith, nought))

    next_ack_spends : (z : Successor) → Spends s (next_ack s z)
    next_ack_spends successors.Absent = tt
    next_ack_spends (successors.Up number) = tt
    next_ack_spends (successors.Joined leg stage) = ack_spends Next leg.cookie (ack_due s Next)

    taken_owes : (pdus : List (List ℕ))
        → owing.followed_owes n on test put leads (line.taken pdus s.line).has_next s.current
        s.successor
        ≡ successor_owes s.successor
    taken_owes [] =
        owing.stays n on test put leads s.line.has_next s.current s.successor p.joined
    taken_owes (one ∷ pdus) =
        owing.settles n on test put leads s.current s.successor
        (record (s.line) { current = line.released (one ∷ pdus) s.line.current }) p.joined p.done

    pdu_spends : (pdus : List (List ℕ)) → Spends s (next_pdu s pdus)
    pdu_spends [] = tt
    pdu_spends (one ∷ pdus) =
        by_test (Spends s) (may_send s.window (length one))
        (Some (passed s (length one), Pdu one)) None
        (λ e. let same = taken_owes s.line.current.pdus in (none, omega (arith, same))) (λ e. tt)

    mark_spends : (h : Handover) → Spends s (mark_by s h)
    mark_spends Before = tt
    mark_spends (Came cookie) =
        let nought = ap one_if (leads.in_r1_a6 cookie) in (none, omega (arith, nought))
    mark_spends Passed = tt

    control_spends : Spends s (put_control s)
    control_spends =
        or_spends (put_early s) (put_acks s)
        (or_spends (put_first s) _ (first_spends s.opening refl)
        (or_spends (put_in_r2_a2 s) (put_waiting s) (told_spends s.successor refl)
        (waiting_spends s.waiting.due refl)))
        (or_spends (current_ack s) (next_ack s s.successor)
        (ack_spends Current s.current.cookie (ack_due s Current)) (next_ack_spends s.successor))

    behind_spends : Spends s (put_behind s)
    behind_spends =
        or_spends (put_mark s) (put_ping s)
        (or_spends (put_end s) (put_in_r1_a6 s)
        (by_test (Spends s)
        (s.line.current.ended && not s.end_put && line.is_empty s.line.current.pdus) _ None
        (λ e. let nought = ap one_if leads.end_a2 in (none, omega (arith, nought))) (λ e. tt))
        (by_test (Spends s) (is_absent s.successor && line.is_empty s.line.current.pdus)
        (mark_by s s.handover) None (λ e. mark_spends s.handover) (λ e. tt)))
        (by_test (Spends s) s.ping_due _ None
        (λ e. let nought = ap one_if leads.pings in (none, omega (arith, nought))) (λ e. tt))

    settled_spends : (pick : Pick) → Spends s pick → Spends s (settled_pick pick)
    settled_spends None h = tt
    settled_spends (Some pick) h =
        let same = same_settled pick.0 in
        let is = ap owed same in
        let paid = h.1 in
        (ap (λ (x : Seen). waiting_of put x.waiting.due) same ∙ h.0, omega (arith, is, paid))

    next_spends : Spends s (settled_pick (next s))
    next_spends =
        settled_spends (next s)
        (or_spends (put_control s) (put_stream s) control_spends
        (or_spends (put_pdu s) (put_behind s) (pdu_spends s.line.current.pdus) behind_spends))

  -- ---- steps

  -- what came was put, or is owed
  abbrev Holds : InProxy → List OnLeg → List OnLeg → Type 0
  Holds s came sent =
      (waiting_of put s.waiting.due ≡ 0)
      × (sum_on on test came ≡ sum_on (at (is_leg n)) put sent + owed (seen s))

  stays : (s t : InProxy) (came sent : List OnLeg) → Holds s came sent
      → owing.Owes n on test put leads (owed (seen s)) t → Holds t came sent
  stays s t came sent h k =
      let was = h.1 in let is = k.1 in (k.0, omega (arith, was, is))

  came_more : (leg : Leg) (m : Message) (s : InProxy) (came sent : List OnLeg) (x : Done)
      → Holds s came sent
      → owing.Gains n on test put leads (worth_on on test (leg, m)) s x
      → RowKeeps Holds (leg, m) came sent x
  came_more leg m s came sent (t, Ok taken) h k =
      let was = h.1 in
      let is = k.1 in
      let all = sum_more on test came (leg, m) in (k.0, omega (arith, was, is, all))
  came_more leg m s came sent (t, Err why) h k = stays s t came sent h k

  put_more : (s : InProxy) (leg : Leg) (came sent : List OnLeg) (pick : Pick)
      → is_leg n ≡ leg → Holds s came sent → Spends s pick → PutKeeps Holds leg came sent pick
  put_more s leg came sent None e h k = tt
  put_more s leg came sent (Some one) e h k =
      let was = h.1 in
      let paid = k.1 in
      let here = worth_here (is_leg n) put one.1 in
      let all = sum_more (at (is_leg n)) put sent (is_leg n, one.1) in
      subst (λ (l : Leg). Holds one.0 came (sent ++ (l, one.1) ∷ [])) e
      (k.0, omega (arith, was, paid, here, all))

  -- the answer to an echo request
  echo_more : (s : InProxy) (leg : Leg) (came sent : List OnLeg) (w : Work) (number : ℕ)
      → Holds s came sent → PutKeeps Holds leg came sent (echo_by s w number)
  echo_more s leg came sent works.Underway number h = tt
  echo_more s leg came sent (works.EchoPut asked_on) number h = tt
  echo_more s leg came sent works.Done number h = tt
  echo_more s leg came sent (works.EchoDue asked_on) number h =
      by_test (PutKeeps Holds leg came sent) (asked_on == number)
      (Some (record s { work = works.EchoPut asked_on }, Text echo_answer)) None
      (λ e.
      let was = h.1 in
      let nought = worth_none (at (is_leg n)) put leg (Text echo_answer) refl in
      let all = sum_more (at (is_leg n)) put sent (leg, Text echo_answer) in
      (h.0, omega (arith, was, nought, all)))
      (λ e. tt)

  put_row : (s : InProxy) (leg : Leg) (came sent : List OnLeg) → Stands n s came sent
      → Holds s came sent → PutKeeps Holds leg came sent (put_of s leg)
  put_row s leg came sent a h =
      by_test (PutKeeps Holds leg came sent) (is_client_leg leg) (put_echo s leg.number)
      (if is_server_leg s leg then settled_pick (next s) else None)
      (λ e. echo_more s leg came sent s.work leg.number h)
      (λ e. by_test (PutKeeps Holds leg came sent) (is_server_leg s leg) (settled_pick (next s))
      None
      (λ f. put_more s leg came sent (settled_pick (next s)) (server_is n s came sent a.0 leg f) h
      (next_spends s h.0 (placed n s came sent a))) (λ f. tt))

  abbrev MayUp : InProxy → Leg → Type 0
  MayUp s leg = Unit {0}

  keeps : KeepBeside proxy_rules MayUp (Stands n) Holds
  keeps = record {
    up = λ s leg cookie came sent may a h.
        stays s (up s leg) came sent h (owing.up_owes n on test put leads s h.0 leg);
    head = λ s leg text came sent a h.
        stays s (head s leg text).0 came sent h
        (owing.same_owes n on test put leads s (head s leg text).0 h.0 (same_head s leg text));
    pdu = λ s leg count bytes came sent a h.
        came_more leg (Pdu bytes) s came sent (pdu s leg count bytes) h
        (owing.same_gains n on test put leads s (worth_on on test (leg, Pdu bytes))
        (pdu s leg count bytes) h.0 (worth_none on test leg (Pdu bytes) refl)
        (same_pdu s leg count bytes));
    packet = λ s leg count m came sent a h.
        came_more leg (Packet m) s came sent (packet s leg count m) h
        (owing.packet_gains n on test put leads s h.0 (placed n s came sent a) leg count m);
    put = put_row;
    drawn = λ s leg came sent a h.
        stays s (drawn s leg) came sent h
        (owing.same_owes n on test put leads s (drawn s leg) h.0 (same_drawn s leg));
    mark = λ s leg came sent a h.
        stays s (mark s leg) came sent h
        (owing.same_owes n on test put leads s (mark s leg) h.0 (same_mark s leg));
    ping = λ s leg came sent a h.
        stays s (ping s leg) came sent h
        (owing.same_owes n on test put leads s (ping s leg) h.0 (same_ping s leg));
  }

pub in_opens : (config : InProxyConfig) (on : Leg → Bool) (test put : Named → Bool)
    (leads : Leads config.number on test put) (moves : List Move)
    → (let p = all_moved proxy_rules (started (first config)) moves in
    sum_on on test p.came
    ≡ sum_on (at (is_leg config.number)) put p.put
    + (opening_owes config.number on test put leads p.role.config p.role.opening
    + successor_owes config.number on test put leads p.role.successor))
in_opens config on test put leads moves =
    (moves_keep_beside proxy_rules (MayUp config.number on test put leads) (Stands config.number)
    (Holds config.number on test put leads) (keeps config.number on test put leads)
    (stands_always config.number) (started (first config)) moves
    (any_rise proxy_rules (MayUp config.number on test put leads) (λ s leg. tt)
    (started (first config)) moves)
    (stands_first config) (refl, refl)).1
