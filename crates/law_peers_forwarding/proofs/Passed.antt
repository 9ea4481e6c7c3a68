-- few answers pass an acknowledgement to the client that waits at a server, whatever happens
use Rattle.law_order.proofs.Vocabulary.{◌≡◌, inl, inr, ℕ, zero, suc, ◌+◌, ◌*◌, ◌<◌, ◌≤◌, ◌&&◌, ◌||◌, Bool, true, false, nat_lt, not, if◌then◌else◌, List, [], ◌∷◌, ◌++◌, length, Some, None, Ok, Err, refl, sym, ap, ◌∙◌, subst, arith, nat_tests, append_assoc, append-nil, IfSome, find, slice_get, Option, Result}
use Rattle.rh_sig.specs.declared.named.Named.TheVariants as named
use Rattle.rh_shell.specs.Waiting.{is_of}
use Rattle.rh_server.specs.declared.out_line.Kind.TheVariants as kind
use Rattle.rh_server.specs.declared.state.Replacement.TheVariants as replacement
use Rattle.law_moves.proofs.Vocabulary.{Cookie, Named, Leg, LegKind, ClientOut, OutServer, ClientIn, InServer, Due, Own, GiveRefused, Message, Pdu, Packet, count_of, OnLeg, Up, HeadCame, PduCame, PacketCame, Puts, IsDrawn, Marks, Pings, Passage, taken_by, put_by, EndMove, Moves, Gives, Takes, Closes, Recycles, EndPassage, end_moved, end_now_at, given_by, with_first, all_end_moved, end_started, now_at}
use Rattle.law_role_server.proofs.Vocabulary.{OutLeg, Replacement, close, drawn_by, give, mark_by, take, Done, up, is_kind, is_own, last_number, recycle, Pick, put_in, put_out_at, put_by as put_by_kind, acts, first, packet_by, pdu, rules as server_rules, Server, is_some, is_steady, out_at, out_leg, out_place, is_out_r1_a1, is_out_r1_a5, is_out_r1_a9, leg_at, often, out_put, waiting_of, waits_for, AreReplaced, since_answered, since_asked, since_confirmed}
use Rattle.law_role_server.proofs.Counted.Replacing.{are_put_in_turn, are_replaced}
use Rattle.law_role_server.proofs.Each.{each_got}
use Rattle.law_role_server.proofs.Gives.{found as number_found}
use Rattle.law_node_streams.proofs.Streams.EndMoves.{all_end_moved_append}
use Rattle.law_peers_moments.specs.GoingRound.{taken_in}
use Rattle.law_role_server_in.specs.Handovers.{passed}
use Rattle.law_peers_room.proofs.ServerRoom.Meters.{Base, seen}
use Rattle.law_peers_room.proofs.ServerRoom.Overtaken.{bases, same_there as in_often, acked_one as one_ack}
use Rattle.law_peers_room.proofs.ServerRoom.ViewPuts.{os_goes}
use Rattle.law_peers_room.proofs.ServerRoom.ViewRows.{LongServes, drawn_serves, give_serves, mark_serves, packet_row, pdu_row, recycles, take_serves, up_serves}
use Rattle.law_peers_room.proofs.ServerRoom.ViewSteps.{in_same, long_before}
use Rattle.law_peers_room.proofs.ServerRoom.Views.{AreKept, View, view}
use Rattle.law_peers_room.proofs.ServerRoom.Ahead as ahead
use Rattle.law_peers_room.specs.OutRoom.Waits.{is_in_a3}
use Rattle.law_peers_room.specs.ServerRoom.Overtaking.{AreLong, IsLong, is_ack_for}
use Rattle.law_peers_forwarding.proofs.ServerFull.Grows.{put_grows}
use Rattle.law_peers_forwarding.proofs.Logs.{acks_more, asked_on, behind_first, in_leg_same, in_put_in, more_on, put_in as answers_in, put_more, rises}
use Rattle.law_peers_forwarding.proofs.PhasePuts.{IsGone, phase_put, wide_so}
use Rattle.law_peers_forwarding.proofs.Phases.{Phase, Early, Asking, Wished, Late, Over, AreSo, IsPhase, IsShort, IsSo, Stands, so_kept, other_way}
use Rattle.law_peers_forwarding.proofs.Ready.{AreReady, are_fit, under}
use Rattle.law_peers_forwarding.proofs.Spans.{both_kinds, found_there, span, span_all}
use Rattle.law_peers_forwarding.proofs.ServerFull.Filling.{and_none}
use Rattle.law_peers_forwarding.specs.ServerFull.Taken.{due_in}
use Rattle.law_peers_forwarding.specs.Passing.{FewPass, MayGoOn, OneIsDue, behind_wish, lets_acks_on}

-- ---- where no replacement is under way, no packet of one waits

no_wishes : (dues : List Due)
    → waiting_of is_out_r1_a1 dues + waiting_of is_out_r1_a5 dues + waiting_of is_out_r1_a9 dues
    ≡ 0
    → is_some (find (is_own kind.OutR1) dues) ≡ false
no_wishes [] h = refl
no_wishes (due ∷ dues) h = by due.packet h (no_wishes dues)
  where
    a1 : ℕ
    a1 = waiting_of is_out_r1_a1 dues

    a5 : ℕ
    a5 = waiting_of is_out_r1_a5 dues

    a9 : ℕ
    a9 = waiting_of is_out_r1_a9 dues

    by : (packet : Named)
        → (if is_out_r1_a1 packet then suc a1 else a1)
        + (if is_out_r1_a5 packet then suc a5 else a5)
        + (if is_out_r1_a9 packet then suc a9 else a9) ≡ 0
        → (a1 + a5 + a9 ≡ 0 → is_some (find (is_own kind.OutR1) dues) ≡ false)
        → is_some (if is_of Own due && is_kind kind.OutR1 packet then Some due
        else find (is_own kind.OutR1) dues) ≡ false
    by (named.OutR1A1 to) h rest = absurd (omega (arith, h))
    by (named.OutR1A5 to version timeout) h rest = absurd (omega (arith, h))
    by named.OutR1A9 h rest = absurd (omega (arith, h))
    by packet h rest =
        ap (λ (b : Bool). is_some (if b then Some due else find (is_own kind.OutR1) dues))
        (and_none (is_of Own due) false refl) ∙ rest h

steady_since : (x : Replacement) → is_steady x ≡ true
    → (since_asked x ≡ 0) × (since_answered x ≡ 0) × (since_confirmed x ≡ 0)
steady_since replacement.Steady e = (refl, refl, refl)
steady_since replacement.Asked e = absurd cc
steady_since (replacement.Answered successor) e = absurd cc
steady_since replacement.Confirmed e = absurd cc

asked_since : (x : Replacement) → is_steady x ≡ false → since_asked x ≡ 1
asked_since replacement.Steady e = absurd cc
asked_since replacement.Asked e = refl
asked_since (replacement.Answered successor) e = refl
asked_since replacement.Confirmed e = refl

none_or : (a b : Bool) → a ≡ true → b ≡ false → not a || b ≡ false
none_or true b e f = f
none_or false b e f = absurd cc

none_under : (p : Passage Server) → AreReplaced p → is_steady p.role.replacement ≡ true
    → under (view p.role) ≡ false
none_under p are steady =
    let since = steady_since p.role.replacement steady in
    let asked = since.0 in
    let answered = since.1 in
    let confirmed = since.2 in
    let a1 = are.a1_waits in
    let a5 = are.a5_waits in
    let a9 = are.a9_waits in
    none_or (is_steady p.role.replacement)
    (is_some (find (is_own kind.OutR1) p.role.waiting.due)) steady
    (no_wishes p.role.waiting.due (omega (arith, asked, answered, confirmed, a1, a5, a9)))

below_so : (a b : ℕ) → a < b → nat_lt a b ≡ true
below_so a b h = grind (arith, nat_tests)

-- ---- the law

module _ (channel : Cookie) (least from most before : ℕ) where
  abbrev acks : List OnLeg → ℕ
  acks put = often (is_ack_for channel) OutServer put

  abbrev StandsAt : View → List OnLeg → Type 0
  StandsAt x put =
      Stands channel least from most x (answers_in put) (asked_on from put) (more_on from put)

  -- as long as it wasn't put
  abbrev Claim : Passage Server → Type 0
  Claim p = AreLong least p.came → acks p.put ≤ before → StandsAt (view p.role) p.put

  record Known (p : Passage Server) : Type 0 where
    base : AreLong least p.came → Base channel least 0 (seen channel least 0 p.role)
    ready : AreLong least p.came → AreReady (view p.role)
    steady : is_steady p.role.replacement ≡ true → under (view p.role) ≡ false
    since : before ≤ acks p.put

  abbrev OneDue : Server → Type 0
  OneDue s = waiting_of is_in_a3 s.waiting.due ≤ 1

  module _ (p : Passage Server) (known : Known p) (claim : Claim p) where
    abbrev So : View → Type 0
    So x =
        IsSo channel least from most (answers_in p.put) (asked_on from p.put)
        (more_on from p.put) x

    keeps : AreKept least So
    keeps =
        so_kept channel least from most (answers_in p.put) (asked_on from p.put)
        (more_on from p.put)

    now_claim : (t : Server) → (So (view p.role) → So (view t)) → OneDue t
        → Claim (now_at p t)
    now_claim t so one = λ long few. so (λ now. claim long few) one

    row_claim : (leg : Leg) (m : Named) (x : Done)
        → (So (view p.role) → LongServes least So keeps (IsLong least m) x)
        → OneDue (taken_by p leg (Packet m) x).role → Claim (taken_by p leg (Packet m) x)
    row_claim leg m (t, Ok taken) so one = λ long few.
        let parts = long_before least p.came (leg, Packet m) long in
        so (λ now. claim parts.0 few) parts.1 one
    row_claim leg m (t, Err why) so one = λ long few. so (λ now. claim long few) one

    pdu_claim : (leg : Leg) (bytes : List ℕ) (x : Done) → (So (view p.role) → So (view x.0))
        → OneDue (taken_by p leg (Pdu bytes) x).role → Claim (taken_by p leg (Pdu bytes) x)
    pdu_claim leg bytes (t, Ok taken) so one = λ long few.
        so (λ now. claim (long_before least p.came (leg, Pdu bytes) long).0 few) one
    pdu_claim leg bytes (t, Err why) so one = λ long few. so (λ now. claim long few) one

    -- ---- puts

    in_claim : (n : ℕ) (pick : Pick)
        → IfSome pick (λ (one : Server × Message). view one.0 ≡ view p.role)
        → Claim (put_by p (leg_at InServer n) pick)
    in_claim n None same = claim
    in_claim n (Some one) same = λ long few.
        let now = claim long (subst (λ (k : ℕ). k ≤ before)
        (in_often (is_ack_for channel) n one.1 p.put) few) in
        subst (λ (x : View). StandsAt x (p.put ++ (leg_at InServer n, one.1) ∷ [])) (sym same)
        (subst (λ (k : ℕ). Stands channel least from most (view p.role) k
        (asked_on from (p.put ++ (leg_at InServer n, one.1) ∷ []))
        (more_on from (p.put ++ (leg_at InServer n, one.1) ∷ [])))
        (sym (in_put_in n one.1 p.put))
        (subst (λ (ms : List Message). Stands channel least from most (view p.role)
        (answers_in p.put) (count_of is_out_r1_a1 ms) (behind_first ms))
        (sym (in_leg_same n from one.1 p.put)) now))

    abbrev Gone : AreLong least p.came → acks p.put ≤ before → ℕ → Message → View
        → Type 0
    Gone long few n m x =
        IsGone channel least from most n p.role (answers_in p.put) (asked_on from p.put)
        (more_on from p.put) (claim long few) (known.base long) (known.ready long) known.steady
        m x

    out_claim : (n : ℕ) (pick : Pick)
        → ((long : AreLong least p.came) (few : acks p.put ≤ before)
        → IfSome pick (λ (one : Server × Message). Gone long few n one.1 (view one.0)))
        → OneDue (put_by p (leg_at OutServer n) pick).role
        → Claim (put_by p (leg_at OutServer n) pick)
    out_claim n None goes one = claim
    out_claim n (Some pair) goes one = λ long few.
        let more = acks_more channel n pair.1 p.put in
        let since = known.since in
        let few_then : acks p.put ≤ before = omega (arith, few, more) in
        subst (λ (k : ℕ). Stands channel least from most (view pair.0) k
        (asked_on from (p.put ++ (leg_at OutServer n, pair.1) ∷ []))
        (more_on from (p.put ++ (leg_at OutServer n, pair.1) ∷ [])))
        (sym (put_more n pair.1 p.put))
        (goes long few_then
        (λ is. let once = one_ack channel pair.1 is in
        absurd (omega (arith, few, more, once, since)))
        (asked_on from (p.put ++ (leg_at OutServer n, pair.1) ∷ []))
        (more_on from (p.put ++ (leg_at OutServer n, pair.1) ∷ []))
        (rises n from pair.1 p.put) one)

    puts_claim : (n : ℕ) (k : LegKind)
        → OneDue (put_by p (leg_at k n) (put_by_kind p.role n k)).role
        → Claim (put_by p (leg_at k n) (put_by_kind p.role n k))
    puts_claim n InServer one = in_claim n (put_in p.role n) (in_same p.role n)
    puts_claim n OutServer one =
        out_claim n (put_out_at p.role (out_place n p.role.outs))
        (λ long few. os_goes n p.role (Gone long few n) (Gone long few n)
        (phase_put channel least from most n p.role (answers_in p.put) (asked_on from p.put)
        (more_on from p.put) (claim long few) (known.base long) (known.ready long) known.steady)
        (out_place n p.role.outs) refl) one
    puts_claim n ClientIn one = claim
    puts_claim n ClientOut one = claim

  given_claim : (e : EndPassage Server) (bytes : List ℕ)
      (x : Server × Result (Unit {0}) GiveRefused) → Claim (now_at e.passage x.0)
      → Claim (given_by e bytes x).passage
  given_claim e bytes (s, Ok accepted) h = h
  given_claim e bytes (s, Err why) h = h

  taken_claim : (e : EndPassage Server) (pdus : List (List ℕ)) → Claim e.passage
      → Claim (with_first e pdus).passage
  taken_claim e [] h = h
  taken_claim e (bytes ∷ pdus) h = h

  given_due : (e : EndPassage Server) (bytes : List ℕ)
      (x : Server × Result (Unit {0}) GiveRefused) → OneDue (given_by e bytes x).passage.role
      → OneDue x.0
  given_due e bytes (s, Ok accepted) h = h
  given_due e bytes (s, Err why) h = h

  taken_due : (e : EndPassage Server) (pdus : List (List ℕ))
      → OneDue (with_first e pdus).passage.role → OneDue e.passage.role
  taken_due e [] h = h
  taken_due e (bytes ∷ pdus) h = h

  -- one move
  stepped : (e : EndPassage Server) (move : EndMove) → Known e.passage → Claim e.passage
      → OneDue (end_moved server_rules acts e move).passage.role
      → Claim (end_moved server_rules acts e move).passage
  stepped e (Moves (Up leg cookie)) known claim one =
      now_claim e.passage known claim (up e.passage.role leg cookie)
      (up_serves least (So e.passage known claim) (keeps e.passage known claim) e.passage.role leg
      cookie) one
  stepped e (Moves (HeadCame leg text)) known claim one = claim
  stepped e (Moves (PduCame leg count bytes)) known claim one =
      pdu_claim e.passage known claim leg bytes (pdu e.passage.role leg count bytes)
      (pdu_row least (So e.passage known claim) (keeps e.passage known claim) e.passage.role leg
      count bytes) one
  stepped e (Moves (PacketCame leg count m)) known claim one =
      row_claim e.passage known claim leg m
      (packet_by e.passage.role leg.number count m leg.kind)
      (packet_row least (So e.passage known claim) (keeps e.passage known claim) e.passage.role
      leg.number count m leg.kind) one
  stepped e (Moves (Puts leg)) known claim one =
      puts_claim e.passage known claim leg.number leg.kind one
  stepped e (Moves (IsDrawn leg)) known claim one =
      now_claim e.passage known claim (drawn_by e.passage.role leg.number leg.kind)
      (drawn_serves least (So e.passage known claim) (keeps e.passage known claim)
      e.passage.role leg.number leg.kind) one
  stepped e (Moves (Marks leg)) known claim one =
      now_claim e.passage known claim (mark_by e.passage.role leg.number leg.kind)
      (mark_serves least (So e.passage known claim) (keeps e.passage known claim)
      e.passage.role leg.number leg.kind) one
  stepped e (Moves (Pings leg)) known claim one = claim
  stepped e (Gives bytes) known claim one =
      given_claim e bytes (give e.passage.role bytes)
      (now_claim e.passage known claim (give e.passage.role bytes).0
      (give_serves least (So e.passage known claim) (keeps e.passage known claim)
      e.passage.role bytes) (given_due e bytes (give e.passage.role bytes) one))
  stepped e Takes known claim one =
      taken_claim (end_now_at e (take e.passage.role)) (acts.line e.passage.role).current.pdus
      (now_claim e.passage known claim (take e.passage.role)
      (take_serves least (So e.passage known claim) (keeps e.passage known claim)
      e.passage.role)
      (taken_due (end_now_at e (take e.passage.role))
      (acts.line e.passage.role).current.pdus one))
  stepped e Closes known claim one =
      now_claim e.passage known claim (close e.passage.role) (λ so. so) one
  stepped e Recycles known claim one =
      now_claim e.passage known claim (recycle e.passage.role).0
      (recycles least (So e.passage known claim) (keeps e.passage known claim) e.passage.role)
      one

module _ (window : ℕ) (front later : List EndMove) (least : ℕ) (channel : Cookie)
    (room : 56 * length (passed window front).role.waiting.due + 312 ≤ least)
    (ones : OneIsDue window (front ++ later))
    (waits : 1 ≤ waits_for (is_ack_for channel) (passed window front).role) where
  abbrev p : Passage Server
  p = passed window front

  abbrev from : ℕ
  from = p.role.writing

  abbrev most : ℕ
  most = taken_in p + due_in p.role

  abbrev before : ℕ
  before = out_put (is_ack_for channel) p

  abbrev ClaimAt : Passage Server → Type 0
  ClaimAt q = Claim channel least from most before q

  there : ahead.is_there channel p.role.waiting.due ≡ true
  there = ahead.waits_there channel p.role.waiting.due waits

  -- one waits at least
  some : (dues : List Due) → 1 ≤ waiting_of (is_ack_for channel) dues → 1 ≤ length dues
  some [] h = h
  some (due ∷ dues) h = omega arith

  enough : 340 ≤ least
  enough = let one = some p.role.waiting.due waits in omega (arith, one, room)

  known_at : (done : List EndMove)
      → Known channel least from most before (passed window (front ++ done))
  known_at done = record {
    base = bases channel least window (front ++ done);
    ready = λ long. (are_fit least enough window (front ++ done) long).1;
    steady = none_under (passed window (front ++ done)) (are_replaced window (front ++ done));
    since = put_grows (is_ack_for channel) window front done;
  }

  -- ---- behind the front

  sum_all : (one other : Bool) → span channel one other p.role.waiting.due ≤ due_in p.role
  sum_all one other =
      let all = span_all channel one other p.role.waiting.due in
      let both = both_kinds p.role.waiting.due in omega (arith, all, both)

  begins : ClaimAt p
  begins long few = by (is_steady p.role.replacement) refl
    where
      with_phase : (phase : Phase)
          → IsPhase channel least from most phase (view p.role) (answers_in p.put)
          (asked_on from p.put) (more_on from p.put)
          → StandsAt channel least from most before (view p.role) p.put
      with_phase phase h = record {
        there = there;
        room = let fewer = ahead.count_at_most channel p.role.waiting.due in
            omega (arith, room, fewer);
        phase = phase;
        holds = h;
      }

      are : AreReplaced p
      are = are_replaced window front

      asked : (k : ℕ) → waits_for is_out_r1_a1 p.role ≡ k
          → is_steady p.role.replacement ≡ false
          → StandsAt channel least from most before (view p.role) p.put
      asked zero none other =
          let since = asked_since p.role.replacement other in
          let all = are.asked in
          let writes = are.writing in
          let all_put : out_put is_out_r1_a1 p ≡ from =
          omega (arith, none, since, all, writes) in
          let once = (are_put_in_turn window front).a1.each from (omega (arith, writes))
          (omega (arith, all_put)) in
          let sum = sum_all true false in
          with_phase Wished (omega (arith, once), refl, omega (arith, sum))
      asked (suc k) some_wait other =
          let sum = sum_all true true in
          with_phase Asking (
            found_there is_out_r1_a1 p.role.waiting.due (omega (arith, some_wait)),
            refl,
            omega (arith, sum),
          )

      by : (b : Bool) → is_steady p.role.replacement ≡ b
          → StandsAt channel least from most before (view p.role) p.put
      by true e =
          let sum = sum_all true false in with_phase Early (e, refl, omega (arith, sum))
      by false e = asked (waits_for is_out_r1_a1 p.role) refl e

  -- ---- later

  one_due : (moves rest : List EndMove) → front ++ later ≡ moves ++ rest
      → OneDue channel least from most before (passed window moves).role
  one_due moves rest e =
      let one = ones moves rest e in
      let both = both_kinds (passed window moves).role.waiting.due in omega (arith, one, both)

  one_more : (done : List EndMove) (move : EndMove)
      → passed window (front ++ (done ++ move ∷ []))
      ≡ (end_moved server_rules acts
      (all_end_moved server_rules acts (end_started (first window)) (front ++ done)) move).passage
  one_more done move =
      ap (λ (moves : List EndMove). passed window moves)
      (sym (append_assoc front done (move ∷ [])))
      ∙ ap (λ (e : EndPassage Server). e.passage)
      (all_end_moved_append server_rules acts (end_started (first window)) (front ++ done)
      (move ∷ []))

  next : (done : List EndMove) (move : EndMove) (rest : List EndMove)
      → later ≡ done ++ move ∷ rest → ClaimAt (passed window (front ++ done))
      → ClaimAt (passed window (front ++ (done ++ move ∷ [])))
  next done move rest e claim =
      subst ClaimAt (sym (one_more done move))
      (stepped channel least from most before
      (all_end_moved server_rules acts (end_started (first window)) (front ++ done)) move
      (known_at done) claim
      (subst (λ (q : Passage Server). OneDue channel least from most before q.role)
      (one_more done move)
      (one_due (front ++ (done ++ move ∷ [])) rest
      (ap (λ (moves : List EndMove). front ++ moves)
      (e ∙ sym (append_assoc done (move ∷ []) rest))
      ∙ sym (append_assoc front (done ++ move ∷ []) rest)))))

  goes : (done rest : List EndMove) → later ≡ done ++ rest
      → ClaimAt (passed window (front ++ done)) → ClaimAt (passed window (front ++ later))
  goes done [] e claim =
      subst (λ (moves : List EndMove). ClaimAt (passed window (front ++ moves)))
      (sym (e ∙ append-nil done)) claim
  goes done (move ∷ rest) e claim =
      goes (done ++ move ∷ []) rest (e ∙ sym (append_assoc done (move ∷ []) rest))
      (next done move rest e claim)

  abbrev q : Passage Server
  q = passed window (front ++ later)

  ends : ClaimAt q
  ends =
      goes [] later refl (subst (λ (moves : List EndMove). ClaimAt (passed window moves))
      (sym (append-nil front)) begins)

  -- an acknowledgement may go there still
  not_short : lets_acks_on (out_leg q.role.writing q.role.outs) ≡ true
      → AreSo IsShort q.role.writing q.role.outs → ⊥
  not_short e all = by (out_place q.role.writing q.role.outs) refl e
    where
      at : (place : ℕ) → out_place q.role.writing q.role.outs ≡ Some place
          → (o : Option OutLeg) → slice_get q.role.outs place ≡ o
          → lets_acks_on o ≡ true → ⊥
      at place is None there_is e = other_way (sym e)
      at place is (Some leg) there_is e =
          let short = subst (λ o. IfSome o (λ (one : OutLeg). one.number ≡ q.role.writing
          → IsShort one.meter)) there_is
          (each_got (λ (one : OutLeg). one.number ≡ q.role.writing → IsShort one.meter)
          q.role.outs place all) (number_found q.role.writing q.role.outs place leg is there_is) in
          let wide = wide_so leg.meter e in absurd (omega (arith, short, wide))

      by : (place : Option ℕ) → out_place q.role.writing q.role.outs ≡ place
          → lets_acks_on (out_at q.role.outs place) ≡ true → ⊥
      by None is e = other_way (sym e)
      by (Some place) is e = at place is (slice_get q.role.outs place) refl e

  pub at_most : AreLong least q.came → MayGoOn q.role
      → out_put (is_ack_for channel) q ≤ before
      → taken_in q ≤ taken_in p + due_in p.role + 1 + behind_wish from q
  at_most long may few = by s.phase s.holds
    where
      s : StandsAt channel least from most before (view q.role) q.put
      s = ends long few

      over : MayGoOn q.role → nat_lt q.role.writing last_number ≡ false
          → AreSo IsShort q.role.writing q.role.outs → ⊥
      over (inl less) e all =
          other_way (sym (below_so q.role.writing last_number less) ∙ e)
      over (inr lets) e all = not_short lets all

      by : (phase : Phase)
          → IsPhase channel least from most phase (view q.role) (answers_in q.put)
          (asked_on from q.put) (more_on from q.put)
          → taken_in q ≤ taken_in p + due_in p.role + 1 + behind_wish from q
      by Early h = let sum = h.2 in omega (arith, sum)
      by Asking h = let sum = h.2 in omega (arith, sum)
      by Wished h = let sum = h.2 in omega (arith, sum)
      by Late h = let sum = h.1 in omega (arith, sum)
      by Over h = absurd (over may h.1 h.2)

pub few_pass : (window : ℕ) (front later : List EndMove) → FewPass window front later
few_pass window front later least channel long room ones may waits few =
    at_most window front later least channel room ones waits long may few
