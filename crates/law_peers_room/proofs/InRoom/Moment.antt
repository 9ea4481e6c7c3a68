-- few packets wait in an in proxy at a moment
use Rattle.law_order.proofs.Vocabulary.{◌≡◌, ℕ, suc, ◌+◌, ◌≤◌, ◌<◌, ◌==◌, nat_lt, Bool, true, false, if◌then◌else◌, List, [], ◌∷◌, ◌++◌, length, inl, inr, arith, refl, sym, ap, ◌∙◌, subst, eq-eqb, nat_tests, count_by-le-length, IsPrefix}
use Rattle.rh_shell.specs.Waiting.{is_of}
use Rattle.law_moves.proofs.Vocabulary.{test_other, test_same, Cookie, Named, AckTo, Leg, ClientIn, InServer, Due, Forwarded, FORWARDED_ROOM, Message, Text, Pdu, Packet, Move, OnLeg, all_moved, started, of_leg, all_read_of, HasOne, count_of, HasComeUp, count_on, sum_below}
use Rattle.law_moves.proofs.Lemmas.{count_rises, each_so, all_legs, some_legs, sum_rises, of_append as leg_append}
use Rattle.law_role_inproxy.proofs.Vocabulary.{InProxyConfig, rules, first}
use Rattle.law_role_client.proofs.Vocabulary.{ci, is_out_r1_a7}
use Rattle.law_role_server.proofs.Vocabulary.{is_out_r1_a8}
use Rattle.law_peers_moments.proofs.Joining.{in_front, in_reads}
use Rattle.law_peers_moments.proofs.GoingRound.Fronts.{are_fronts}
use Rattle.law_peers_moments.specs.Moments.{AreMade, IsJoined, ReadInTurn, Moves, Numbers, client_behind, in_behind, passages, server_behind}
use Rattle.law_peers_moments.specs.GoingRound.{GoRound}
use Rattle.law_peers_room.proofs.InRoom.Found.{acked, found, near_it}
use Rattle.law_peers_room.proofs.InRoom.Full.{never_full}
use Rattle.law_peers_room.proofs.InRoom.Keeping.{on_here, total}
use Rattle.law_peers_room.proofs.InRoom.Names.{no_more}
use Rattle.law_peers_room.proofs.InRoom.Places.{IsPlaced, few_placed, names, reader_most, reads_between, sums_end, sums_from}
use Rattle.law_peers_room.proofs.InRoom.Share.{came_most, came_on, read, read_on, share, wait_low}
use Rattle.law_peers_room.specs.InRoom.Acks.{AcksNear, AcksOnEach, IsNear}
use Rattle.law_peers_room.specs.InRoom.Room.{FewWait, HasRoom}
use Rattle.law_peers_room.specs.InRoom.Waiting.{AreApart, CameBehind, WaitFrom, WaitsInTurn, passed, switches}

-- one among others
one_among : (P : Named → Type 0) (a b : List Message) (m : Named) → P m
    → HasOne P (a ++ Packet m ∷ b)
one_among P [] b m is = inl is
one_among P (Text bytes ∷ a) b m is = one_among P a b m is
one_among P (Pdu pdu ∷ a) b m is = one_among P a b m is
one_among P (Packet other ∷ a) b m is = inr (one_among P a b m is)

-- what an end put and what came to the other, by proxies that read its channels
module _ (reader : ℕ → ℕ) (turn : ReadInTurn reader) (put server_came : List OnLeg)
    (ins_came ins_put : ℕ → List OnLeg)
    (ci_up : (j k : ℕ) → count_on is_out_r1_a7 ClientIn (ins_came j) k
    ≤ (if reader k == j then count_on is_out_r1_a7 ClientIn put k else 0))
    (is_up : (k : ℕ) → count_on is_out_r1_a8 InServer server_came k
    ≤ count_on is_out_r1_a8 InServer (ins_put k) k)
    (low : (k : ℕ) → passed k (ins_put k) ≤ switches (ins_came k))
    (round : total is_out_r1_a7 ClientIn put ≤ suc (total is_out_r1_a8 InServer server_came))
    (m : ℕ) (least : 1 ≤ m) where
  abbrev came : List OnLeg
  came = ins_came m

  abbrev often : ℕ
  often = passed m (ins_put m)

  abbrev all_on : ℕ → ℕ
  all_on k = count_on is_out_r1_a7 ClientIn put k

  -- on the channels that the in proxy reads
  abbrev its : List OnLeg
  its = read reader put server_came ins_came ins_put ci_up is_up low round m

  abbrev its_on : ℕ → ℕ
  its_on k = count_on is_out_r1_a7 ClientIn its k

  abbrev base : ℕ
  base = sum_below all_on m

  most : (n : ℕ) → sum_below its_on n ≤ suc often
  most n =
      let some = some_legs is_out_r1_a7 ClientIn its n in
      let all = share reader put server_came ins_came ins_put ci_up is_up low round m in
      omega (arith, some, all)

  on_its : (k : ℕ) (b : Bool) → (reader k == m) ≡ b → its_on k ≡ (if b then all_on k else 0)
  on_its k b e =
      read_on reader put server_came ins_came ins_put ci_up is_up low round m k
      ∙ ap (λ (c : Bool). if c then all_on k else 0) e

  -- up to one that it reads
  up_to : (n : ℕ) → reader n ≡ m → sum_below all_on n ≡ base + sum_below its_on n
  up_to n is =
      sums_from its_on all_on m n
      (let under = reader_most reader turn n in omega (arith, under, is))
      (λ k l. on_its k false (apart k l))
      (λ k from to. on_its k true
      (eq-eqb (reader k) m (reads_between reader turn m n least is k from (omega (arith, to)))))
    where
      apart : (k : ℕ) → k < m → (reader k == m) ≡ false
      apart k l = let under = reader_most reader turn k in
          test_other (reader k) m (λ (same : reader k ≡ m). omega (arith, under, l, same))

  module _ (Comes : Leg → Cookie → Type 0)
      (one : (leg : Leg) (a b : Cookie) → Comes leg a → Comes leg b → a ≡ b)
      (acks : AcksOnEach Comes put)
      (front : (n : ℕ) → IsPrefix (of_leg (ci n) came) (all_read_of (of_leg (ci n) put)))
      (reads : (P : Named → Type 0) (n : ℕ) → HasOne P (of_leg (ci n) came) → reader n ≡ m) where
    abbrev Placed : Cookie → Type 0
    Placed cookie = IsPlaced Comes one its_on base often most cookie

    placed : (cookie : Cookie) → CameBehind often cookie came → Placed cookie
    placed cookie h =
        let here = on n in
        let next = on (suc n) in
        let behind = h.behind in
        let sum = sums in
        let end = most (suc (suc n)) in
        record {
          number = n;
          switched = sum_below its_on n + before_on n;
          near = subst (λ (k : ℕ). IsNear Comes k cookie) start
              (near_it Comes (sum_below all_on n) n came put (front n) (acks n) h.before h.later
              h.received h.available cookie h.is);
          low = omega (arith, here, next, behind, sum, end);
          high = omega (arith, here);
          reach = omega (arith, here, next, behind, sum);
        }
      where
        n : ℕ
        n = h.number

        message : Named
        message = AckTo 3 h.received h.available cookie

        before_on : ℕ → ℕ
        before_on k = count_on is_out_r1_a7 ClientIn h.before k

        stands : of_leg (ci h.number) came
            ≡ of_leg (ci h.number) h.before ++ Packet message ∷ of_leg (ci h.number) h.later
        stands =
            ap (of_leg (ci h.number)) h.is
            ∙ leg_append (ci h.number) h.before ((ci h.number, Packet message) ∷ h.later)
            ∙ ap (λ (ms : List Message). of_leg (ci h.number) h.before ++ ms)
            (on_here (ci h.number) (ci h.number, Packet message) h.later (test_same h.number))

        is_read : reader h.number ≡ m
        is_read =
            reads (λ (other : Named). other ≡ message) h.number
            (subst (HasOne (λ (other : Named). other ≡ message)) (sym stands)
            (one_among (λ (other : Named). other ≡ message) (of_leg (ci h.number) h.before)
            (of_leg (ci h.number) h.later) message refl))

        start : sum_below all_on h.number
            + count_on is_out_r1_a7 ClientIn h.before h.number
            ≡ base + (sum_below its_on h.number
            + count_on is_out_r1_a7 ClientIn h.before h.number)
        start = let up = up_to h.number is_read in omega (arith, up)

        -- before it no more came than the client put
        on : (k : ℕ) → count_on is_out_r1_a7 ClientIn h.before k ≤ its_on k
        on k =
            let all = ap (λ (log : List OnLeg). of_leg (ci k) log) h.is
            ∙ leg_append (ci k) h.before ((ci h.number, Packet message) ∷ h.later) in
            let rise = subst (λ (ms : List Message).
            count_on is_out_r1_a7 ClientIn h.before k ≤ count_of is_out_r1_a7 ms) (sym all)
            (count_rises is_out_r1_a7 (of_leg (ci k) h.before)
            (of_leg (ci k) ((ci h.number, Packet message) ∷ h.later))) in
            let up = came_on reader put server_came ins_came ins_put ci_up is_up low round m k in
            omega (arith, rise, up)

        none : (k : ℕ) → suc (suc h.number) ≤ k
            → count_on is_out_r1_a7 ClientIn h.before k ≡ 0
        none k above =
            ap (count_of is_out_r1_a7) (h.near k (omega (arith, above)))

        sums : switches h.before ≤ sum_below its_on h.number
            + count_on is_out_r1_a7 ClientIn h.before h.number
            + count_on is_out_r1_a7 ClientIn h.before (suc h.number)
        sums =
            let legs = all_legs is_out_r1_a7 ClientIn h.before in
            let all = legs.all (suc (suc h.number) + legs.bound) (omega arith) in
            let end = sums_end (count_on is_out_r1_a7 ClientIn h.before) (suc (suc h.number))
            legs.bound none in
            let rise = sum_rises (count_on is_out_r1_a7 ClientIn h.before) its_on on h.number in
            omega (arith, all, end, rise)

    -- ---- what waits

    pub few : (dues : List Due) → WaitFrom often came dues → AreApart dues → length dues ≤ 11
    few dues waits apart =
        let all = found came often often dues (omega arith) waits apart in
        let each = each_so (λ (cookie : Cookie). CameBehind often cookie came) Placed placed
        (acked dues) all.behind in
        let named = few_placed Comes one its_on base often most (acked dues) each in
        let few = no_more Comes one (names Comes one its_on base often most named.0) (acked dues)
        all.apart named.1 in
        let counted = all.counted in
        let switched = came_most reader put server_came ins_came ins_put ci_up is_up low round m in
        omega (arith, few, counted, switched)

-- ---- a moment

pub of_each : (numbers : Numbers) (moves : Moves) → AreMade numbers moves
    → ((config : InProxyConfig) (made : List Move)
    → WaitsInTurn config.number (all_moved rules (started (first config)) made))
    → (m : ℕ) → WaitsInTurn m (in_behind numbers moves m)
of_each numbers moves made each m =
    subst (λ (k : ℕ). WaitsInTurn k (in_behind numbers moves m)) (made.in_number m)
    (each (numbers.ins m) (moves.ins m))

within : (few room : ℕ) → few ≤ 11 → room ≡ FORWARDED_ROOM → nat_lt few room ≡ true
within few room least is = grind (arith, nat_tests, least, is)

module _ (numbers : Numbers) (reader : ℕ → ℕ) (moves : Moves)
    (joined : IsJoined numbers reader moves)
    (waits : (m : ℕ) → WaitsInTurn m (in_behind numbers moves m))
    (acks : AcksNear numbers.client moves.client)
    (rounds : GoRound (client_behind numbers moves).passage (server_behind numbers moves).passage)
    (m : ℕ) (least : 1 ≤ m) where
  pub few_wait : FewWait (in_behind numbers moves m)
  few_wait =
      let fronts = are_fronts reader (passages numbers moves) joined.joined in
      let dues = (in_behind numbers moves m).role.waiting.due in
      let few = few reader joined.read (client_behind numbers moves).passage.put
      (server_behind numbers moves).passage.came (λ k. (in_behind numbers moves k).came)
      (λ k. (in_behind numbers moves k).put) (fronts.ci_up is_out_r1_a7)
      (fronts.is_up is_out_r1_a8)
      (λ k. wait_low (passed k (in_behind numbers moves k).put) (in_behind numbers moves k).came
      (in_behind numbers moves k).role.waiting.due (waits k).turn) round m least
      (HasComeUp moves.client) joined.cookies.one acks
      (in_front reader (passages numbers moves) joined.joined m)
      (λ P. in_reads reader (passages numbers moves) joined.joined P m) dues (waits m).turn
      (waits m).apart in
      let some = count_by-le-length (is_of Forwarded) dues in
      omega (arith, few, some)
    where
      round : total is_out_r1_a7 ClientIn (client_behind numbers moves).passage.put
          ≤ suc (total is_out_r1_a8 InServer (server_behind numbers moves).passage.came)
      round =
          let outs = rounds.outs in
          let a9 = outs.a9_behind_a8 in
          let a7 = outs.a7_behind_a6 in
          let a6 = outs.a6_behind_a5 in
          let a5 = outs.a5_behind_a4 in
          let a4 = outs.a4_behind_a3 in
          let a3 = outs.a3_behind_a2 in
          let a2 = outs.a2_behind_a1 in
          let a1 = outs.a1_behind_a9 in
          omega (arith, a9, a7, a6, a5, a4, a3, a2, a1)

  pub has_room : HasRoom (in_behind numbers moves m)
  has_room leg count named full =
      never_full (in_behind numbers moves m).role (within _ _ few_wait (waits m).room) leg count
      named full
