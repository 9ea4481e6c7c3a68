-- behind a wish for an OUT channel the server puts at most one answer for an IN channel on its leg
use Rattle.law_order.proofs.Vocabulary.{◌≡◌, ◌⊎◌, inl, inr, ℕ, zero, suc, ◌+◌, ◌<◌, ◌≤◌, Bool, true, false, true≢false, List, [], ◌∷◌, ◌++◌, Some, None, Ok, Err, if◌then◌else◌, append_assoc, arith, refl, sym, ap, ◌∙◌, subst, Option, Result}
use Rattle.rh_sig.specs.declared.named.Named.TheVariants as named
use Rattle.rh_server.specs.Servers as servers
use Rattle.law_moves.proofs.Vocabulary.{Named, Leg, ClientOut, OutServer, GiveRefused, Message, Row, Text, Pdu, Packet, same_leg, EndMove, EndPassage, OnLeg, Passage, Move, Up, HeadCame, PduCame, PacketCame, Puts, IsDrawn, Marks, Pings, Moves, Gives, Takes, Closes, Recycles, moved, taken_by, put_by, end_now_at, given_by, with_first, all_end_moved, end_moved, end_started, of_leg, count_of, of_kind, is_out_r1_a1, is_out_r1_a2, count_on}
use Rattle.law_moves.proofs.Lemmas.{count_append, leg_more, leg_is}
use Rattle.law_role_client.proofs.Vocabulary.{acts, rules, first, ClientRole, AreAllowedMoves, client_moved, is_in_a4, AsksWhereWanted, ReplacesOuts, in_answered, in_asked, out_switched}
use Rattle.law_role_client.proofs.Counted.Standing.{passes, total_stays}
use Rattle.law_role_server.proofs.Vocabulary.{Server, ArePutInTurn}
use Rattle.law_role_server.specs.Counted.Counting as at_server
use Rattle.law_role_outproxy.proofs.Vocabulary.{co_leg, os_leg}
use Rattle.law_role_server_rows.specs.InTurn.Channels.{IsWritten, WritesOnBegun}
use Rattle.law_node_streams.proofs.Streams.EndMoves.{all_end_moved_append}
use Rattle.law_peers_moments.proofs.Joining.{co_back, os_back}
use Rattle.law_peers_moments.proofs.Read.{front_count}
use Rattle.law_peers_moments.proofs.GoingRound.Rounding.{sum_counts}
use Rattle.law_peers_moments.specs.Moments.{IsJoined, IsMoment, IsPast, Moves as AllMoves, Numbers, client_behind, out_behind, passages, server_behind}
use Rattle.law_peers_moments.specs.GoingRound.{GoRound}
use Rattle.law_peers_in_channels.proofs.ServerExpects.Fronts.{IsOneMore, all_fronts, behind_all, one_more}
use Rattle.law_peers_room.proofs.OutRoom.Rounds.{answers as taken}
use Rattle.law_peers_room.specs.OutRoom.Waits.{WaitsInOrder, behind, is_in_a3}
use Rattle.law_peers_forwarding.proofs.Answering.Following.{AreFewer, IsWish, IsWished, all_fewer, came_on, find_wish, left_before, wish_step, wishes_on}
use Rattle.law_peers_forwarding.proofs.Answering.Since.{allowed_parts}
use Rattle.law_peers_forwarding.proofs.Answering.Sums.{all_more}
use Rattle.law_peers_forwarding.proofs.Answering.Until.{until_all, until_rises, until_split}
use Rattle.law_peers_forwarding.specs.Answering.Passing.{AnswersComeBefore, OneFollows}
use Rattle.law_peers_forwarding.specs.Answering.Wishes.{AsksOneBehind}

apart : (m : Named) → is_out_r1_a1 m ≡ true → is_in_a3 m ≡ false
apart (named.OutR1A1 to) e = refl
apart m e = absurd (true≢false (sym e))

abbrev after : ℕ → Passage Server → ℕ
after n server = count_of is_in_a3 (behind is_out_r1_a1 1 (of_leg (os_leg n) server.put))

-- ---- puts, one by one

abbrev IsPut : Passage Server → Passage Server → Type 0
IsPut p q = (q.put ≡ p.put) ⊎ ((one : OnLeg) × (q.put ≡ p.put ++ one ∷ []))

row_puts : (p : Passage Server) (leg : Leg) (m : Message) (row : Server × Row)
    → IsPut p (taken_by p leg m row)
row_puts p leg m (s, Ok taken) = inl refl
row_puts p leg m (s, Err refused) = inl refl

pick_puts : (p : Passage Server) (leg : Leg) (pick : Option (Server × Message))
    → IsPut p (put_by p leg pick)
pick_puts p leg None = inl refl
pick_puts p leg (Some one) = inr ((leg, one.1), refl)

move_puts : (p : Passage Server) (move : Move) → IsPut p (moved servers.rules p move)
move_puts p (Up leg cookie) = inl refl
move_puts p (HeadCame leg text) = inl refl
move_puts p (PduCame leg count bytes) =
    row_puts p leg (Pdu bytes) (servers.rules.pdu p.role leg count bytes)
move_puts p (PacketCame leg count m) =
    row_puts p leg (Packet m) (servers.rules.packet p.role leg count m)
move_puts p (Puts leg) = pick_puts p leg (servers.rules.put p.role leg)
move_puts p (IsDrawn leg) = inl refl
move_puts p (Marks leg) = inl refl
move_puts p (Pings leg) = inl refl

given_puts : (p : EndPassage Server) (bytes : List ℕ) (x : Server × Result (Unit {0}) GiveRefused)
    → IsPut p.passage (given_by p bytes x).passage
given_puts p bytes (s, Ok accepted) = inl refl
given_puts p bytes (s, Err refused) = inl refl

first_puts : (p q : EndPassage Server) (pdus : List (List ℕ)) → q.passage.put ≡ p.passage.put
    → IsPut p.passage (with_first q pdus).passage
first_puts p q [] e = inl e
first_puts p q (pdu ∷ pdus) e = inl e

end_puts : (p : EndPassage Server) (move : EndMove)
    → IsPut p.passage (end_moved servers.rules servers.acts p move).passage
end_puts p (Moves move) = move_puts p.passage move
end_puts p (Gives bytes) = given_puts p bytes (servers.acts.give p.passage.role bytes)
end_puts p Takes =
    first_puts p (end_now_at p (servers.acts.take p.passage.role))
    (servers.acts.line p.passage.role).current.pdus refl
end_puts p Closes = inl refl
end_puts p Recycles = inl refl

-- with one more message no more follow than it counts
more_after : (ms : List Message) (more : List Message)
    → count_of is_in_a3 (behind is_out_r1_a1 1 (ms ++ more))
    ≤ count_of is_in_a3 (behind is_out_r1_a1 1 ms) + count_of is_in_a3 more
more_after ms more =
    let before = until_split is_in_a3 is_out_r1_a1 apart ms in
    let now = until_split is_in_a3 is_out_r1_a1 apart (ms ++ more) in
    let all = count_append is_in_a3 ms more in
    let rise = until_rises is_in_a3 is_out_r1_a1 ms more in
    omega (arith, before, now, all, rise)

-- it is an answer for an IN channel, on that leg
record IsAnswer (n : ℕ) (leg : Leg) (m : Message) : Type 0 where
  on : leg ≡ os_leg n
  written : IsWritten m
  other : passes at_server.is_out_r1_a9 m ≡ false

is_answer : (n : ℕ) (leg : Leg) (m : Message)
    → 1 ≤ count_of is_in_a3 (of_leg (os_leg n) ((leg, m) ∷ [])) → IsAnswer n leg m
is_answer n leg m some = by (same_leg leg (os_leg n)) refl some
  where
    packet : (m : Message) → leg ≡ os_leg n → 1 ≤ count_of is_in_a3 (m ∷ []) → IsAnswer n leg m
    packet (Text bytes) on some = absurd (omega (arith, some))
    packet (Pdu bytes) on some = absurd (omega (arith, some))
    packet (Packet (named.InR1A3 to version window timeout)) on some =
        record { on = on; written = refl; other = refl }
    packet (Packet (named.InR2A3 to)) on some = record { on = on; written = refl; other = refl }
    packet (Packet other) on some = absurd (omega (arith, some))

    by : (b : Bool) → same_leg leg (os_leg n) ≡ b
        → 1 ≤ count_of is_in_a3 (if b then m ∷ [] else []) → IsAnswer n leg m
    by true e some = packet m (leg_is leg (os_leg n) e) some
    by false e some = absurd (omega (arith, some))

-- the laws of the roles
pub record Laws (numbers : Numbers) : Type 0 where
  pub joined_rounds : (reader : ℕ → ℕ) (moves : AllMoves) → IsJoined numbers reader moves
      → GoRound (client_behind numbers moves).passage (server_behind numbers moves).passage
  pub joined_waits : (reader : ℕ → ℕ) (moves : AllMoves) → IsJoined numbers reader moves → (n : ℕ)
      → WaitsInOrder n (out_behind numbers moves n)
  pub joined_before : (reader : ℕ → ℕ) (moves : AllMoves) → IsJoined numbers reader moves
      → (n : ℕ) → AnswersComeBefore n (client_behind numbers moves).passage
      (server_behind numbers moves).passage
  pub asks_one : (before later : List EndMove)
      → AreAllowedMoves numbers.client (before ++ later)
      → AsksOneBehind (client_moved numbers.client before).passage
      (client_moved numbers.client (before ++ later)).passage
  pub replaces : (moves : List EndMove) → AreAllowedMoves numbers.client moves
      → ReplacesOuts (client_moved numbers.client moves).passage
  pub asks : (moves : List EndMove) → AreAllowedMoves numbers.client moves
      → AsksWhereWanted (client_moved numbers.client moves).passage
  pub turn : (moves : AllMoves) → ArePutInTurn (server_behind numbers moves).passage
  pub writes : (moves : AllMoves) → WritesOnBegun (server_behind numbers moves).passage

module _ (numbers : Numbers) (reader : ℕ → ℕ) (moves : AllMoves)
    (moment : IsMoment numbers reader moves) (laws : Laws numbers) (n : ℕ) where
  module _ (past : IsPast numbers moves) where
    abbrev client : Passage ClientRole
    client = (client_behind numbers past.moves_then).passage

    abbrev server : Passage Server
    server = (server_behind numbers past.moves_then).passage

    round : GoRound client server
    round = laws.joined_rounds past.reader_then past.moves_then past.then_joined

    -- what was answered before a wish came, and what follows it, was asked for
    asked : (p : Passage ClientRole) → ((k : ℕ) → AreFewer k p client) → wishes_on n p ≡ 0
        → in_answered p + after n server ≤ in_asked client
    asked p fewer none =
        let all =
        all_more is_in_a4 is_in_a3 ClientOut OutServer p.came server.put each n
        (after n server) here in
        let sum =
        sum_counts is_in_a3 at_server.is_in_r1_a3 at_server.is_in_r2_a3 taken
        (of_kind OutServer server.put) in
        let second = round.ins.a3_behind_a2 in
        let third = round.ins.a2_behind_a1 in
        omega (arith, all, sum, second, third)
      where
        each : (k : ℕ) → count_on is_in_a4 ClientOut p.came k
            ≤ count_on is_in_a3 OutServer server.put k
        each k =
            let so_far = (fewer k).answers in
            let came =
            front_count is_in_a4 (came_on k client)
            (of_leg (co_leg k) (out_behind numbers past.moves_then k).put)
            (co_back past.reader_then (passages numbers past.moves_then)
            past.then_joined.joined k) in
            let passed =
            (laws.joined_waits past.reader_then past.moves_then past.then_joined k).ins in
            let put =
            front_count is_in_a3
            (of_leg (os_leg k) (out_behind numbers past.moves_then k).came)
            (of_leg (os_leg k) server.put)
            (os_back past.reader_then (passages numbers past.moves_then)
            past.then_joined.joined k) in
            omega (arith, so_far, came, passed, put)

        here : count_on is_in_a4 ClientOut p.came n + after n server
            ≤ count_on is_in_a3 OutServer server.put n
        here =
            let all = until_all is_in_a4 is_out_r1_a2 (came_on n p) none in
            let so_far = (fewer n).before in
            let passed =
            laws.joined_before past.reader_then past.moves_then past.then_joined n in
            let both = until_split is_in_a3 is_out_r1_a1 apart (of_leg (os_leg n) server.put) in
            omega (arith, all, so_far, passed, both)

    itself : (k : ℕ) → AreFewer k client client
    itself k = record { answers = omega arith; before = omega arith }

    -- as long as the channel was not left
    one_by : at_server.out_put at_server.is_out_r1_a9 server < n
        → (wishes_on n client ≡ 0) ⊎ IsWished n numbers.client past.moves_then.client
        → after n server ≤ 1
    one_by less (inl none) =
        let all = asked client itself none in
        let one = round.ins.a1_behind_a4 in
        omega (arith, all, one)
    one_by less (inr w) =
        let all = asked before.passage fewer w.none in
        let behind_wish = one_behind in
        let answered = wish.answered in
        let wanted = wish.wanted in
        let switched = wish.switched in
        let left = left_at in
        let replaced = laws.replaces w.front allowed_front in
        let a = replaced.answered in
        let b = replaced.asked in
        let c = (laws.asks w.front allowed_front).wanted in
        let done = round.outs.a10_behind_a9 in
        let most = behind_wish (omega (arith, less, done, left, switched, a, b, c, wanted)) in
        omega (arith, all, most, answered)
      where
        before : EndPassage ClientRole
        before = client_moved numbers.client w.front

        then : EndPassage ClientRole
        then = client_moved numbers.client (w.front ++ w.move ∷ [])

        parts : past.moves_then.client ≡ (w.front ++ w.move ∷ []) ++ w.later
        parts = w.is ∙ sym (append_assoc w.front (w.move ∷ []) w.later)

        allowed : AreAllowedMoves numbers.client ((w.front ++ w.move ∷ []) ++ w.later)
        allowed =
            subst (AreAllowedMoves numbers.client) parts past.then_joined.made.client

        allowed_front : AreAllowedMoves numbers.client w.front
        allowed_front =
            (allowed_parts (end_started (first numbers.client)) w.front (w.move ∷ w.later)
            (subst (AreAllowedMoves numbers.client) w.is past.then_joined.made.client)).0

        fewer : (k : ℕ) → AreFewer k before.passage client
        fewer k =
            subst (λ (ms : List EndMove).
            AreFewer k before.passage (client_moved numbers.client ms).passage) (sym w.is)
            (subst (λ (p : EndPassage ClientRole). AreFewer k before.passage p.passage)
            (sym (all_end_moved_append rules acts (end_started (first numbers.client)) w.front
            (w.move ∷ w.later))) (all_fewer k before (w.move ∷ w.later)))

        wish : IsWish before.passage then.passage
        wish =
            wish_step n before.passage then.passage
            (subst (λ (p : EndPassage ClientRole). IsOneMore rules acts before.passage p.passage)
            (sym (behind_all rules acts (end_started (first numbers.client)) w.front w.move))
            (one_more rules acts before w.move)) w.none w.some

        one_behind : AsksOneBehind then.passage client
        one_behind =
            subst (λ (ms : List EndMove).
            AsksOneBehind then.passage (client_moved numbers.client ms).passage) (sym parts)
            (laws.asks_one (w.front ++ w.move ∷ []) w.later allowed)

        at : (past : IsPast numbers moves)
            × (past.moves_then.client ≡ w.front ++ w.move ∷ [])
        at =
            moment.client_past (w.front ++ w.move ∷ []) (w.later ++ past.client.0)
            (sym past.client.1
            ∙ ap (λ (ms : List EndMove). ms ++ past.client.0) parts
            ∙ append_assoc (w.front ++ w.move ∷ []) w.later past.client.0)

        left_at : n ≤ out_switched then.passage + 1
        left_at =
            let p = at.0 in
            subst (λ (ms : List EndMove).
            n ≤ out_switched (client_moved numbers.client ms).passage + 1) at.1
            (left_before p.reader_then (passages numbers p.moves_then) p.then_joined.joined n
            (laws.joined_waits p.reader_then p.moves_then p.then_joined n)
            (laws.turn p.moves_then)
            (laws.joined_rounds p.reader_then p.moves_then p.then_joined)
            (subst (λ (ms : List EndMove).
            1 ≤ wishes_on n (client_moved numbers.client ms).passage) (sym at.1) w.some))

    pub one_then : at_server.out_put at_server.is_out_r1_a9 server < n → after n server ≤ 1
    one_then less = one_by less (find_wish n numbers.client past.moves_then.client)

  -- ---- at each front of what the server did

  abbrev served : List EndMove → EndPassage Server
  served ms =
      all_end_moved servers.rules servers.acts (end_started (servers.first numbers.window)) ms

  next : (front : List EndMove) (move : EndMove) (later : List EndMove)
      → moves.server ≡ front ++ move ∷ later → after n (served front).passage ≤ 1
      → after n (served (front ++ move ∷ [])).passage ≤ 1
  next front move later e most =
      by (subst (λ (p : EndPassage Server). IsPut (served front).passage p.passage)
      (sym (behind_all servers.rules servers.acts (end_started (servers.first numbers.window))
      front move)) (end_puts (served front) move))
    where
      served_then : Passage Server
      served_then = (served (front ++ move ∷ [])).passage

      at : (past : IsPast numbers moves) × (past.moves_then.server ≡ front ++ move ∷ [])
      at =
          moment.server_past (front ++ move ∷ []) later
          (e ∙ sym (append_assoc front (move ∷ []) later))

      now : at_server.out_put at_server.is_out_r1_a9 served_then < n → after n served_then ≤ 1
      now less =
          subst (λ (ms : List EndMove). after n (served ms).passage ≤ 1) at.1
          (one_then at.0 (subst (λ (ms : List EndMove).
          at_server.out_put at_server.is_out_r1_a9 (served ms).passage < n) (sym at.1) less))

      writes : WritesOnBegun served_then
      writes =
          subst (λ (ms : List EndMove). WritesOnBegun (served ms).passage) at.1
          (laws.writes at.0.moves_then)

      by : IsPut (served front).passage served_then → after n served_then ≤ 1
      by (inl same) =
          let equal : after n served_then ≡ after n (served front).passage =
          ap (λ (log : List OnLeg).
          count_of is_in_a3 (behind is_out_r1_a1 1 (of_leg (os_leg n) log))) same in
          omega (arith, equal, most)
      by (inr (one, more)) =
          one_more_put (count_of is_in_a3 (of_leg (os_leg n) (one ∷ []))) refl
        where
          one_more_put : (k : ℕ) → count_of is_in_a3 (of_leg (os_leg n) (one ∷ [])) ≡ k
              → after n served_then ≤ 1
          one_more_put zero none =
              let equal : after n served_then ≡ count_of is_in_a3 (behind is_out_r1_a1 1
              (of_leg (os_leg n) (served front).passage.put ++ of_leg (os_leg n) (one ∷ []))) =
              ap (λ (ms : List Message). count_of is_in_a3 (behind is_out_r1_a1 1 ms))
              (ap (of_leg (os_leg n)) more
              ∙ leg_more (os_leg n) (served front).passage.put one) in
              let rise =
              more_after (of_leg (os_leg n) (served front).passage.put)
              (of_leg (os_leg n) (one ∷ [])) in
              omega (arith, equal, rise, none, most)
          one_more_put (suc k) some =
              let is = is_answer n one.0 one.1 (omega (arith, some)) in
              let turn =
              writes.in_turn n one.1 (served front).passage.put []
              (more ∙ ap (λ (l : Leg). (served front).passage.put ++ (l, one.1) ∷ []) is.on)
              is.written in
              let same : at_server.out_put at_server.is_out_r1_a9 served_then
              ≡ at_server.out_put at_server.is_out_r1_a9 (served front).passage =
              ap (at_server.often at_server.is_out_r1_a9 OutServer) more
              ∙ total_stays at_server.is_out_r1_a9 OutServer
              (at_server.out_put at_server.is_out_r1_a9 (served front).passage)
              (served front).passage.put one is.other refl in
              now (omega (arith, turn, same))

  pub one_follows : OneFollows n (server_behind numbers moves).passage
  one_follows =
      all_fronts (λ (front : List EndMove). after n (served front).passage ≤ 1) moves.server next
      (omega arith)
