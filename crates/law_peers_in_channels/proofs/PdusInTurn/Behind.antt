-- where IN_R1/B2 was put on an is leg, IN_R1/A6 came on each leg below that came up
use Rattle.law_order.proofs.Vocabulary.{◌≡◌, ◌⊎◌, ℕ, ◌+◌, ◌<◌, ◌≤◌, ◌==◌, ◌&&◌, ◌||◌, nat_eq, nat_lt, Bool, true, false, true≢false, not, if◌then◌else◌, List, [], ◌∷◌, ◌++◌, Some, None, Ok, Err, inl, inr, refl, sym, ap, ◌∙◌, subst, arith, and_parts, nat_tests, IfSome, IsTrue, Option, Result, has_handover, TakerLaw}
use Rattle.rh_sig.specs.declared.named.Named.TheVariants as named
use Rattle.rh_server.specs.declared.state.Leaving.TheVariants as leaving
use Rattle.rh_server.specs.declared.state.Tells.TheVariants as tells
use Rattle.law_moves.proofs.Vocabulary.{Ack, by_test, other_number, same_number, or_false as or_none, Cookie, Leg, LegKind, ClientOut, OutServer, ClientIn, InServer, GiveRefused, Message, Pdu, Packet, Row, is_of, count_of, Up, HeadCame, PduCame, PacketCame, Puts, IsDrawn, Marks, Pings, Passage, EndMove, Moves, Gives, Takes, Closes, Recycles, EndPassage, MayEndMove, AreAllowedAtEnd, OnLeg, all_end_moved, end_moved, end_now_at, end_started, given_by, is_at_work, is_in_use}
use Rattle.law_moves.proofs.Vocabulary.{put_by, taken_by, with_first, of_leg}
use Rattle.law_role_inproxy.proofs.OrderPuts.{ended_now as or_right}
use Rattle.law_role_client.proofs.Counted.Behind.{both_true}
use Rattle.law_role_server.proofs.Vocabulary.{InLeg, Leaving, Tells, Stage, in_is_done, has_room, may_up_by, Pick, ack_due, or_else, put_ack, put_ack_by, put_b1, put_b1_by, put_in, put_in_by, put_tells, put_tells_by, was_current, acts, first, rules, Server, has_left, in_leg, in_place, is_due, is_lost, is_open, is_some, stays, with_in, came_up, following, got, has_leg, is_up, taker_of, is_conn_b2, is_in_r1_a2, is_in_r1_a6, leg_at, often_at}
use Rattle.law_role_server_rows.proofs.Putting.Each.{number_found}
use Rattle.law_role_server_rows.specs.InTurn.Answers.{AnswersInOrder, is_in_r1_b1}
use Rattle.law_role_server_in.proofs.Steps.{in_use, known}
use Rattle.law_role_server_in.proofs.Takes.{IsKept}
use Rattle.law_role_server_in.proofs.Tallies.{here, often_more, once_more, other_here}
use Rattle.law_role_server_in.proofs.Opened.{allowed_parts, moved_append, none_or_some}
use Rattle.law_role_server_in.specs.Handovers.{passed}
use Rattle.law_role_server_in.specs.Refusing.{came_at, first_at, is_in_r1_b2, put_at}
use Rattle.law_peers_in_channels.proofs.ServerExpects.Fronts.{all_fronts, behind_all}
use Rattle.law_peers_in_channels.proofs.PdusInTurn.Again.{behind, first_put, kept, same_stage, second_put}
use Rattle.law_peers_in_channels.proofs.PdusInTurn.FirstTold.{on_first}
use Rattle.law_peers_in_channels.proofs.PdusInTurn.Marks.{marks}
use Rattle.law_peers_in_channels.specs.PdusInTurn.Telling.{IsTold, TellsBehind}

-- ---- tests

or_left : (a b : Bool) → a ≡ true → a || b ≡ true
or_left true b e = refl
or_left false b e = absurd (true≢false (sym e))

or_joined : (a b c : Bool) → a || (b || c) ≡ (a || b) || c
or_joined true b c = refl
or_joined false b c = refl

-- where the first fails, the second is denied
denied : (a b : Bool) → a || not b ≡ true → a ≡ false → b ≡ false
denied true b e f = absurd (true≢false f)
denied false true e f = absurd (true≢false (sym e))
denied false false e f = refl

kept_some : (o : Option InLeg) → IsKept o → is_some o ≡ true
kept_some None h = absurd h
kept_some (Some leg) h = refl

-- ---- more moves

allowed_append : (p : EndPassage Server) (front rest : List EndMove)
    → AreAllowedAtEnd rules acts p front
    → AreAllowedAtEnd rules acts (all_end_moved rules acts p front) rest
    → AreAllowedAtEnd rules acts p (front ++ rest)
allowed_append p [] rest may more = more
allowed_append p (move ∷ front) rest may more =
    (may.0, allowed_append (end_moved rules acts p move) front rest may.1 more)

came_append : (front rest : List EndMove) (m : ℕ)
    → came_up (front ++ rest) m ≡ came_up front m || came_up rest m
came_append [] rest m = refl
came_append (move ∷ front) rest m =
    ap (λ (b : Bool). is_up m move || b) (came_append front rest m)
    ∙ or_joined (is_up m move) (came_up front m) (came_up rest m)

-- ---- what is known of a server

pub record Laws (window : ℕ) : Type 0 where
  pub answers : (moves : List EndMove)
      → AreAllowedAtEnd rules acts (end_started (first window)) moves
      → AnswersInOrder (passed window moves)
  pub takes : (moves : List EndMove)
      → AreAllowedAtEnd rules acts (end_started (first window)) moves
      → let p = all_end_moved rules acts (end_started (first window)) moves in
      TakerLaw (taker_of p.taken p.passage.role) (has_leg moves p.passage.role) (got p)
  pub legs : (moves : List EndMove) (n : ℕ)
      → IsTrue (is_some (in_leg n (passed window moves).role.ins)) → IsTrue (came_up moves n)

-- rose m: is leg m came up
record Keeps (rose : ℕ → Bool) (p : Passage Server) : Type 0 where
  positive : (m : ℕ) → rose m ≡ true → 1 ≤ m
  begun : (m : ℕ) → 1 ≤ first_at p m → rose m ≡ true
  below : (m n : ℕ) → 1 ≤ put_at is_in_r1_b2 p n → m < n → rose m ≡ true
      → 1 ≤ came_at is_in_r1_a6 p m

-- no other IN_R1/B2 was put
later : (rose : ℕ → Bool) (p q : Passage Server) → q.put ≡ p.put
    → ((m : ℕ) → 1 ≤ first_at q m → rose m ≡ true)
    → ((m : ℕ) → came_at is_in_r1_a6 p m ≤ came_at is_in_r1_a6 q m)
    → Keeps rose p → Keeps (λ m. rose m || false) q
later rose p q same begins grows h = record {
  positive = λ m up. h.positive m (or_none (rose m) up);
  begun = λ m some. or_left (rose m) false (begins m some);
  below = λ m n told less up.
      let was = h.below m n
      (subst (λ (log : List OnLeg). 1 ≤ often_at is_in_r1_b2 InServer n log) same told) less
      (or_none (rose m) up) in
      let more = grows m in omega (arith, was, more);
}

module _ (window : ℕ) (law : Laws window) where
  abbrev start : EndPassage Server
  start = end_started (first window)

  abbrev reached : List EndMove → EndPassage Server
  reached front = all_end_moved rules acts start front

  module _ (front : List EndMove) (may : AreAllowedAtEnd rules acts start front) where
    abbrev p : Passage Server
    p = passed window front

    abbrev s : Server
    s = p.role

    taker : TakerLaw (taker_of (reached front).taken s) (has_leg front s) (got (reached front))
    taker = law.takes front may

    -- IN_R1/A6 came on each leg below the current one, and on none above
    left_below : (m : ℕ) → m < s.current.leg → came_up front m ≡ true
        → 1 ≤ came_at is_in_r1_a6 p m
    left_below m less up =
        (marks m p.came).some
        (taker.past m less (or_right (nat_lt s.newest_in m) (came_up front m) up))

    unmarked : (n : ℕ) → s.current.leg < n → has_handover (got (reached front) n) ≡ false
    unmarked n above = by (nat_lt n (following s)) (nat_lt (following s) n) refl refl
      where
        by : (a b : Bool) → nat_lt n (following s) ≡ a → nat_lt (following s) n ≡ b
            → has_handover (got (reached front) n) ≡ false
        by true b e f =
            ap has_handover
            (taker.between n above (grind (arith, nat_tests, e))).1
        by false true e f = taker.unfinished n (grind (arith, nat_tests, f))
        by false false e f =
            subst (λ (k : ℕ). has_handover (got (reached front) k) ≡ false)
            (grind (arith, nat_tests, e, f)) (sym taker.holds.next_finished)

    left_low : (n : ℕ) → 1 ≤ came_at is_in_r1_a6 p n → n ≤ s.current.leg
    left_low n some = by (nat_lt s.current.leg n) refl
      where
        by : (b : Bool) → nat_lt s.current.leg n ≡ b → n ≤ s.current.leg
        by true e =
            let none = (marks n p.came).none (unmarked n (grind (arith, nat_tests, e))) in
            absurd (omega (arith, none, some))
        by false e = grind (arith, nat_tests, e)

    -- ---- IN_R1/B2 goes on the current leg, or on one that is left

    module _ (n : ℕ) (used : IsTrue (is_in_use rules s (leg_at InServer n))) where
      abbrev leg_n : Leg
      leg_n = leg_at InServer n

      undone : (leg : InLeg) → in_leg n s.ins ≡ Some leg
          → not (has_left leg.leaving || is_lost leg.leaving) ≡ true
      undone leg at =
          subst (λ (o : Option InLeg). not (in_is_done o) ≡ true) at
          (and_parts (is_at_work rules s) (not (in_is_done (in_leg n s.ins))) used).1

      leaves_now : (leg : InLeg) → in_leg n s.ins ≡ Some leg → stays leg.leaving ≡ false
          → leg.leaving ≡ leaving.InR1B1
      leaves_now leg at going = by leg.leaving refl
        where
          by : (l : Leaving) → leg.leaving ≡ l → leg.leaving ≡ leaving.InR1B1
          by leaving.Stays e = absurd (true≢false (sym (ap stays e) ∙ going))
          by leaving.InR1B1 e = e
          by leaving.Left e =
              absurd (true≢false (sym (undone leg at)
              ∙ ap (λ (l : Leaving). not (has_left l || is_lost l)) e))
          by leaving.Lost e = absurd (true≢false (sym (ap stays e) ∙ going))

      module _ (leg : InLeg) (at : in_leg n s.ins ≡ Some leg) (number : leg.number ≡ n)
          (greeted : is_due leg.greeting ≡ false) (tell : leg.tells ≡ tells.InR1B2)
          (current : was_current s leg ≡ true) where
        -- IN_R1/B1 could go next, and IN_R1/A6 comes before that
        module _ (left : leg.leaving ≡ leaving.InR1B1) where
          abbrev t : Server
          t = behind s n leg at number greeted tell current left

          abbrev log : List OnLeg
          log = p.put ++ (leg_n, Packet (named.InR1B2 s.line.size)) ∷ []

          abbrev twice : List EndMove
          twice = Moves (Puts leg_n) ∷ Moves (Puts leg_n) ∷ []

          used_then : IsTrue (is_in_use rules t leg_n)
          used_then =
              both_true (is_at_work rules t) (not (in_is_done (in_leg n t.ins)))
              (ap (λ (x : Stage). is_at_work rules (record s { stage = x }))
              (same_stage s n leg at number greeted tell current left)
              ∙ (in_use s n used).0)
              (ap (λ (o : Option InLeg). not (in_is_done o))
              (kept s n leg at number greeted tell current left)
              ∙ ap (λ (l : Leaving). not (has_left l || is_lost l)) left)

          allowed : AreAllowedAtEnd rules acts (reached front) twice
          allowed = (
            used,
            (
              subst (λ (pick : Pick). IsTrue (is_in_use rules (put_by p leg_n pick).role leg_n))
                  (sym (first_put s n leg at number greeted tell current left)) used_then,
              tt,
            ),
          )

          two_put : (all_end_moved rules acts (reached front) twice).passage
              ≡ record p {
                role = with_in t (record leg {
                  tells = tells.Nothing;
                  leaving = leaving.Left;
                });
                put = log ++ (leg_n, Packet named.InR1B1) ∷ [];
              }
          two_put =
              ap (λ (pick : Pick).
              put_by (put_by p leg_n pick) leg_n (put_in (put_by p leg_n pick).role n))
              (first_put s n leg at number greeted tell current left)
              ∙ ap (λ (pick : Pick). put_by (record p { role = t; put = log }) leg_n pick)
              (second_put s n leg at number greeted tell current left)

          was_left : 1 ≤ came_at is_in_r1_a6 p n
          was_left =
              let more = once_more is_in_r1_b1 n named.InR1B1 log refl in
              let most = subst (λ (q : Passage Server).
              often_at is_in_r1_b1 InServer n q.put ≤ often_at is_in_r1_a6 InServer n q.came)
              (ap (λ (x : EndPassage Server). x.passage)
              (moved_append start front twice)
              ∙ two_put)
              ((law.answers (front ++ twice)
              (allowed_append start front twice may allowed)).in_r1_b1 n) in
              omega (arith, more, most)

        told_low : n ≤ s.current.leg
        told_low = by (leg.number == s.current.leg) refl
          where
            by : (b : Bool) → (leg.number == s.current.leg) ≡ b → n ≤ s.current.leg
            by true e =
                let is = same_number leg.number s.current.leg e in omega (arith, is, number)
            by false e =
                left_low n (was_left (leaves_now leg at
                (denied (leg.number == s.current.leg) (stays leg.leaving) current e)))

      abbrev Low : Pick → Type 0
      Low pick = IfSome pick (λ (one : Server × Message).
          1 ≤ count_of is_in_r1_b2 (one.1 ∷ []) → n ≤ s.current.leg)

      or_low : (a b : Pick) → Low a → Low b → Low (or_else a b)
      or_low None b h k = k
      or_low (Some pick) b h k = h

      b1_low : (leg : InLeg) (l : Leaving) → Low (put_b1_by s leg l)
      b1_low leg leaving.Stays = tt
      b1_low leg leaving.InR1B1 = λ some. absurd (omega (arith, some))
      b1_low leg leaving.Left = tt
      b1_low leg leaving.Lost = tt

      ack_low : (o : Option Ack) → Low (put_ack_by s o)
      ack_low None = tt
      ack_low (Some ack) = λ some. absurd (omega (arith, some))

      rest_low : (leg : InLeg) → Low (or_else (put_b1 s leg) (put_ack s leg))
      rest_low leg =
          or_low (put_b1 s leg) (put_ack s leg) (b1_low leg leg.leaving)
          (ack_low (ack_due s leg))

      tells_low : (leg : InLeg) → in_leg n s.ins ≡ Some leg → leg.number ≡ n
          → is_due leg.greeting ≡ false → (x : Tells) → leg.tells ≡ x
          → Low (or_else (put_tells_by s leg x) (or_else (put_b1 s leg) (put_ack s leg)))
      tells_low leg at number greeted tells.Nothing tell = rest_low leg
      tells_low leg at number greeted tells.ConnB3 tell =
          by_test (λ (pick : Pick). Low (or_else pick (or_else (put_b1 s leg) (put_ack s leg))))
          (is_open s.stage) _ None (λ e some. absurd (omega (arith, some))) (λ e. rest_low leg)
      tells_low leg at number greeted tells.InR1B2 tell =
          by_test (λ (pick : Pick). Low (or_else pick (or_else (put_b1 s leg) (put_ack s leg))))
          (was_current s leg) _ None
          (λ current some. told_low leg at number greeted tell current) (λ e. rest_low leg)

      goes_low : Low (put_in s n)
      goes_low = by (in_leg n s.ins) refl (number_found n s.ins (in_place n s.ins) refl)
        where
          by : (o : Option InLeg) → in_leg n s.ins ≡ o
              → IfSome o (λ (leg : InLeg). leg.number ≡ n) → Low (put_in_by s o)
          by None at number = tt
          by (Some leg) at number =
              by_test (λ (pick : Pick). Low (or_else pick
              (or_else (put_tells s leg) (or_else (put_b1 s leg) (put_ack s leg)))))
              (is_due leg.greeting) _ None
              (λ e some. absurd (omega (arith, some)))
              (λ e. tells_low leg at number e leg.tells refl)

    -- ---- moves

    module _ (h : Keeps (came_up front) p) where
      abbrev Next : Passage Server → Type 0
      Next q = Keeps (λ m. came_up front m || false) q

      same : (t : Server) → Next (record p { role = t })
      same t = later (came_up front) p (record p { role = t }) refl h.begun (λ m. omega arith) h

      -- a message came
      module _ (m : Message) where
        old : (k : ℕ) (one : OnLeg) → here is_conn_b2 k one ≡ 0 → here is_in_r1_a2 k one ≡ 0
            → 1 ≤ often_at is_conn_b2 InServer k (p.came ++ one ∷ [])
            + often_at is_in_r1_a2 InServer k (p.came ++ one ∷ [])
            → came_up front k ≡ true
        old k one none nor some =
            let conn_b2 = often_more is_conn_b2 k p.came one in
            let in_r1_a2 = often_more is_in_r1_a2 k p.came one in
            h.begun k (omega (arith, conn_b2, in_r1_a2, none, nor, some))

        begins : (k : ℕ) (kind : LegKind) (number : ℕ)
            → (kind ≡ InServer → came_up front number ≡ true)
            → 1 ≤ often_at is_conn_b2 InServer k
            (p.came ++ (record { kind = kind; number = number }, m) ∷ [])
            + often_at is_in_r1_a2 InServer k
            (p.came ++ (record { kind = kind; number = number }, m) ∷ [])
            → came_up front k ≡ true
        begins k ClientOut number up some =
            old k (record { kind = ClientOut; number = number }, m) refl refl some
        begins k OutServer number up some =
            old k (record { kind = OutServer; number = number }, m) refl refl some
        begins k ClientIn number up some =
            old k (record { kind = ClientIn; number = number }, m) refl refl some
        begins k InServer number up some = by (k == number) refl
          where
            by : (b : Bool) → (k == number) ≡ b → came_up front k ≡ true
            by true e =
                subst (λ (j : ℕ). came_up front j ≡ true) (sym (same_number k number e)) (up refl)
            by false e =
                old k (leg_at InServer number, m)
                (other_here is_conn_b2 k number m (other_number k number e))
                (other_here is_in_r1_a2 k number m (other_number k number e)) some

      came_more : (t : Server) (leg : Leg) (m : Message)
          → (leg.kind ≡ InServer → came_up front leg.number ≡ true)
          → Next (record p { role = t; came = p.came ++ (leg, m) ∷ [] })
      came_more t leg m up =
          later (came_up front) p (record p { role = t; came = p.came ++ (leg, m) ∷ [] }) refl
          (λ k. begins m k leg.kind leg.number up)
          (λ k. let more = often_more is_in_r1_a6 k p.came (leg, m) in omega (arith, more)) h

      row : (leg : Leg) (m : Message) (x : Server × Row)
          → (leg.kind ≡ InServer → came_up front leg.number ≡ true)
          → Next (taken_by p leg m x)
      row leg m (t, Ok taken) up = came_more t leg m up
      row leg m (t, Err why) up = same t

      rose_at : (leg : Leg) → IsTrue (is_in_use rules s leg) → leg.kind ≡ InServer
          → came_up front leg.number ≡ true
      rose_at leg used = by leg.kind used
        where
          by : (kind : LegKind)
              → IsTrue (is_in_use rules s (record { kind = kind; number = leg.number }))
              → kind ≡ InServer → came_up front leg.number ≡ true
          by InServer used e =
              law.legs front leg.number
              (kept_some (in_leg leg.number s.ins) (in_use s leg.number used).1)
          by ClientOut used e = absurd cc
          by OutServer used e = absurd cc
          by ClientIn used e = absurd cc

      -- a message is put
      put_one : (t : Server) (leg : Leg) (m : Message)
          → ((n : ℕ) → 1 ≤ here is_in_r1_b2 n (leg, m) → n ≤ s.current.leg)
          → Next (record p { role = t; put = p.put ++ (leg, m) ∷ [] })
      put_one t leg m low = record {
        positive = λ k up. h.positive k (or_none (came_up front k) up);
        begun = λ k some. or_left (came_up front k) false (h.begun k some);
        below = λ k n told less up.
            by k n told less (or_none (came_up front k) up)
            (none_or_some (put_at is_in_r1_b2 p n));
      }
        where
          by : (k n : ℕ) → 1 ≤ often_at is_in_r1_b2 InServer n (p.put ++ (leg, m) ∷ []) → k < n
              → came_up front k ≡ true
              → (put_at is_in_r1_b2 p n ≡ 0) ⊎ (1 ≤ put_at is_in_r1_b2 p n)
              → 1 ≤ came_at is_in_r1_a6 p k
          by k n told less up (inl none) =
              let more = often_more is_in_r1_b2 n p.put (leg, m) in
              let most = low n (omega (arith, more, none, told)) in
              left_below k (omega (arith, most, less)) up
          by k n told less up (inr some) = h.below k n some less up

      in_puts : (number : ℕ) (used : IsTrue (is_in_use rules s (leg_at InServer number)))
          (pick : Pick) → Low number used pick → Next (put_by p (leg_at InServer number) pick)
      in_puts number used None low = same s
      in_puts number used (Some (t, m)) low =
          put_one t (leg_at InServer number) m (λ n some. by n (number == n) refl some)
        where
          by : (n : ℕ) (b : Bool) → (number == n) ≡ b
              → 1 ≤ count_of is_in_r1_b2 (if b then m ∷ [] else []) → n ≤ s.current.leg
          by n true e some =
              let most = low some in
              let is = same_number number n e in omega (arith, most, is)
          by n false e some = absurd (omega (arith, some))

      puts : (leg : Leg) → IsTrue (is_in_use rules s leg)
          → Next (put_by p leg (rules.put s leg))
      puts leg used = by leg.kind used
        where
          by : (kind : LegKind)
              → IsTrue (is_in_use rules s (record { kind = kind; number = leg.number }))
              → Next (put_by p (record { kind = kind; number = leg.number })
              (rules.put s (record { kind = kind; number = leg.number })))
          by InServer used =
              in_puts leg.number used (put_in s leg.number) (goes_low leg.number used)
          by OutServer used = out (rules.put s (leg_at OutServer leg.number))
            where
              out : (pick : Pick) → Next (put_by p (leg_at OutServer leg.number) pick)
              out None = same s
              out (Some (t, m)) =
                  put_one t (leg_at OutServer leg.number) m (λ n some. absurd (omega (arith, some)))
          by ClientOut used = same s
          by ClientIn used = same s

      -- a leg comes up
      module _ (leg : Leg) (cookie : Cookie)
          (may_up : IsTrue (is_at_work rules s) × IsTrue (rules.may_up s leg)) where
        given : (n : ℕ) → 1 ≤ put_at is_in_r1_b2 p n → n ≤ s.newest_in
        given n told = by (nat_lt s.newest_in n) refl
          where
            by : (b : Bool) → nat_lt s.newest_in n ≡ b → n ≤ s.newest_in
            by true e =
                let none = ((known window front may n).unborn
                (grind (arith, nat_tests, e))).told in
                absurd (omega (arith, none, told))
            by false e = grind (arith, nat_tests, e)

        numbered : (m : ℕ) (kind : LegKind) → IsTrue (may_up_by s leg.number kind)
            → is_of InServer (record { kind = kind; number = leg.number })
            && nat_eq m leg.number ≡ true
            → m ≡ s.newest_in + 1
        numbered m InServer may_then e =
            same_number m leg.number e
            ∙ same_number leg.number (s.newest_in + 1)
            (and_parts (leg.number == s.newest_in + 1) (has_room s.ins) may_then).0
        numbered m OutServer may_then e = absurd (true≢false (sym e))
        numbered m ClientIn may_then e = absurd (true≢false (sym e))
        numbered m ClientOut may_then e = absurd (true≢false (sym e))

        rises : Keeps (λ m. came_up front m || (is_up m (Moves (Up leg cookie)) || false))
            (record p { role = rules.up s leg cookie })
        rises = record {
          positive = λ m up. above m (came_up front m) refl up;
          begun = λ m some.
              or_left (came_up front m) (is_up m (Moves (Up leg cookie)) || false)
              (h.begun m some);
          below = λ m n told less up. by m n told less (came_up front m) refl up;
        }
          where
            above : (m : ℕ) (b : Bool) → came_up front m ≡ b
                → b || (is_up m (Moves (Up leg cookie)) || false) ≡ true → 1 ≤ m
            above m true e up = h.positive m e
            above m false e up =
                let is = numbered m leg.kind may_up.1
                (or_none (is_up m (Moves (Up leg cookie))) up) in omega (arith, is)

            by : (m n : ℕ) → 1 ≤ put_at is_in_r1_b2 p n → m < n → (b : Bool)
                → came_up front m ≡ b
                → b || (is_up m (Moves (Up leg cookie)) || false) ≡ true
                → 1 ≤ came_at is_in_r1_a6 p m
            by m n told less true e up = h.below m n told less e
            by m n told less false e up =
                let is = numbered m leg.kind may_up.1
                (or_none (is_up m (Moves (Up leg cookie))) up) in
                let low = given n told in absurd (omega (arith, is, low, less))

      step : (move : EndMove) → MayEndMove rules s move
          → Keeps (λ m. came_up front m || came_up (move ∷ []) m)
          (end_moved rules acts (reached front) move).passage
      step (Moves (Up leg cookie)) may_then = rises leg cookie may_then
      step (Moves (HeadCame leg text)) may_then = same (rules.head s leg text).0
      step (Moves (PduCame leg count bytes)) may_then =
          row leg (Pdu bytes) (rules.pdu s leg count bytes) (rose_at leg may_then.0)
      step (Moves (PacketCame leg count packet)) may_then =
          row leg (Packet packet) (rules.packet s leg count packet) (rose_at leg may_then)
      step (Moves (Puts leg)) may_then = puts leg may_then
      step (Moves (IsDrawn leg)) may_then = same (rules.drawn s leg)
      step (Moves (Marks leg)) may_then = same (rules.mark s leg)
      step (Moves (Pings leg)) may_then = same (rules.ping s leg)
      step (Gives bytes) may_then = by (acts.give s bytes)
        where
          by : (x : Server × Result (Unit {0}) GiveRefused)
              → Next (given_by (reached front) bytes x).passage
          by (t, Ok accepted) = same t
          by (t, Err why) = same t
      step Takes may_then = by (acts.line s).current.pdus
        where
          by : (pdus : List (List ℕ))
              → Next (with_first (end_now_at (reached front) (acts.take s)) pdus).passage
          by [] = same (acts.take s)
          by (pdu ∷ pdus) = same (acts.take s)
      step Closes may_then = same (acts.close s)
      step Recycles may_then = same (acts.recycle s).0

  module _ (moves : List EndMove) (may : AreAllowedAtEnd rules acts start moves) where
    all : Keeps (came_up moves) (passed window moves)
    all = all_fronts (λ (front : List EndMove). Keeps (came_up front) (passed window front)) moves
        next (record {
          positive = λ m up. absurd (true≢false (sym up));
          begun = λ m some. absurd (omega (arith, some));
          below = λ m n told less up. absurd (omega (arith, told));
        })
      where
        next : (front : List EndMove) (x : EndMove) (later : List EndMove)
            → moves ≡ front ++ x ∷ later → Keeps (came_up front) (passed window front)
            → Keeps (came_up (front ++ x ∷ [])) (passed window (front ++ x ∷ []))
        next front x later e h =
            let parts = allowed_parts start front (x ∷ later)
            (subst (AreAllowedAtEnd rules acts start) e may) in
            let more = step front parts.0 h x parts.1.0 in
            subst (λ (q : EndPassage Server). Keeps (came_up (front ++ x ∷ [])) q.passage)
            (sym (behind_all rules acts start front x)) (record {
              positive = λ m up. more.positive m (sym (came_append front (x ∷ []) m) ∙ up);
              begun = λ m some. came_append front (x ∷ []) m ∙ more.begun m some;
              below = λ m n told less up.
                  more.below m n told less (sym (came_append front (x ∷ []) m) ∙ up);
            })

    below : (m n : ℕ) → IsTold (passed window moves) n → m < n → came_up moves m ≡ true
        → 1 ≤ came_at is_in_r1_a6 (passed window moves) m
    below m n told less up = by (none_or_some (put_at is_in_r1_b2 (passed window moves) n))
      where
        by : (put_at is_in_r1_b2 (passed window moves) n ≡ 0)
            ⊎ (1 ≤ put_at is_in_r1_b2 (passed window moves) n)
            → 1 ≤ came_at is_in_r1_a6 (passed window moves) m
        by (inl none) =
            let is = on_first n (passed window moves).came
            (of_leg (leg_at InServer n) (passed window moves).put)
            ((law.answers moves may).order n) (omega (arith, told, none)) in
            let least = all.positive m up in absurd (omega (arith, is, least, less))
        by (inr some) = all.below m n some less up

    pub tells_behind : TellsBehind moves (passed window moves)
    tells_behind = record {
      up = below;
      begun = λ m n told less some. below m n told less (all.begun m some);
    }
