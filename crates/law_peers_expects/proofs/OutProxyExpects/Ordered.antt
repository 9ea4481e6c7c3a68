-- what a server put before each message, at a moment
use Rattle.law_order.proofs.Vocabulary.{◌≡◌, ◌⊎◌, ℕ, zero, suc, ◌+◌, ◌≤◌, Bool, true, if◌then◌else◌, List, [], ◌∷◌, ◌++◌, inl, inr, refl, sym, ap, ◌∙◌, subst, arith, false≢true, append_assoc, AllByRecursion}
use Rattle.law_moves.proofs.Vocabulary.{test_same, Cookie, Named, AckTo, ConnC1, OutServer, InServer, Message, Text, Pdu, Packet, AreAllowedAtEnd, EndMove, OnLeg, Passage, all_end_moved, end_started, of_leg, count_of, of_kind, Has}
use Rattle.law_moves.proofs.Lemmas.{count_append}
use Rattle.law_role_server.proofs.Vocabulary.{acts, first, rules, Server, HaveRoom, MayGoBefore, in_came, is_ack_to, is_conn_c1, out_put, OpensOnce, AreInTurn, ArePutInTurn}
use Rattle.law_node_history.proofs.Vocabulary.{leg_at}
use Rattle.law_role_server_rows.proofs.InTurn.Splits.{kind_append}
use Rattle.law_role_server_rows.specs.Putting.Copying.{Copies, CopiesWhatCame}
use Rattle.law_role_server_rows.specs.Putting.Greeting.{IsFrame}
use Rattle.law_role_server_rows.specs.Putting.Puts.{behind_all, first_turn, os, Stands, StandFrom, WritesInTurn}
use Rattle.law_role_server_rows.specs.InTurn.Channels.{IsWritten, WritesOnBegun}
use Rattle.law_peers_moments.specs.Moments.{IsJoined, IsMoment, Moves, Numbers, server_behind}
use Rattle.law_peers_expects.proofs.OutProxyExpects.Fronts.{front_of}
use Rattle.law_peers_expects.proofs.OutProxyExpects.Logs.{all_behind, find, leg_counts, some_leg}
use Rattle.law_peers_expects.proofs.OutProxyExpects.Turns.{none_before, stands_in}
use Rattle.law_peers_expects.specs.OutProxyExpects.Early.{HaveLifetimes, HasRoomForC1, IsNotEarly}

-- what passed a server by these moves
abbrev pub server_by : ℕ → List EndMove → Passage Server
server_by window moves = (all_end_moved rules acts (end_started (first window)) moves).passage

-- the laws of a server
pub record ServerLaws : Type 0 where
  pub opens : (window : ℕ) (moves : List EndMove) → OpensOnce (server_by window moves)
  pub c1_first : (window : ℕ) (moves : List EndMove)
      → AreAllowedAtEnd rules acts (end_started (first window)) moves
      → HaveRoom (server_by window moves).came
      → in_came (is_ack_to 0) (server_by window moves) ≡ 0
      → out_put is_conn_c1 (server_by window moves) ≡ 0
      → AllByRecursion MayGoBefore (of_kind OutServer (server_by window moves).put)
  pub order : (window : ℕ) (moves : List EndMove) → AreInTurn (server_by window moves)
  pub legs : (window : ℕ) (moves : List EndMove) → ArePutInTurn (server_by window moves)
  pub writes : (window : ℕ) (moves : List EndMove) → WritesInTurn (server_by window moves).put
  pub begun : (window : ℕ) (moves : List EndMove) → WritesOnBegun (server_by window moves)
  pub copies : (window : ℕ) (moves : List EndMove)
      → CopiesWhatCame window (server_by window moves)

-- and that it is not early
pub record EarlyLaws : Type 0 where
  pub acks : (numbers : Numbers) (reader : ℕ → ℕ) (moves : Moves) → IsJoined numbers reader moves
      → IsNotEarly (server_behind numbers moves).passage
  pub room : (numbers : Numbers) (reader : ℕ → ℕ) (moves : Moves) → IsJoined numbers reader moves
      → HaveLifetimes numbers → HasRoomForC1 (server_behind numbers moves).passage

-- ---- messages

pub has_counts : (test : Named → Bool) (named : Named) → test named ≡ true → (ms : List Message)
    → Has named ms → 1 ≤ count_of test ms
has_counts test named passes [] has = absurd has
has_counts test named passes (m ∷ ms) has =
    by has (has_counts test named passes ms)
  where
    more : 1 ≤ count_of test ms → 1 ≤ count_of test (m ∷ ms)
    more rest = let both = count_append test (m ∷ []) ms in omega (arith, rest, both)

    here : count_of test (Packet named ∷ []) ≡ 1
    here = ap (λ (t : Bool). if t then 1 else 0) passes

    by : (m ≡ Packet named) ⊎ Has named ms → (Has named ms → 1 ≤ count_of test ms)
        → 1 ≤ count_of test (m ∷ ms)
    by (inl is) rest =
        let one = ap (λ (x : Message). count_of test (x ∷ [])) is in
        let both = count_append test (m ∷ []) ms in
        let counts = here in
        omega (arith, one, both, counts)
    by (inr has') rest = more (rest has')

module _ (numbers : Numbers) (reader : ℕ → ℕ) (moves : Moves) (server : ServerLaws)
    (early : EarlyLaws) (lifetimes : HaveLifetimes numbers)
    (moment : IsMoment numbers reader moves) where
  abbrev pub window : ℕ
  window = numbers.window

  abbrev pub now : Passage Server
  now = server_by window moves.server

  -- a moment at which just these messages had been put
  pub record At (log : List OnLeg) : Type 0 where
    pub moves_then : Moves
    pub reader_then : ℕ → ℕ
    pub joined : IsJoined numbers reader_then moves_then
    pub put : (server_by window moves_then.server).put ≡ log

  pub at_front : (log more : List OnLeg) → now.put ≡ log ++ more → At log
  at_front log more e =
      let just = front_of rules acts (end_started (first window)) moves.server log more e in
      let past = moment.server_past just.front just.later just.is in
      record {
        moves_then = past.0.moves_then;
        reader_then = past.0.reader_then;
        joined = past.0.then_joined;
        put = ap (λ (ms : List EndMove). (server_by window ms).put) past.1 ∙ just.put;
      }

  module _ (log : List OnLeg) (a : At log) (none : count_of is_conn_c1 (of_kind OutServer log) ≡ 0)
    where
      none_then : out_put is_conn_c1 (server_by window a.moves_then.server) ≡ 0
      none_then = ap (λ (l : List OnLeg). count_of is_conn_c1 (of_kind OutServer l)) a.put ∙ none

      -- then only greetings and acknowledgements to out proxies went on os legs
      pub may_go : AllByRecursion MayGoBefore (of_kind OutServer log)
      may_go =
          subst (λ (l : List OnLeg). AllByRecursion MayGoBefore (of_kind OutServer l)) a.put
          (server.c1_first window a.moves_then.server a.joined.made.server
          (early.room numbers a.reader_then a.moves_then a.joined lifetimes none_then)
          (early.acks numbers a.reader_then a.moves_then a.joined none_then 0) none_then)

      -- and the latter none either
      pub copied_none : (n : ℕ) (before : List OnLeg) (to received available : ℕ) (cookie : Cookie)
          → log ≡ before ++ (os n, Packet (AckTo to received available cookie)) ∷ [] → ⊥
      copied_none n before to received available cookie e =
          let p = server_by window a.moves_then.server in
          let copies = subst (AllByRecursion (Copies window p.came)) (a.put ∙ e)
          (server.copies window a.moves_then.server) in
          let one = (all_behind (Copies window p.came) before
          ((os n, Packet (AckTo to received available cookie)) ∷ []) copies).0 in
          let has = one.1 in
          let some = has_counts (is_ack_to to) (AckTo to received available cookie)
          (test_same to) (of_leg (leg_at InServer has.0) p.came) has.1 in
          let all = leg_counts (is_ack_to to) InServer has.0 p.came in
          let no_one = early.acks numbers a.reader_then a.moves_then a.joined none_then to in
          absurd (omega (arith, some, all, no_one))

  -- ---- CONN/C1 goes first

  kind_counts : (test : Named → Bool) (a b : List OnLeg)
      → count_of test (of_kind OutServer (a ++ b))
      ≡ count_of test (of_kind OutServer a) + count_of test (of_kind OutServer b)
  kind_counts test a b =
      ap (count_of test) (kind_append OutServer a b)
      ∙ count_append test (of_kind OutServer a) (of_kind OutServer b)

  pub one_behind : (test : Named → Bool) (n : ℕ) (m : Message) (before behind : List OnLeg)
      → count_of test (of_kind OutServer (before ++ (os n, m) ∷ behind))
      ≡ count_of test (of_kind OutServer before) + count_of test (m ∷ [])
      + count_of test (of_kind OutServer behind)
  one_behind test n m before behind =
      let both = kind_counts test before ((os n, m) ∷ behind) in
      let rest = count_append test (m ∷ []) (of_kind OutServer behind) in
      omega (arith, both, rest)

  module _ (n : ℕ) (m : Message) (before behind : List OnLeg)
      (is : now.put ≡ before ++ (os n, m) ∷ behind) where
    through : now.put ≡ (before ++ (os n, m) ∷ []) ++ behind
    through = is ∙ sym (append_assoc before ((os n, m) ∷ []) behind)

    pub stands : Stands (behind_all first_turn before) (os n, m)
    stands =
        stands_in first_turn before (os n, m) behind
        (subst (StandFrom first_turn) is (server.writes window moves.server))

    -- anything but a greeting and CONN/C1 goes behind CONN/C1
    pub c1_before : IsFrame m → count_of is_conn_c1 (m ∷ []) ≡ 0
        → 1 ≤ count_of is_conn_c1 (of_kind OutServer before)
    c1_before frame other = by (count_of is_conn_c1 (of_kind OutServer before)) refl
      where
        log : List OnLeg
        log = before ++ (os n, m) ∷ []

        last : (x : Message) → IsFrame x → MayGoBefore x
            → ((to received available : ℕ) (cookie : Cookie)
            → x ≡ Packet (AckTo to received available cookie) → ⊥) → ⊥
        last (Text bytes) f may no_ack = f
        last (Pdu pdu) f may no_ack = may
        last (Packet (AckTo to received available cookie)) f may no_ack =
            no_ack to received available cookie refl
        last (Packet named) f may no_ack = false≢true may

        by : (c : ℕ) → count_of is_conn_c1 (of_kind OutServer before) ≡ c
            → 1 ≤ count_of is_conn_c1 (of_kind OutServer before)
        by (suc c) e = omega (arith, e)
        by zero e =
            let both = one_behind is_conn_c1 n m before [] in
            let none : count_of is_conn_c1 (of_kind OutServer log) ≡ 0 =
            omega (arith, both, e, other) in
            let a = at_front log behind through in
            let may = subst (AllByRecursion MayGoBefore)
            (kind_append OutServer before ((os n, m) ∷ [])) (may_go log a none) in
            absurd (last m frame
            (all_behind MayGoBefore (of_kind OutServer before) (m ∷ []) may).0
            (λ to received available cookie same.
            copied_none log a none n before to received available cookie
            (ap (λ (x : Message). before ++ (os n, x) ∷ []) same)))

    -- before CONN/C1 no other went
    pub none_before_c1 : 1 ≤ count_of is_conn_c1 (m ∷ [])
        → count_of is_conn_c1 (of_kind OutServer before) ≡ 0
    none_before_c1 some =
        let once = (server.opens window moves.server).conn_c1_once in
        let both = one_behind is_conn_c1 n m before behind in
        let all = ap (λ (l : List OnLeg). count_of is_conn_c1 (of_kind OutServer l)) is in
        omega (arith, once, both, all, some)

    -- so it goes on the first leg
    pub c1_on_first : 1 ≤ count_of is_conn_c1 (m ∷ []) → IsWritten m → n ≡ 1
    c1_on_first some written =
        let a = at_front before ((os n, m) ∷ behind) is in
        let none = none_before (of_kind OutServer before) (may_go before a (none_before_c1 some)) in
        let on = (server.begun window moves.server).in_turn n m before behind is written in
        omega (arith, none, on)

  c1_leg : (n : ℕ) (named : Named) (before behind : List OnLeg)
      → now.put ≡ before ++ (os n, Packet named) ∷ behind → is_conn_c1 named ≡ true → n ≡ 1
  c1_leg n (ConnC1 version window' timeout) before behind is e =
      c1_on_first n (Packet (ConnC1 version window' timeout)) before behind is (omega arith) refl
  c1_leg n named before behind is e = absurd (false≢true e)

  -- CONN/C1 among those before stands on the first leg
  pub c1_on : (before behind : List OnLeg) → now.put ≡ before ++ behind
      → 1 ≤ count_of is_conn_c1 (of_kind OutServer before)
      → 1 ≤ count_of is_conn_c1 (of_leg (os 1) before)
  c1_on before behind is some =
      let on = some_leg is_conn_c1 OutServer before some in
      let found = find (os on.0) is_conn_c1 before on.1 in
      let first = c1_leg on.0 found.named found.before (found.behind ++ behind)
      (is ∙ ap (λ (l : List OnLeg). l ++ behind) found.is
      ∙ append_assoc found.before ((os on.0, Packet found.named) ∷ found.behind) behind)
      found.passes in
      subst (λ (k : ℕ). 1 ≤ count_of is_conn_c1 (of_leg (os k) before)) first on.1
