-- what is known at a moment of a message that comes next on an OUT channel of the client
use Rattle.law_order.proofs.Vocabulary.{◌≡◌, ◌⊎◌, inl, inr, ℕ, zero, suc, ◌+◌, ◌<◌, ◌≤◌, Bool, true, List, [], ◌∷◌, ◌++◌, refl, arith, nat_tests, IsPrefix, Item}
use Rattle.rh_sig.specs.declared.named.Named.TheVariants as named
use Rattle.law_moves.proofs.Vocabulary.{Named, ClientOut, OutServer, Message, Pdu, Packet, Passage, of_leg, all_read_of, count_of, of_kind, Has, HasOne}
use Rattle.law_moves.specs.PacketKinds as at_proxy
use Rattle.law_role_client.proofs.Vocabulary.{LAST_NUMBER, ClientRole, co, StandsOnEach, is_among, once_if, total, opened, ReplacesOuts, in_asked, in_answered, out_wanted, out_asked, out_answered, out_switched, out_finished}
use Rattle.law_role_client.specs.Counted.Counting as at_client
use Rattle.law_role_server.proofs.Vocabulary.{Server, IsOnEachFrom, out_put, ArePutInTurn}
use Rattle.law_role_server.specs.Counted.Counting as at_server
use Rattle.law_role_outproxy.proofs.Vocabulary.{to_client, OpensNew, OpensSuccessor}
use Rattle.law_role_server_rows.specs.Putting.Puts.{os}
use Rattle.law_peers_moments.proofs.Joining.{co_front, os_back}
use Rattle.law_peers_moments.proofs.Read.{front_one}
use Rattle.law_peers_moments.proofs.GoingRound.Rounding.{answers as in_answers, sum_counts}
use Rattle.law_peers_moments.specs.Moments.{IsJoined, Moves, Numbers, Passages, passages}
use Rattle.law_peers_moments.specs.GoingRound.{GoRound}
use Rattle.law_peers_expects.proofs.ClientExpects.Ahead.{HasPdu, front_pdu, one_pdu, pdu_last}
use Rattle.law_peers_expects.proofs.ClientExpects.Ends.{IsHandover, ends_last, is_channel, pdu_came}
use Rattle.law_peers_expects.proofs.ClientExpects.InTurn.{IsBehind, is_behind}
use Rattle.law_peers_expects.proofs.ClientExpects.Forwarding.{Forwarding, answer, connection, handover, in_r1, in_r2, wish}
use Rattle.law_peers_expects.proofs.ClientExpects.GoingRound.{are_asked, came_of, next_of_put, replaces_at, round_at, turns_at}
use Rattle.law_peers_expects.proofs.ClientExpects.Known.{Laws, number_at, order_at}
use Rattle.law_peers_expects.proofs.ClientExpects.More.{leg_within, none_more, one_more}
use Rattle.law_peers_expects.proofs.InProxyExpects.Fronts.{one_counts}

opens_new : (packet : Named) → OpensNew packet → at_client.is_conn_a1 packet ≡ true
opens_new (named.ConnA1 version of channel window) is = refl
opens_new packet is = absurd is

opens_successor : (packet : Named) → OpensSuccessor packet
    → at_client.is_out_r1_a3 packet ≡ true
opens_successor (named.OutR1A3 version of predecessor successor window) is = refl
opens_successor packet is = absurd is

in_counts : (ms : List Message) → count_of at_client.is_in_a4 ms
    ≡ count_of at_proxy.is_in_r1_a4 ms + count_of at_proxy.is_in_r2_a4 ms
in_counts =
    sum_counts at_client.is_in_a4 at_proxy.is_in_r1_a4 at_proxy.is_in_r2_a4 in_answers

-- CONN/A1 is put once, so on the first channel
first_alone : (count here n : ℕ) → count ≤ 1 → 1 ≤ here
    → here ≡ once_if (is_among 1 count n) → n ≡ 1
first_alone count here n once least is = grind (arith, nat_tests, once, least, is)

module _ (laws : Laws) (numbers : Numbers) (reader : ℕ → ℕ) (moves : Moves)
    (moment : IsJoined numbers reader moves) where
  abbrev all : Passages
  all = passages numbers moves

  abbrev c : Passage ClientRole
  c = all.client

  abbrev s : Passage Server
  s = all.server

  round : GoRound c s
  round = round_at laws.rounds numbers reader moves moment

  replaces : ReplacesOuts c
  replaces = replaces_at laws.rounds numbers reader moves moment

  turns : ArePutInTurn s
  turns = turns_at laws.rounds numbers reader moves moment

  -- ---- on one channel

  module _ (n : ℕ) where
    abbrev came : List Message
    came = of_leg (co n) c.came

    abbrev asked : List Message
    asked = of_leg (co n) (all.outs n).came

    abbrev pub IsNext : Message → Type 0
    IsNext m = IsPrefix (came ++ m ∷ []) (all_read_of (of_leg (co n) (all.outs n).put))

    pub is_first : HasOne OpensNew asked → n ≡ 1
    is_first new =
        let names = laws.names numbers.client moves.client moment.made.client in
        let here = one_counts OpensNew at_client.is_conn_a1 opens_new (of_leg (co n) c.put)
        (front_one OpensNew asked (of_leg (co n) c.put)
        (co_front reader all moment.joined n) new) in
        first_alone (total at_client.is_conn_a1 ClientOut c.put)
        (count_of at_client.is_conn_a1 (of_leg (co n) c.put)) n names.once here
        (names.begins_on (co n))

    -- where CONN/C2 came, or OUT_R1/A3 opened the channel, the client is open
    pub is_open : (1 ≤ count_of at_client.is_conn_c2 came) ⊎ HasOne OpensSuccessor asked
        → opened c ≡ 0 → ⊥
    is_open (inl one) none =
        let within = leg_within at_client.is_conn_c2 ClientOut c.came n in
        omega (arith, one, none, within)
    is_open (inr successor) none =
        let opens = laws.opens numbers.client moves.client moment.made.client in
        let unused : out_asked c ≡ 0 = (opens.unused none).asked_out in
        let here = one_counts OpensSuccessor at_client.is_out_r1_a3 opens_successor
        (of_leg (co n) c.put)
        (front_one OpensSuccessor asked (of_leg (co n) c.put)
        (co_front reader all moment.joined n) successor) in
        let within = leg_within at_client.is_out_r1_a3 ClientOut c.put n in
        omega (arith, unused, here, within)

    -- one more is next of all that the server put for it
    more_of : (before behind : Named → Bool) (way : Forwarding before behind) (packet : Named)
        → way.put packet ≡ true → IsNext (Packet packet)
        → total behind ClientOut c.came + 1 ≤ total before OutServer s.put
    more_of before behind way packet is next =
        one_more before behind OutServer ClientOut c.came s.put
        (came_of laws.rounds numbers reader moves moment before behind way) n
        (next_of_put laws.rounds numbers reader moves moment before behind way n packet is next)

    no_more_of : (before behind : Named → Bool) → Forwarding before behind
        → total behind ClientOut c.came ≤ total before OutServer s.put
    no_more_of before behind way =
        none_more before behind OutServer ClientOut c.came s.put
        (came_of laws.rounds numbers reader moves moment before behind way)

    pub is_unopened : (packet : Named) → at_proxy.is_conn_c2 packet ≡ true
        → IsNext (Packet packet) → opened c ≡ 1 → ⊥
    is_unopened packet is next one =
        let more = more_of at_server.is_conn_c1 at_client.is_conn_c2 connection packet is next in
        let once = (laws.server_opens numbers.window moves.server).conn_c1_once in
        omega (arith, more, once, one)

    -- ---- answers for IN channels

    in_is_asked : in_answered c + 1
        ≤ out_put at_server.is_in_r1_a3 s + out_put at_server.is_in_r2_a3 s
        → in_asked c ≡ in_answered c → ⊥
    in_is_asked more same =
        let ins = round.ins in
        let a = ins.a3_behind_a2 in
        let b = ins.a2_behind_a1 in
        omega (arith, more, same, a, b)

    pub answers_in_r1 : (packet : Named) → at_proxy.is_in_r1_a4 packet ≡ true
        → IsNext (Packet packet) → in_asked c ≡ in_answered c → ⊥
    answers_in_r1 packet is next =
        let more = more_of at_server.is_in_r1_a3 at_proxy.is_in_r1_a4 in_r1 packet is next in
        let other = no_more_of at_server.is_in_r2_a3 at_proxy.is_in_r2_a4 in_r2 in
        let both = in_counts (of_kind ClientOut c.came) in
        in_is_asked (omega (arith, more, other, both))

    pub answers_in_r2 : (packet : Named) → at_proxy.is_in_r2_a4 packet ≡ true
        → IsNext (Packet packet) → in_asked c ≡ in_answered c → ⊥
    answers_in_r2 packet is next =
        let more = more_of at_server.is_in_r2_a3 at_proxy.is_in_r2_a4 in_r2 packet is next in
        let other = no_more_of at_server.is_in_r1_a3 at_proxy.is_in_r1_a4 in_r1 in
        let both = in_counts (of_kind ClientOut c.came) in
        in_is_asked (omega (arith, more, other, both))

    -- ---- replacements of OUT channels

    turn_of : (before behind : Named → Bool) (way : Forwarding before behind)
        → StandsOnEach behind ClientOut 1 c.came → IsOnEachFrom 1 before OutServer s.put
        → (packet : Named) → way.put packet ≡ true → IsNext (Packet packet)
        → IsBehind behind before c.came s.put n
    turn_of before behind way stands each packet is next =
        is_behind behind before c.came s.put stands each n
        (next_of_put laws.rounds numbers reader moves moment before behind way n packet is next)

    pub record OutIsAnswered : Type 0 where
      pub asked_for : out_asked c ≡ out_answered c → ⊥
      pub here : n ≡ out_answered c + 1

    pub answers_out : (packet : Named) → at_proxy.is_out_r1_a6 packet ≡ true
        → IsNext (Packet packet) → OutIsAnswered
    answers_out packet is next =
        let turn = turn_of at_server.is_out_r1_a5 at_client.is_out_r1_a6 answer
        replaces.answers_on turns.a5 packet is next in
        let those = turn.those in
        let within = turn.within in
        let outs = round.outs in
        let a = outs.a5_behind_a4 in
        let b = outs.a4_behind_a3 in
        let d = replaces.one in
        let e = replaces.switched in
        let f = replaces.answered in
        record {
          asked_for = λ same. omega (arith, those, within, a, b, same);
          here = omega (arith, those, within, a, b, d, e, f);
        }

    pub record OutIsFinished : Type 0 where
      pub switched_to : out_switched c ≡ out_finished c → ⊥
      pub here : n ≡ out_finished c + 1

    pub finishes_out : (packet : Named) → at_proxy.is_out_r1_a10 packet ≡ true
        → IsNext (Packet packet) → OutIsFinished
    finishes_out packet is next =
        let turn = turn_of at_server.is_out_r1_a9 at_client.is_out_r1_a10 handover
        replaces.finishes_on turns.a9 packet is next in
        let those = turn.those in
        let within = turn.within in
        let outs = round.outs in
        let a = outs.a9_behind_a8 in
        let b = outs.a8_behind_a7 in
        let d = replaces.one in
        let e = replaces.answered in
        let f = replaces.asked in
        record {
          switched_to = λ same. omega (arith, those, within, a, b, same);
          here = omega (arith, those, within, a, b, d, e, f);
        }

    pub record OutIsWanted : Type 0 where
      pub numbered : LAST_NUMBER ≤ n → ⊥
      pub alone : out_asked c < out_wanted c → ⊥
      pub behind : out_wanted c + 1 ≤ n

    pub wants_out : StandsOnEach at_client.is_out_r1_a2 ClientOut 1 c.came → (packet : Named)
        → at_proxy.is_out_r1_a2 packet ≡ true → IsNext (Packet packet) → OutIsWanted
    wants_out stands packet is next =
        let turn = turn_of at_server.is_out_r1_a1 at_client.is_out_r1_a2 wish stands turns.a1
        packet is next in
        let those = turn.those in
        let within = turn.within in
        let one = (are_asked laws.rounds numbers reader moves moment).one in
        let last = (laws.counts numbers.window moves.server).asked in
        record {
          numbered = λ late. omega (arith, within, last, late);
          alone = λ less. omega (arith, those, within, one, less);
          behind = those;
        }

    -- ---- RPC PDUs and END/B2

    pub ends : (m : Message) (item : Item) → to_client m ≡ item ∷ [] → IsNext m
        → Has named.EndB2 came → IsHandover item
    ends m item is next has =
        ends_last came (of_leg (co n) (all.outs n).put) m item is next
        (is_channel n (all.outs n) (order_at laws numbers reader moves moment n)
        (number_at laws numbers reader moves moment n)) has

    -- the server put one there, behind as many OUT_R1/A9 as there are channels below
    handed_over : (pdu : List ℕ) → IsNext (Pdu pdu) → n ≤ out_put at_server.is_out_r1_a9 s + 1
    handed_over pdu next =
        let put = front_pdu (came ++ Pdu pdu ∷ []) (of_leg (co n) (all.outs n).put) next
        (pdu_last came pdu) in
        let passed = pdu_came n (all.outs n) (order_at laws numbers reader moves moment n)
        (number_at laws numbers reader moves moment n) put in
        by n (front_pdu (of_leg (os n) (all.outs n).came) (of_leg (os n) s.put)
        (os_back reader all moment.joined n) passed)
      where
        by : (k : ℕ) → HasPdu (of_leg (os k) s.put) → k ≤ out_put at_server.is_out_r1_a9 s + 1
        by zero has = omega arith
        by (suc k) has =
            let one = one_pdu (of_leg (os (suc k)) s.put) has in
            let behind = (laws.writes numbers.window moves.server).handed_over k
            (Pdu one.pdu) one.before one.behind one.all tt in
            omega (arith, behind)

    pub switched_to : (pdu : List ℕ) → IsNext (Pdu pdu) → n ≡ out_finished c + 2
        → out_switched c ≡ out_finished c → ⊥
    switched_to pdu next here same =
        let behind = handed_over pdu next in
        let outs = round.outs in
        let a = outs.a9_behind_a8 in
        let b = outs.a8_behind_a7 in
        omega (arith, behind, here, same, a, b)
