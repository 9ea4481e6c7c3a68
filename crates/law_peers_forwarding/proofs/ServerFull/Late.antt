-- of which channels acknowledgements to the client came at a server since a front of its moves
use Rattle.law_order.proofs.Vocabulary.{◌≡◌, ◌⊎◌, inl, inr, ℕ, suc, ◌+◌, ◌<◌, ◌≤◌, Bool, true, false, if◌then◌else◌, List, [], ◌∷◌, ◌++◌, append_assoc, refl, sym, ap, ◌∙◌, subst, arith, IsPrefix}
use Rattle.law_moves.proofs.Vocabulary.{test_same, prefix_self, prefix_trans, Cookie, Named, AckTo, LegKind, ClientOut, OutServer, ClientIn, InServer, Message, Text, Pdu, Packet, count_of, of_kind, EndMove, OnLeg, Passage, of_leg, all_read_of}
use Rattle.law_moves.proofs.Lemmas.{count_append, of_append as leg_append}
use Rattle.law_role_inproxy.proofs.Vocabulary.{InProxy, IsStream, PutsInOrder, is_leg}
use Rattle.law_role_server.proofs.Vocabulary.{Server, in_came, is_conn_b2, is_in_r1_a2, is_in_r1_a6, is_in_r2_a2, leg_at, often}
use Rattle.law_role_server_rows.proofs.InTurn.Splits.{kind_append}
use Rattle.law_peers_moments.proofs.Joining.{is_front}
use Rattle.law_peers_moments.specs.Moments.{IsJoined, Moves, Numbers, in_behind, passages, server_behind}
use Rattle.law_peers_expects.proofs.InProxyExpects.Untold.{reader_most as reads_before}
use Rattle.law_peers_in_channels.specs.InChannels.{passed}
use Rattle.law_peers_room.specs.ServerRoom.Answered.{AreAnsweredFirst}
use Rattle.law_peers_room.specs.ServerRoom.Overtaking.{is_ack_for}
use Rattle.law_peers_forwarding.proofs.ServerFull.Grows.{came_grows}
use Rattle.law_peers_forwarding.proofs.ServerFull.Longest.{is_for}
use Rattle.law_peers_forwarding.proofs.ServerFull.Streams.{open_before}
use Rattle.law_peers_forwarding.specs.ServerFull.Numbered.{AreLate, IsLate}

-- ---- a packet of a log

pub record Stands (test : Named → Bool) (log : List OnLeg) : Type 0 where
  pub before : List OnLeg
  pub n : ℕ
  pub m : Named
  pub later : List OnLeg
  pub is : log ≡ before ++ (leg_at InServer n, Packet m) ∷ later
  pub passes : test m ≡ true

behind_one : (test : Named → Bool) (one : OnLeg) (log : List OnLeg) → Stands test log
    → Stands test (one ∷ log)
behind_one test one log h = record {
  before = one ∷ h.before;
  n = h.n;
  m = h.m;
  later = h.later;
  is = ap (λ (log : List OnLeg). one ∷ log) h.is;
  passes = h.passes;
}

stands : (test : Named → Bool) (log : List OnLeg) → 1 ≤ often test InServer log
    → Stands test log
stands test [] h = absurd (omega (arith, h))
stands test (one ∷ log) h = by one.0.number one.0.kind one.1 h (stands test log)
  where
    at : (n : ℕ) (m : Named) (b : Bool) → test m ≡ b
        → 1 ≤ (if b then suc (often test InServer log) else often test InServer log)
        → (1 ≤ often test InServer log → Stands test log)
        → Stands test ((leg_at InServer n, Packet m) ∷ log)
    at n m true e h rest =
        record { before = []; n = n; m = m; later = log; is = refl; passes = e }
    at n m false e h rest = behind_one test (leg_at InServer n, Packet m) log (rest h)

    by : (n : ℕ) (k : LegKind) (x : Message)
        → 1 ≤ often test InServer ((leg_at k n, x) ∷ log)
        → (1 ≤ often test InServer log → Stands test log)
        → Stands test ((leg_at k n, x) ∷ log)
    by n InServer (Text bytes) h rest =
        behind_one test (leg_at InServer n, Text bytes) log (rest h)
    by n InServer (Pdu pdu) h rest = behind_one test (leg_at InServer n, Pdu pdu) log (rest h)
    by n InServer (Packet m) h rest = at n m (test m) refl h rest
    by n OutServer x h rest = behind_one test (leg_at OutServer n, x) log (rest h)
    by n ClientIn x h rest = behind_one test (leg_at ClientIn n, x) log (rest h)
    by n ClientOut x h rest = behind_one test (leg_at ClientOut n, x) log (rest h)

-- ---- the law

module _ (numbers : Numbers) (reader : ℕ → ℕ) (moves : Moves)
    (joined : IsJoined numbers reader moves) (answered : AreAnsweredFirst numbers reader moves)
    (puts : (m : ℕ) → PutsInOrder (numbers.ins m) (in_behind numbers moves m))
    (front later : List EndMove) (e : moves.server ≡ front ++ later) where
  abbrev now : Passage Server
  now = (server_behind numbers moves).passage

  abbrev proxy : ℕ → Passage InProxy
  proxy n = in_behind numbers moves n

  abbrev there : ℕ → List Message
  there n = of_leg (is_leg n) (passed numbers front).came

  stream : (n : ℕ) → IsStream (numbers.ins n) (proxy n).came (of_leg (is_leg n) (proxy n).put)
  stream n =
      subst (λ (k : ℕ). IsStream (numbers.ins n) (proxy n).came (of_leg (is_leg k) (proxy n).put))
      (joined.made.in_number n) (puts n)

  grows : IsPrefix (passed numbers front).came now.came
  grows =
      subst (λ (ms : List EndMove). IsPrefix (passed numbers front).came (passed numbers ms).came)
      (sym e) (came_grows numbers front later)

  less_before : (test : Named → Bool) (a all : List Message) → IsPrefix a all
      → count_of test a ≤ count_of test all
  less_before test a all h =
      subst (λ (ms : List Message). count_of test a ≤ count_of test ms) h.1
      (let both = count_append test a h.0 in omega (arith, both))

  late : (n received window : ℕ) (channel : Cookie) (before more : List Message)
      → before ≡ there n ++ more → IsPrefix before (of_leg (is_leg n) now.came)
      → IsPrefix (before ++ Packet (AckTo 0 received window channel) ∷ [])
      (all_read_of (of_leg (is_leg n) (proxy n).put))
      → IsLate numbers reader moves front channel
  late n received window channel before more same came ahead =
      let ack = answered n before received window channel ahead in
      let is_open = open_before (numbers.ins n) (proxy n).came received window channel before
      (of_leg (is_leg n) (proxy n).put) (stream n) ahead in
      let nexts : count_of is_in_r2_a2 before ≡ count_of is_in_r2_a2 (there n ++ more) =
      ap (count_of is_in_r2_a2) same in
      let nexts_sum = count_append is_in_r2_a2 (there n) more in
      let marks : count_of is_in_r1_a6 before ≡ count_of is_in_r1_a6 (there n ++ more) =
      ap (count_of is_in_r1_a6) same in
      let marks_sum = count_append is_in_r1_a6 (there n) more in
      let one = less_before is_conn_b2 before (of_leg (is_leg n) now.came) came in
      let two = less_before is_in_r1_a2 before (of_leg (is_leg n) now.came) came in
      let three = less_before is_in_r2_a2 before (of_leg (is_leg n) now.came) came in
      let began_there = is_open.began in
      let none = is_open.stays in
      let read = ack.is.read in
      let least = reads_before reader joined.read ack.number in
      let range = near_by ack.number (n + count_of is_in_r2_a2 before) ack.near in
      let range_least = range.0 in
      let range_most = range.1 in
      record {
        leg = n;
        number = ack.number;
        is = ack.is;
        announced = record {
          began = omega (arith, one, two, began_there);
          least = omega (arith, read, least);
          most = omega (arith, range_most, three);
        };
        near = omega (arith, range_least, nexts, nexts_sum);
        stays = omega (arith, none, marks, marks_sum);
      }
    where
      near_by : (number last : ℕ) → (number ≡ last) ⊎ (suc number ≡ last)
          → (last ≤ suc number) × (number ≤ last)
      near_by number last (inl same) = (omega (arith, same), omega (arith, same))
      near_by number last (inr same) = (omega (arith, same), omega (arith, same))

  ahead_late : (n received window : ℕ) (channel : Cookie)
      → IsPrefix (of_leg (is_leg n) now.came ++ Packet (AckTo 0 received window channel) ∷ [])
      (all_read_of (of_leg (is_leg n) (proxy n).put))
      → IsLate numbers reader moves front channel
  ahead_late n received window channel ahead =
      late n received window channel (of_leg (is_leg n) now.came) (of_leg (is_leg n) grows.0)
      (sym (ap (of_leg (is_leg n)) grows.1)
      ∙ leg_append (is_leg n) (passed numbers front).came grows.0)
      (prefix_self (of_leg (is_leg n) now.came)) ahead

  came_late : (channel : Cookie)
      → in_came (is_ack_for channel) (passed numbers front) < in_came (is_ack_for channel) now
      → IsLate numbers reader moves front channel
  came_late channel more =
      by (stands (is_ack_for channel) grows.0
      (let same : often (is_ack_for channel) InServer now.came
      ≡ often (is_ack_for channel) InServer ((passed numbers front).came ++ grows.0) =
      sym (ap (often (is_ack_for channel) InServer) grows.1) in
      let kinds : often (is_ack_for channel) InServer ((passed numbers front).came ++ grows.0)
      ≡ count_of (is_ack_for channel)
      (of_kind InServer (passed numbers front).came ++ of_kind InServer grows.0) =
      ap (count_of (is_ack_for channel))
      (kind_append InServer (passed numbers front).came grows.0) in
      let sum = count_append (is_ack_for channel) (of_kind InServer (passed numbers front).came)
      (of_kind InServer grows.0) in
      omega (arith, more, same, kinds, sum)))
    where
      by : Stands (is_ack_for channel) grows.0 → IsLate numbers reader moves front channel
      by at = found (is_for channel at.m at.passes)
        where
          found : (received : ℕ) × (window : ℕ) × (at.m ≡ AckTo 0 received window channel)
              → IsLate numbers reader moves front channel
          found of =
              late at.n of.0 of.1 channel (there at.n ++ of_leg (is_leg at.n) at.before)
              (of_leg (is_leg at.n) at.before) refl
              (Packet at.m ∷ of_leg (is_leg at.n) at.later, sym whole)
              (subst (λ (m : Named). IsPrefix ((there at.n ++ of_leg (is_leg at.n) at.before)
              ++ Packet m ∷ []) (all_read_of (of_leg (is_leg at.n) (proxy at.n).put))) of.2
              (prefix_trans ((there at.n ++ of_leg (is_leg at.n) at.before) ++ Packet at.m ∷ [])
              (of_leg (is_leg at.n) now.came)
              (all_read_of (of_leg (is_leg at.n) (proxy at.n).put)) (
                of_leg (is_leg at.n) at.later,
                append_assoc (there at.n ++ of_leg (is_leg at.n) at.before) (Packet at.m ∷ [])
                    (of_leg (is_leg at.n) at.later) ∙ sym whole,
              )
              (is_front reader (passages numbers moves) joined.joined at.n)))
            where
              whole : of_leg (is_leg at.n) now.came
                  ≡ (there at.n ++ of_leg (is_leg at.n) at.before)
                  ++ Packet at.m ∷ of_leg (is_leg at.n) at.later
              whole =
                  ap (of_leg (is_leg at.n)) (sym grows.1)
                  ∙ leg_append (is_leg at.n) (passed numbers front).came grows.0
                  ∙ ap (λ (log : List OnLeg). there at.n ++ of_leg (is_leg at.n) log) at.is
                  ∙ ap (λ (ms : List Message). there at.n ++ ms)
                  (leg_append (is_leg at.n) at.before ((is_leg at.n, Packet at.m) ∷ at.later)
                  ∙ ap (λ (b : Bool). of_leg (is_leg at.n) at.before
                  ++ (if b then Packet at.m ∷ of_leg (is_leg at.n) at.later
                  else of_leg (is_leg at.n) at.later)) (test_same at.n))
                  ∙ sym (append_assoc (there at.n) (of_leg (is_leg at.n) at.before)
                  (Packet at.m ∷ of_leg (is_leg at.n) at.later))

  pub are_late : AreLate numbers reader moves front
  are_late = record { came = came_late; ahead = ahead_late }
