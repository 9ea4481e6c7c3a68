-- which channels are acknowledged, of what is read of an is leg, and that they were answered
use Rattle.law_order.proofs.Vocabulary.{◌≡◌, inl, inr, ℕ, suc, ◌+◌, ◌≤◌, Bool, true, false, if◌then◌else◌, List, [], ◌∷◌, ◌++◌, refl, sym, ◌∙◌, subst, arith, append_assoc, IsPrefix}
use Rattle.rh_sig.specs.declared.named.Named.TheVariants as named
use Rattle.law_moves.proofs.Vocabulary.{same_number, Cookie, Named, Leg, ClientIn, is_ping, Message, Text, Pdu, Packet, is_of, same_leg, OnLeg, of_leg, BeginsIn, count_of, of_kind, all_read_of}
use Rattle.law_moves.proofs.Lemmas.{count_append}
use Rattle.law_role_inproxy.proofs.Vocabulary.{HasPdu, is_leg}
use Rattle.law_role_client.proofs.Vocabulary.{ci, is_in_r1_a5, ReplacesIns}
use Rattle.law_role_server.proofs.Vocabulary.{is_in_r2_a2}
use Rattle.law_role_client_rows.specs.InTurn.Turns.{Turn, Stands, StandFrom, WritesInTurn, behind, first_turn}
use Rattle.law_peers_moments.proofs.Joining.{in_front, in_reads}
use Rattle.law_peers_moments.proofs.Read.{front_one}
use Rattle.law_peers_moments.specs.GoingRound.{GoRound}
use Rattle.law_peers_moments.specs.Moments.{IsJoined, Moves, Numbers, Passages, passages}
use Rattle.law_peers_room.specs.ServerRoom.Acks.{Acknowledge, AcknowledgesInOrder, IsOfTwo, IsUsed}
use Rattle.law_peers_room.specs.ServerRoom.Answered.{AreAnsweredFirst, IsAckOf, IsAnswered}

-- ---- what is read of a leg

read_acks : (came : List OnLeg) (n : ℕ) (put : List Message) → Acknowledge came n put
    → Acknowledge came n (all_read_of put)
read_acks came n [] h = tt
read_acks came n (Text bytes ∷ put) h = read_acks came n put h
read_acks came n (Pdu pdu ∷ put) h = read_acks came n put h
read_acks came n (Packet (named.InR2A2 successor) ∷ put) h = read_acks came (suc n) put h
read_acks came n (Packet (named.AckTo to received window channel) ∷ put) h =
    (h.0, read_acks came n put h.1)
read_acks came n (Packet packet ∷ put) h = read_acks came n put h

-- behind so many IN_R2/A2
acked_at : (came : List OnLeg) (n : ℕ) (before later : List Message) (received window : ℕ)
    (channel : Cookie)
    → Acknowledge came n (before ++ Packet (named.AckTo 0 received window channel) ∷ later)
    → IsOfTwo came (n + count_of is_in_r2_a2 before) channel
acked_at came n [] later received window channel h =
    let same : n ≡ n + 0 = omega arith in
    subst (λ (k : ℕ). IsOfTwo came k channel) same (h.0 refl)
acked_at came n (Packet (named.InR2A2 successor) ∷ before) later received window channel h =
    let same : suc n + count_of is_in_r2_a2 before ≡ n + suc (count_of is_in_r2_a2 before) =
    omega arith in
    subst (λ (k : ℕ). IsOfTwo came k channel) same
    (acked_at came (suc n) before later received window channel h)
acked_at came n (Packet (named.AckTo to bytes room other) ∷ before) later received window channel
    h =
    acked_at came n before later received window channel h.1
acked_at came n (message ∷ before) later received window channel h =
    acked_at came n before later received window channel h

module _ (pdu : List ℕ) where
  read_pdu : (put : List Message) → HasPdu pdu (all_read_of put) → HasPdu pdu put
  read_pdu [] has = has
  read_pdu (Text bytes ∷ put) has = inr (read_pdu put has)
  read_pdu (Pdu other ∷ put) (inl is) = inl is
  read_pdu (Pdu other ∷ put) (inr has) = inr (read_pdu put has)
  read_pdu (Packet other ∷ put) has = by (is_ping other) (read_pdu put) has
    where
      by : (t : Bool) → (HasPdu pdu (all_read_of put) → HasPdu pdu put)
          → HasPdu pdu ((if t then [] else Packet other ∷ []) ++ all_read_of put)
          → HasPdu pdu (Packet other ∷ put)
      by true rest has = inr (rest has)
      by false rest (inl is) = absurd cc
      by false rest (inr has) = inr (rest has)

  pdu_more : (a b : List Message) → HasPdu pdu a → HasPdu pdu (a ++ b)
  pdu_more [] b h = absurd h
  pdu_more (m ∷ a) b (inl is) = inl is
  pdu_more (m ∷ a) b (inr rest) = inr (pdu_more a b rest)

  front_pdu : (came put : List Message) → IsPrefix came (all_read_of put) → HasPdu pdu came
      → HasPdu pdu put
  front_pdu came put front has =
      read_pdu put
      (subst (λ (all : List Message). HasPdu pdu all) front.1 (pdu_more came front.0 has))

-- ---- on which channels a client writes

-- behind IN_R1/A5 the next one
at_most_one : (t : Turn) (leg : Leg) (m : Message) → Stands t (leg, m)
    → (behind t m).writing
    ≤ t.writing + count_of is_in_r1_a5 (of_kind ClientIn ((leg, m) ∷ []))
at_most_one t leg (Text bytes) stands = omega arith
at_most_one t leg (Pdu pdu) stands = omega arith
at_most_one t leg (Packet (named.InR1A5 successor)) stands =
    subst (λ (l : Leg). suc t.writing ≤ t.writing + count_of is_in_r1_a5
    (of_kind ClientIn ((l, Packet (named.InR1A5 successor)) ∷ []))) (sym stands) (omega arith)
at_most_one t leg (Packet named.EndA1) stands = omega arith
at_most_one t leg (Packet packet) stands = omega arith

one_counts : (test : Named → Bool) (one : OnLeg) (log : List OnLeg)
    → count_of test (of_kind ClientIn (one ∷ log))
    ≡ count_of test (of_kind ClientIn (one ∷ [])) + count_of test (of_kind ClientIn log)
one_counts test one log = by (is_of ClientIn one.0)
  where
    by : (b : Bool)
        → count_of test (if b then one.1 ∷ of_kind ClientIn log else of_kind ClientIn log)
        ≡ count_of test (if b then one.1 ∷ [] else []) + count_of test (of_kind ClientIn log)
    by true = count_append test (one.1 ∷ []) (of_kind ClientIn log)
    by false = omega arith

module _ (pdu : List ℕ) (k : ℕ) where
  written : (t : Turn) (log : List OnLeg) → StandFrom t log → HasPdu pdu (of_leg (ci k) log)
      → k ≤ t.writing + count_of is_in_r1_a5 (of_kind ClientIn log)
  written t [] stand has = absurd has
  written t ((leg, m) ∷ log) stand has =
      by (same_leg leg (ci k)) refl (written (behind t m) log stand.1) has
    where
      later : k ≤ (behind t m).writing + count_of is_in_r1_a5 (of_kind ClientIn log)
          → k ≤ t.writing + count_of is_in_r1_a5 (of_kind ClientIn ((leg, m) ∷ log))
      later most =
          let one = at_most_one t leg m stand.0 in
          let both = one_counts is_in_r1_a5 (leg, m) log in omega (arith, most, one, both)

      here : same_leg leg (ci k) ≡ true → m ≡ Pdu pdu
          → k ≤ t.writing + count_of is_in_r1_a5 (of_kind ClientIn ((leg, m) ∷ log))
      here there is =
          let stands = subst (λ (x : Message). Stands t (leg, x)) is stand.0 in
          let same : t.writing ≡ k = same_number t.writing k
          (subst (λ (l : Leg). same_leg l (ci k) ≡ true) stands.0 there) in omega (arith, same)

      by : (b : Bool) → same_leg leg (ci k) ≡ b
          → (HasPdu pdu (of_leg (ci k) log)
          → k ≤ (behind t m).writing + count_of is_in_r1_a5 (of_kind ClientIn log))
          → HasPdu pdu (if b then m ∷ of_leg (ci k) log else of_leg (ci k) log)
          → k ≤ t.writing + count_of is_in_r1_a5 (of_kind ClientIn ((leg, m) ∷ log))
      by true there rest (inl is) = here there is
      by true there rest (inr has) = later (rest has)
      by false there rest has = later (rest has)

-- ---- where legs join the roles

module _ (numbers : Numbers) (reader : ℕ → ℕ) (moves : Moves)
    (joined : IsJoined numbers reader moves) where
  abbrev all : Passages
  all = passages numbers moves

  module _ (writes : WritesInTurn all.client.put) (replaces : ReplacesIns all.client)
      (round : GoRound all.client all.server)
      (in_order : (m : ℕ) → AcknowledgesInOrder (numbers.ins m) (all.ins m)) where
    used_answered : (n k : ℕ) (channel : Cookie) → IsUsed (all.ins n).came k channel
        → IsAnswered numbers reader moves n k channel
    used_answered n k channel used = record {
      begun = front_one (BeginsIn channel) (of_leg (ci k) (all.ins n).came)
          (of_leg (ci k) all.client.put) (in_front reader all joined.joined n k) used.begun;
      read = in_reads reader all joined.joined (BeginsIn channel) n k used.begun;
      answered =
          let pdu = used.sent.0 in
          let most = written pdu k first_turn all.client.put writes
          (front_pdu pdu (of_leg (ci k) (all.ins n).came) (of_leg (ci k) all.client.put)
          (in_front reader all joined.joined n k) used.sent.1) in
          let handed = replaces.answered in
          let answered = round.ins.a4_behind_a3 in omega (arith, most, handed, answered);
    }

    acks_so : (n : ℕ) → Acknowledge (all.ins n).came n (all_read_of (of_leg (is_leg n)
        (all.ins n).put))
    acks_so n =
        read_acks (all.ins n).came n (of_leg (is_leg n) (all.ins n).put)
        (subst (λ (k : ℕ). Acknowledge (all.ins n).came k (of_leg (is_leg k) (all.ins n).put))
        (joined.made.in_number n) (in_order n))

    two_are : (n last : ℕ) (channel : Cookie) → IsOfTwo (all.ins n).came last channel
        → IsAckOf numbers reader moves n last channel
    two_are n last channel (inl used) =
        record { number = last; near = inl refl; is = used_answered n last channel used }
    two_are n last channel (inr of) =
        record { number = of.0; near = inr of.1; is = used_answered n of.0 channel of.2 }

    pub answered_first : AreAnsweredFirst numbers reader moves
    answered_first n before received window channel front =
        two_are n (n + count_of is_in_r2_a2 before) channel
        (acked_at (all.ins n).came n before front.0 received window channel
        (subst (Acknowledge (all.ins n).came n)
        (sym (front.1) ∙ append_assoc before
        (Packet (named.AckTo 0 received window channel) ∷ []) front.0) (acks_so n)))
