-- what a server's log of puts tells: its answers to IN channels, and those behind OUT_R1/A1
use Rattle.law_order.proofs.Vocabulary.{◌≡◌, ℕ, suc, ◌+◌, ◌≤◌, ◌==◌, Bool, true, false, if◌then◌else◌, List, [], ◌∷◌, ◌++◌, refl, sym, ap, ◌∙◌, subst, arith, append-nil}
use Rattle.rh_sig.specs.declared.named.Named.TheVariants as named
use Rattle.law_moves.proofs.Vocabulary.{test_same, Cookie, Named, OutServer, InServer, Message, Text, Pdu, Packet, count_of, OnLeg, of_leg}
use Rattle.law_moves.proofs.Lemmas.{count_append, count_rises, leg_more}
use Rattle.law_moves.specs.PacketKinds as kinds
use Rattle.law_role_server.proofs.Counted.Logs.{at_here, often_at_more}
use Rattle.law_role_server.proofs.Vocabulary.{is_in_r1_a3, is_in_r2_a3, is_out_r1_a1, leg_at, often, often_at}
use Rattle.law_role_outproxy.proofs.Vocabulary.{os_leg}
use Rattle.law_peers_room.proofs.ServerRoom.Overtaken.{more_there as often_one, same_there as in_often}
use Rattle.law_peers_room.specs.OutRoom.Waits.{behind, is_in_a3}
use Rattle.law_peers_room.specs.ServerRoom.Overtaking.{is_ack_for}
use Rattle.law_peers_forwarding.proofs.PhasePuts.{Rises, answers, is_wish_in}

-- ---- counts

same_wish : (packet : Named) → is_out_r1_a1 packet ≡ kinds.is_out_r1_a1 packet
same_wish (named.OutR1A1 to) = refl
same_wish packet = refl

same_wishes : (ms : List Message) → count_of is_out_r1_a1 ms ≡ count_of kinds.is_out_r1_a1 ms
same_wishes [] = refl
same_wishes (Text bytes ∷ ms) = same_wishes ms
same_wishes (Pdu pdu ∷ ms) = same_wishes ms
same_wishes (Packet packet ∷ ms) =
    ap (λ (b : Bool).
    if b then suc (count_of is_out_r1_a1 ms) else count_of is_out_r1_a1 ms) (same_wish packet)
    ∙ ap (λ (n : ℕ). if kinds.is_out_r1_a1 packet then suc n else n) (same_wishes ms)

-- behind the first wish
abbrev pub behind_first : List Message → ℕ
behind_first ms = count_of is_in_a3 (behind kinds.is_out_r1_a1 1 ms)

first_most : (ms more : List Message) → behind_first ms ≤ behind_first (ms ++ more)
first_most [] more = omega arith
first_most (Text bytes ∷ ms) more = first_most ms more
first_most (Pdu pdu ∷ ms) more = first_most ms more
first_most (Packet packet ∷ ms) more =
    by (kinds.is_out_r1_a1 packet) (first_most ms more)
  where
    by : (b : Bool) → behind_first ms ≤ behind_first (ms ++ more)
        → count_of is_in_a3
        (if b then behind kinds.is_out_r1_a1 0 ms else behind kinds.is_out_r1_a1 1 ms)
        ≤ count_of is_in_a3
        (if b then behind kinds.is_out_r1_a1 0 (ms ++ more)
        else behind kinds.is_out_r1_a1 1 (ms ++ more))
    by true rest = count_rises is_in_a3 ms more
    by false rest = rest

first_more : (ms more : List Message) → 1 ≤ count_of kinds.is_out_r1_a1 ms
    → behind_first (ms ++ more) ≡ behind_first ms + count_of is_in_a3 more
first_more [] more h = absurd (omega (arith, h))
first_more (Text bytes ∷ ms) more h = first_more ms more h
first_more (Pdu pdu ∷ ms) more h = first_more ms more h
first_more (Packet packet ∷ ms) more h =
    by (kinds.is_out_r1_a1 packet) h (first_more ms more)
  where
    by : (b : Bool)
        → 1 ≤ (if b then suc (count_of kinds.is_out_r1_a1 ms)
        else count_of kinds.is_out_r1_a1 ms)
        → (1 ≤ count_of kinds.is_out_r1_a1 ms
        → behind_first (ms ++ more) ≡ behind_first ms + count_of is_in_a3 more)
        → count_of is_in_a3
        (if b then behind kinds.is_out_r1_a1 0 (ms ++ more)
        else behind kinds.is_out_r1_a1 1 (ms ++ more))
        ≡ count_of is_in_a3
        (if b then behind kinds.is_out_r1_a1 0 ms else behind kinds.is_out_r1_a1 1 ms)
        + count_of is_in_a3 more
    by true h rest = count_append is_in_a3 ms more
    by false h rest = rest h

one_answer : (m : Message)
    → count_of is_in_r1_a3 (m ∷ []) + count_of is_in_r2_a3 (m ∷ []) ≡ answers m
one_answer (Text bytes) = refl
one_answer (Pdu pdu) = refl
one_answer (Packet (named.InR1A3 to version window timeout)) = refl
one_answer (Packet (named.InR2A3 to)) = refl
one_answer (Packet packet) = refl

one_wish : (m : Message) → is_wish_in m ≡ true → count_of is_out_r1_a1 (m ∷ []) ≡ 1
one_wish (Text bytes) e = absurd cc
one_wish (Pdu pdu) e = absurd cc
one_wish (Packet packet) e = ap (λ (b : Bool). if b then suc 0 else 0) e

-- ---- the log

-- answers that were put, OUT_R1/A1 on an os leg, and the answers behind it there
abbrev pub put_in : List OnLeg → ℕ
put_in put = often is_in_r1_a3 OutServer put + often is_in_r2_a3 OutServer put

abbrev pub asked_on : ℕ → List OnLeg → ℕ
asked_on n put = often_at is_out_r1_a1 OutServer n put

abbrev pub more_on : ℕ → List OnLeg → ℕ
more_on n put = behind_first (of_leg (os_leg n) put)

pub acks_more : (channel : Cookie) (n : ℕ) (m : Message) (put : List OnLeg)
    → often (is_ack_for channel) OutServer (put ++ (leg_at OutServer n, m) ∷ [])
    ≡ often (is_ack_for channel) OutServer put + count_of (is_ack_for channel) (m ∷ [])
acks_more channel n m put = often_one (is_ack_for channel) n m put

pub put_more : (n : ℕ) (m : Message) (put : List OnLeg)
    → put_in (put ++ (leg_at OutServer n, m) ∷ []) ≡ put_in put + answers m
put_more n m put =
    let one = often_one is_in_r1_a3 n m put in
    let two = often_one is_in_r2_a3 n m put in
    let all = one_answer m in omega (arith, one, two, all)

leg_here : (n from : ℕ) (m : Message) (put : List OnLeg)
    → of_leg (os_leg from) (put ++ (leg_at OutServer n, m) ∷ [])
    ≡ of_leg (os_leg from) put ++ (if n == from then m ∷ [] else [])
leg_here n from m put = leg_more (os_leg from) put (leg_at OutServer n, m)

same_test : (n from : ℕ) → n ≡ from → (n == from) ≡ true
same_test n from e = subst (λ (k : ℕ). (n == k) ≡ true) e (test_same n)

pub rises : (n from : ℕ) (m : Message) (put : List OnLeg)
    → Rises n from (asked_on from put) (more_on from put) m
    (asked_on from (put ++ (leg_at OutServer n, m) ∷ []))
    (more_on from (put ++ (leg_at OutServer n, m) ∷ []))
rises n from m put = record {
  asked_so = let more = often_at_more is_out_r1_a1 OutServer from put (leg_at OutServer n, m) in
      omega (arith, more);
  more_so = subst (λ (ms : List Message). more_on from put ≤ behind_first ms)
      (sym (leg_here n from m put))
      (first_most (of_leg (os_leg from) put) (if n == from then m ∷ [] else []));
  wish = λ e is.
      let more = at_here is_out_r1_a1 OutServer n from m put e in
      let one = one_wish m is in omega (arith, more, one);
  behind = λ e once.
      let more = ap behind_first (leg_here n from m put
      ∙ ap (λ (b : Bool). of_leg (os_leg from) put ++ (if b then m ∷ [] else []))
      (same_test n from e))
      ∙ first_more (of_leg (os_leg from) put) (m ∷ [])
      (subst (λ (k : ℕ). 1 ≤ k) (same_wishes (of_leg (os_leg from) put)) once) in
      omega (arith, more);
}

-- ---- a message on an is leg

pub in_put_in : (n : ℕ) (m : Message) (put : List OnLeg)
    → put_in (put ++ (leg_at InServer n, m) ∷ []) ≡ put_in put
in_put_in n m put =
    let one = in_often is_in_r1_a3 n m put in
    let two = in_often is_in_r2_a3 n m put in omega (arith, one, two)

pub in_leg_same : (n from : ℕ) (m : Message) (put : List OnLeg)
    → of_leg (os_leg from) (put ++ (leg_at InServer n, m) ∷ []) ≡ of_leg (os_leg from) put
in_leg_same n from m put =
    leg_more (os_leg from) put (leg_at InServer n, m) ∙ append-nil (of_leg (os_leg from) put)
