-- what comes next to an out proxy from its client is no reason to refuse it
use Rattle.law_order.proofs.Vocabulary.{◌≡◌, ◌⊎◌, inl, inr, ℕ, suc, ◌≤◌, true, false, true≢false, List, [], None, Err, sym, ap, ◌∙◌, subst, arith}
use Rattle.rh_shell.specs.declared.answers.Refused.TheVariants as refused
use Rattle.law_moves.proofs.Vocabulary.{Cookie, Named, ConnA1, OutR1A3, OutR2C1, ClientConfig, Leg, Count, Refused, Message, Pdu, Packet, Move, Passage, all_moved, started, Tells, packets, count_of, is_out_r1_a3, all_read_of, AreInTurn}
use Rattle.law_role_outproxy.proofs.Vocabulary.{OutProxyConfig, rules as out_rules, told_length, OutProxy, new_proxy, co_leg, RefusesFor, UnexpectedFromClient, from_client, last_asked}
use Rattle.law_role_client_rows.specs.Putting.{IsChannel, out_length, out_way}
use Rattle.law_peers_moments.specs.Expecting.{Expects, IsAhead, IsAmiss}
use Rattle.law_peers_expects.proofs.Asked.Ahead.{IsNewNext, IsNext, IsSecondNext, IsSuccessorNext, channel_next}
use Rattle.law_peers_expects.proofs.Asked.Requests.{told_own}
use Rattle.law_peers_expects.specs.Asked.Requests.{HasAsked}

module _ (config : OutProxyConfig) (moves : List Move)
    (turn : AreInTurn out_rules (new_proxy config) moves) where
  abbrev p : Passage OutProxy
  p = all_moved out_rules (started (new_proxy config)) moves

  abbrev n : ℕ
  n = config.number

  module _ (asked : HasAsked n moves p) where
    told : (below : ℕ) → n ≡ suc below
        → told_length (last_asked None moves) (out_length below) ≡ false → ⊥
    told below number untold =
        true≢false (sym (told_own config moves turn asked.heads asked.taken below number) ∙ untold)

    none_came : (came : List Message) → came ≡ [] → 1 ≤ packets came → ⊥
    none_came came none some = let e = ap packets none in omega (arith, e, some)

    new_expected : (packet : Named) → IsNewNext n (from_client n p) (Packet packet)
        → UnexpectedFromClient n p moves packet → ⊥
    new_expected packet next reason =
        let same : packet ≡ ConnA1 next.version next.connection next.channel next.window =
        (let e = next.is in cc) in
        by (subst (UnexpectedFromClient n p moves) same reason)
      where
        by : (1 ≤ packets (from_client n p))
            ⊎ (told_length (last_asked None moves) (out_length 0) ≡ false) → ⊥
        by (inl some) = none_came (from_client n p) next.none some
        by (inr untold) = told 0 next.number untold

    successor_expected : (packet : Named) → IsSuccessorNext n (from_client n p) (Packet packet)
        → UnexpectedFromClient n p moves packet → ⊥
    successor_expected packet next reason =
        let same : packet
        ≡ OutR1A3 next.version next.connection next.predecessor next.channel next.window =
        (let e = next.is in cc) in
        by (subst (UnexpectedFromClient n p moves) same reason)
      where
        by : (1 ≤ packets (from_client n p))
            ⊎ (told_length (last_asked None moves) (out_length (suc next.below)) ≡ false) → ⊥
        by (inl some) = none_came (from_client n p) next.none some
        by (inr untold) = told (suc next.below) next.number untold

    second_expected : (packet : Named) → IsSecondNext (from_client n p) (Packet packet)
        → UnexpectedFromClient n p moves packet → ⊥
    second_expected packet next reason =
        let same : packet ≡ OutR2C1 = (let e = next.is in cc) in
        by (subst (UnexpectedFromClient n p moves) same reason)
      where
        by : (packets (from_client n p) ≡ 1 → ⊥)
            ⊎ (count_of is_out_r1_a3 (from_client n p) ≡ 0) → ⊥
        by (inl other) = other (ap packets next.behind)
        by (inr none) =
            let one = ap (count_of is_out_r1_a3) next.behind in omega (arith, one, none)

    expected : (packet : Named) → IsNext n (from_client n p) (Packet packet)
        → UnexpectedFromClient n p moves packet → ⊥
    expected packet (inl next) = new_expected packet next
    expected packet (inr (inl next)) = successor_expected packet next
    expected packet (inr (inr next)) = second_expected packet next

    no_pdu : (bytes : List ℕ) → IsNext n (from_client n p) (Pdu bytes) → ⊥
    no_pdu bytes (inl next) = let e = next.is in absurd cc
    no_pdu bytes (inr (inl next)) = let e = next.is in absurd cc
    no_pdu bytes (inr (inr next)) = let e = next.is in absurd cc

    module _ (client : ClientConfig) (Comes : Leg → Cookie → Type 0) (Early : Leg → Type 0)
        (put : List Message) (opens : IsChannel (out_way client) Comes Early n put)
        (refuses : RefusesFor n moves p) where
      ahead : (m : Message) → IsAhead p (co_leg n) (all_read_of put) m
          → IsNext n (from_client n p) m
      ahead m front = channel_next client Comes Early (from_client n p) m n put opens front

      by_packet : (count : Count) (packet : Named) (why : Refused)
          → out_rules.was_up p.role (co_leg n) ≡ true
          → Tells count (packets (from_client n p))
          → IsAhead p (co_leg n) (all_read_of put) (Packet packet)
          → (out_rules.packet p.role (co_leg n) count packet).1 ≡ Err why → IsAmiss why → ⊥
      by_packet count packet refused.Unexpected up tells next is amiss =
          expected packet (ahead (Packet packet) next)
          (refuses.packet (co_leg n) count packet up tells is)
      by_packet count packet (refused.Cookie wanted got) up tells next is amiss =
          refuses.cookie (co_leg n) count packet wanted got is
      by_packet count packet why up tells next is amiss = amiss

      pub expects : Expects out_rules p (co_leg n) (all_read_of put)
      expects = record {
        packet = λ count packet why used up tells next is amiss.
            by_packet count packet why up tells next is amiss;
        pdu = λ count bytes why used up next is amiss. no_pdu bytes (ahead (Pdu bytes) next);
      }
