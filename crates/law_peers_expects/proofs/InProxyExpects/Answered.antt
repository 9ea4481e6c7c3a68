-- what is read of a server's leg to an in proxy
use Rattle.law_order.proofs.Vocabulary.{◌≡◌, ℕ, true, List, [], ◌∷◌, inl, inr, refl, sym, subst, AllByRecursion}
use Rattle.rh_sig.specs.declared.named.Named.TheVariants as named
use Rattle.law_moves.proofs.Vocabulary.{Cookie, Named, Message, Text, Pdu, Packet, OnLeg, of_leg, all_read_of}
use Rattle.law_moves.proofs.Lemmas.{one_so}
use Rattle.law_moves.specs.PacketKinds as at_proxy
use Rattle.law_role_inproxy.proofs.Vocabulary.{is_leg}
use Rattle.law_role_server.specs.Counted.Counting as at_server
use Rattle.law_role_client_rows.specs.Putting.{IsPacket}
use Rattle.law_role_server_rows.specs.Putting.Copying.{Begins}
use Rattle.law_role_server_rows.specs.InTurn.Answers.{AcksOn, AnswersOn, TellsOn}
use Rattle.law_peers_expects.proofs.InProxyExpects.Fronts.{counts_one}
use Rattle.law_peers_expects.proofs.InProxyExpects.OnServer.{Answers, Is, IsAnswer, IsOther, Tells, is_in_r1_a2}

-- ---- tests that are the same

in_r1_a6_is : (m : Named) → at_server.is_in_r1_a6 m ≡ true → at_proxy.is_in_r1_a6 m ≡ true
in_r1_a6_is (named.InR1A6 successor) e = refl
in_r1_a6_is m e = absurd cc

conn_b2_is : (m : Named) → at_server.is_conn_b2 m ≡ true → at_proxy.is_conn_b2 m ≡ true
conn_b2_is (named.ConnB2 version connection channel window timeout group address padding) e = refl
conn_b2_is m e = absurd cc

in_r1_a2_is : (m : Named) → at_server.is_in_r1_a2 m ≡ true → is_in_r1_a2 m ≡ true
in_r1_a2_is (named.InR1A2 version connection predecessor successor window timeout) e = refl
in_r1_a2_is m e = absurd cc

tells_so : (cookie : Cookie) (m : Named) → Begins cookie m → Tells cookie m
tells_so cookie (named.ConnB2 version connection channel window timeout group address padding) is =
    is
tells_so cookie (named.InR1A2 version connection predecessor successor window timeout) is = is
tells_so cookie m is = absurd is

-- ---- the leg

module _ (n : ℕ) (log : List OnLeg) where
  abbrev came : List Message
  came = of_leg (is_leg n) log

  abbrev Each : List Message → Type 0
  Each ms = AllByRecursion (IsPacket (IsAnswer came)) ms

  abbrev Others : List Message → Type 0
  Others ms = AllByRecursion IsOther ms

  -- behind the one that opens it
  read_acks : (ms : List Message) → AcksOn n log ms
      → Each (all_read_of ms) × Others (all_read_of ms)
  read_acks [] h = (tt, tt)
  read_acks (Packet (named.Ack received window cookie) ∷ ms) (inl h) =
      let rest = read_acks ms h.1 in
      ((one_so (Begins cookie) (Tells cookie) (tells_so cookie) came h.0, rest.0), (refl, rest.1))
  read_acks (Packet named.InR1B1 ∷ ms) (inr h) =
      subst (λ (rest : List Message). Each (all_read_of (Packet named.InR1B1 ∷ rest))
      × Others (all_read_of (Packet named.InR1B1 ∷ rest))) (sym h.1) (
        (counts_one (Is at_proxy.is_in_r1_a6) at_server.is_in_r1_a6 in_r1_a6_is came h.0, tt),
        (refl, tt),
      )
  read_acks (m ∷ ms) (inl h) = absurd h.0
  read_acks (m ∷ ms) (inr h) = absurd h.0

  read_tells : (ms : List Message) → TellsOn n log ms → Answers came (all_read_of ms)
  read_tells [] h = record { each = tt; order = tt }
  read_tells (Packet (named.ConnB3 size version) ∷ ms) h =
      let rest = read_acks ms h.1 in
      record {
        each = (
          counts_one (Is at_proxy.is_conn_b2) at_server.is_conn_b2 conn_b2_is came h.0.1,
          rest.0,
        );
        order = (refl, rest.1);
      }
  read_tells (Packet (named.InR1B2 size) ∷ ms) h =
      let rest = read_acks ms h.1 in
      record {
        each = (counts_one (Is is_in_r1_a2) at_server.is_in_r1_a2 in_r1_a2_is came h.0, rest.0);
        order = (refl, rest.1);
      }
  read_tells (m ∷ ms) h = absurd h.0

  -- behind the greeting
  pub read_answers : (ms : List Message) → AnswersOn n log ms → Answers came (all_read_of ms)
  read_answers [] h = record { each = tt; order = tt }
  read_answers (Text bytes ∷ ms) h = read_tells ms h.1
  read_answers (Pdu pdu ∷ ms) h = absurd (let e = h.0 in cc)
  read_answers (Packet m ∷ ms) h = absurd (let e = h.0 in cc)
