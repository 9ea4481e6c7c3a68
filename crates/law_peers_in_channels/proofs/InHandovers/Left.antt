-- where IN_R1/A5 came at an in proxy, the client put it, behind the answer for the successor
use Rattle.law_order.proofs.Vocabulary.{◌≡◌, ℕ, ◌+◌, ◌≤◌, true, List, [], ◌∷◌, inl, inr, refl, subst, arith, nat_tests}
use Rattle.law_moves.proofs.Vocabulary.{Cookie, Named, InR1A5, Message, Text, Pdu, Packet, Passage, of_leg, Has, HasBegunIn, HasOne, count_of}
use Rattle.law_role_inproxy.proofs.Vocabulary.{Leaves}
use Rattle.law_role_client.proofs.Vocabulary.{ci, ClientRole, is_among, is_in_r1_a5, once_if, NamesIns, ReplacesIns, in_answered, in_handed_over}
use Rattle.law_peers_in_channels.proofs.ServerExpects.Logs.{counted_some}

leaves_has : (successor : Cookie) (ms : List Message) → HasOne (Leaves successor) ms
    → Has (InR1A5 successor) ms
leaves_has successor [] h = absurd h
leaves_has successor (Text bytes ∷ ms) h = inr (leaves_has successor ms h)
leaves_has successor (Pdu pdu ∷ ms) h = inr (leaves_has successor ms h)
leaves_has successor (Packet (InR1A5 other) ∷ ms) (inl is) =
    subst (λ (c : Cookie). Has (InR1A5 c) (Packet (InR1A5 other) ∷ ms)) is (inl refl)
leaves_has successor (Packet m ∷ ms) (inl is) = absurd is
leaves_has successor (Packet m ∷ ms) (inr h) = inr (leaves_has successor ms h)

leaves_is : (successor : Cookie) (m : Named) → Leaves successor m → is_in_r1_a5 m ≡ true
leaves_is successor (InR1A5 other) is = refl
leaves_is successor m is = absurd is

among : (n k count : ℕ) → count ≡ once_if (is_among 1 k n) → 1 ≤ count → (1 ≤ n) × (n ≤ k)
among n k count e some =
    (grind (arith, nat_tests, e, some), grind (arith, nat_tests, e, some))

-- the channel is one that was answered, and the next one began under the cookie
pub record IsLeftFor (client : Passage ClientRole) (k : ℕ) (successor : Cookie) : Type 0 where
  pub least : 1 ≤ k
  pub answered : k ≤ in_answered client
  pub begun : HasBegunIn successor (of_leg (ci (k + 1)) client.put)

pub left_for : (connection : Cookie) (client : Passage ClientRole) → NamesIns connection client
    → ReplacesIns client → (k : ℕ) (successor : Cookie)
    → HasOne (Leaves successor) (of_leg (ci k) client.put) → IsLeftFor client k successor
left_for connection client names replaces k successor has =
    let within = among k (in_handed_over client) (count_of is_in_r1_a5 (of_leg (ci k) client.put))
    (replaces.hands_over_on (ci k))
    (counted_some (Leaves successor) is_in_r1_a5 (leaves_is successor)
    (of_leg (ci k) client.put) has) in
    let most = within.1 in
    let over = replaces.answered in
    record {
      least = within.0;
      answered = omega (arith, most, over);
      begun = names.hands_over k successor
          (leaves_has successor (of_leg (ci k) client.put) has);
    }
