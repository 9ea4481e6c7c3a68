-- a message more that is known, and a greater edge
use Rattle.law_order.proofs.Vocabulary.{◌≡◌, ℕ, ◌≤◌, ◌+◌, List, [], ◌∷◌, ◌++◌, Ok, Err, ap, arith, rules, if◌then◌else◌, is_ok, max, AllByRecursion, Result, nat_tests}
use Rattle.law_moves.proofs.Vocabulary.{Sender, after_acked, ack_verdict, BadAck, Message, Named, Text, Pdu, Packet, OnLeg}
use Rattle.law_moves.proofs.Lemmas.{all_append, each_so}
use Rattle.law_role_edges.specs.Edges.{IsWithin}

pub within_more : (told : Named → ℕ) (low high : ℕ) (m : Message) → low ≤ high
    → IsWithin told low m → IsWithin told high m
within_more told low high (Text bytes) more is = tt
within_more told low high (Pdu bytes) more is = tt
within_more told low high (Packet named) more is = omega (arith, more, is)

-- what was known by one edge is known by another one, and so is one more
pub known_then : (Low High : OnLeg → Type 0) (came : List OnLeg) (one : OnLeg)
    → ((other : OnLeg) → Low other → High other) → AllByRecursion Low came → High one
    → AllByRecursion High (came ++ one ∷ [])
known_then Low High came one more all last =
    all_append High came (one ∷ []) (each_so Low High more came all) (last, tt)

-- ---- an acknowledgement

module _ (w : Sender) (received available : ℕ) where
  pub acked_rises : w.edge ≤ (after_acked w received available).edge
  acked_rises = search rules

  pub acked_known : ack_verdict w received available ≡ Ok tt
      → received + available ≤ (after_acked w received available).edge
  acked_known fine = grind (arith, nat_tests, fine)

  -- one that is refused changes nothing
  pub refused_same : (bad : BadAck) → ack_verdict w received available ≡ Err bad
      → after_acked w received available ≡ w
  refused_same bad e =
      ap (λ (v : Result (Unit {0}) BadAck).
      if is_ok v then record w { edge = max w.edge (received + available) } else w) e
