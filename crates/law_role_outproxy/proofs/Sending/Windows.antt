-- a send window, and what an acknowledgement does to it
use Rattle.law_order.proofs.Vocabulary.{◌≡◌, ◌⊎◌, ℕ, ◌+◌, ◌≤◌, ◌<◌, nat_lt, nat_le, Bool, true, false, inl, inr, if◌then◌else◌, Ok, Err, refl, ap, arith, rules, max, is_ok, Result, nat_tests}
use Rattle.law_moves.proofs.Vocabulary.{Sender, bad_ack, ack_verdict, after_acked, BadAck, GREATEST_WINDOW, by_test}

module _ (w : Sender) (received available : ℕ) where
  pub acked_sent : (after_acked w received available).sent ≡ w.sent
  acked_sent = search rules

  pub acked_rises : w.edge ≤ (after_acked w received available).edge
  acked_rises = search rules

  -- the edge before, or that of the acknowledgement
  abbrev IsEither : Sender → Type 0
  IsEither v = (v.edge ≡ w.edge) ⊎ (v.edge ≡ received + available)

  pub acked_edge : IsEither (after_acked w received available)
  acked_edge =
      by_test IsEither (is_ok (ack_verdict w received available)) greater w
      (λ e. by (nat_le w.edge (received + available)) refl) (λ e. inl refl)
    where
      greater : Sender
      greater = record w { edge = max w.edge (received + available) }

      by : (b : Bool) → nat_le w.edge (received + available) ≡ b → IsEither greater
      by true e = inr (grind (arith, nat_tests, e))
      by false e = inl (grind (arith, nat_tests, e))

  -- one that is refused changes nothing
  pub refused_same : (bad : BadAck) → ack_verdict w received available ≡ Err bad
      → after_acked w received available ≡ w
  refused_same bad e =
      ap (λ (v : Result (Unit {0}) BadAck).
      if is_ok v then record w { edge = max w.edge (received + available) } else w) e

  -- it is of more than was sent, or of too great a window
  abbrev pub IsFalse : Result (Unit {0}) BadAck → Type 0
  IsFalse (Ok acked) = Unit {0}
  IsFalse (Err bad) = (w.sent < received) ⊎ (GREATEST_WINDOW < available)

  pub verdict_false : IsFalse (ack_verdict w received available)
  verdict_false =
      by_test IsFalse (nat_lt w.sent received) (Err (bad_ack received)) _
      (λ e. inl (grind (arith, nat_tests, e)))
      (λ e. by_test IsFalse (nat_lt GREATEST_WINDOW available) (Err (bad_ack available)) (Ok tt)
      (λ f. inr (grind (arith, nat_tests, f))) (λ f. tt))
