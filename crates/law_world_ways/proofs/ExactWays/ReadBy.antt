-- which in proxy reads a channel: the last one up to the channel that has a leg to the server
use Rattle.law_order.proofs.Vocabulary.{◌≡◌, ◌≢◌, ◌⊎◌, ◌-◌, ◌==◌, ◌&&◌, ◌||◌, inl, inr, ℕ, zero, suc, Bool, true, false, List, arith, refl, sym, ap, ◌∙◌, if◌then◌else◌, cases_eq, eq-eqb, lt-ltb, reader}
use Rattle.law_moves.proofs.Vocabulary.{test_other}
use Rattle.law_node_history.proofs.Vocabulary.{reader_of}
use Rattle.law_node_traces.proofs.Vocabulary.{AreRead}
use Rattle.law_peers_routes.specs.Upwards.{has_leg}

module _ (readers : List ℕ) (made : ℕ → Bool) (are : AreRead readers made) where
  abbrev read : ℕ → ℕ
  read = reader_of readers

  pub read_by : (n : ℕ) → read n ≢ 0 → reader (has_leg read) n ≡ read n
  read_by zero some = absurd (some are.none)
  read_by (suc n) some = by (read_by n) (cases_eq (read (suc n)) (suc n))
    where
      tested : (a b : Bool) → (read (suc n) == suc n) ≡ a → (read (suc n) == 0) ≡ b
          → has_leg read (suc n) ≡ a || b
      tested a b p q =
          ap (λ (t : Bool). t && (read (suc n) == suc n || read (suc n) == 0))
          (lt-ltb 0 (suc n) (omega arith))
          ∙ ap (λ (t : Bool). t || (read (suc n) == 0)) p ∙ ap (λ (t : Bool). a || t) q

      before : read (suc n) ≢ suc n → read (suc n) ≡ read n
      before other = either (are.each (suc n) some).either
        where
          either : ((read (suc n) ≡ suc n) × (made (suc n) ≡ true))
              ⊎ (read (suc n) ≡ read (suc n - 1)) → read (suc n) ≡ read n
          either (inl own) = absurd (other own.0)
          either (inr same) = same ∙ ap read {x = suc n - 1} {y = n} (omega arith)

      by : (read n ≢ 0 → reader (has_leg read) n ≡ read n)
          → (read (suc n) ≡ suc n) ⊎ (read (suc n) ≢ suc n)
          → reader (has_leg read) (suc n) ≡ read (suc n)
      by back (inl own) =
          ap (λ (b : Bool). if b then suc n else reader (has_leg read) n)
          (tested true (read (suc n) == 0) (eq-eqb (read (suc n)) (suc n) own) refl)
          ∙ sym own
      by back (inr other) =
          ap (λ (b : Bool). if b then suc n else reader (has_leg read) n)
          (tested false false (test_other (read (suc n)) (suc n) other)
          (test_other (read (suc n)) 0 some))
          ∙ back (λ none. some (before other ∙ none)) ∙ sym (before other)
