-- a log in two parts: what stands on some legs, and what stands on the others
use Rattle.law_order.proofs.Vocabulary.{◌≡◌, ℕ, ◌+◌, Bool, true, false, not, if◌then◌else◌, List, [], ◌∷◌, arith, refl, sym, ap, ◌∙◌, nat_tests}
use Rattle.law_moves.proofs.Vocabulary.{Named, Leg, LegKind, Message, is_of, same_leg, OnLeg, of_leg, count_of, of_kind}
use Rattle.law_moves.proofs.Lemmas.{count_append, leg_is}

abbrev pub keep : (Leg → Bool) → List OnLeg → List OnLeg
keep test [] = []
keep test (one ∷ log) = if test one.0 then one ∷ keep test log else keep test log

-- ---- a leg

module _ (leg : Leg) (one : OnLeg) where
  pub on_here : (log : List OnLeg) → same_leg one.0 leg ≡ true
      → of_leg leg (one ∷ log) ≡ one.1 ∷ of_leg leg log
  on_here log e = ap (λ (b : Bool). if b then one.1 ∷ of_leg leg log else of_leg leg log) e

  pub on_other : (log : List OnLeg) → same_leg one.0 leg ≡ false
      → of_leg leg (one ∷ log) ≡ of_leg leg log
  on_other log e = ap (λ (b : Bool). if b then one.1 ∷ of_leg leg log else of_leg leg log) e

module _ (test : Leg → Bool) where
  kept : (one : OnLeg) (log : List OnLeg) → test one.0 ≡ true
      → keep test (one ∷ log) ≡ one ∷ keep test log
  kept one log e = ap (λ (b : Bool). if b then one ∷ keep test log else keep test log) e

  dropped : (one : OnLeg) (log : List OnLeg) → test one.0 ≡ false
      → keep test (one ∷ log) ≡ keep test log
  dropped one log e = ap (λ (b : Bool). if b then one ∷ keep test log else keep test log) e

  pub keep_on : (leg : Leg) (log : List OnLeg)
      → of_leg leg (keep test log) ≡ (if test leg then of_leg leg log else [])
  keep_on leg [] = by (test leg)
    where
      none : List Message
      none = []

      by : (b : Bool) → none ≡ (if b then none else none)
      by true = refl
      by false = refl
  keep_on leg (one ∷ log) = by (same_leg one.0 leg) refl (test leg) refl (keep_on leg log)
    where
      other : same_leg one.0 leg ≡ false → (b : Bool) → test one.0 ≡ b
          → of_leg leg (keep test (one ∷ log)) ≡ of_leg leg (keep test log)
      other e true f = ap (of_leg leg) (kept one log f) ∙ on_other leg one (keep test log) e
      other e false f = ap (of_leg leg) (dropped one log f)

      by : (t : Bool) → same_leg one.0 leg ≡ t → (c : Bool) → test leg ≡ c
          → of_leg leg (keep test log) ≡ (if c then of_leg leg log else [])
          → of_leg leg (keep test (one ∷ log)) ≡ (if c then of_leg leg (one ∷ log) else [])
      by true e true f rest =
          ap (of_leg leg) (kept one log (ap test (leg_is one.0 leg e) ∙ f))
          ∙ on_here leg one (keep test log) e
          ∙ ap (λ (ms : List Message). one.1 ∷ ms) rest
          ∙ sym (on_here leg one log e)
      by true e false f rest =
          ap (of_leg leg) (dropped one log (ap test (leg_is one.0 leg e) ∙ f)) ∙ rest
      by false e c f rest =
          other e (test one.0) refl
          ∙ rest
          ∙ ap (λ (ms : List Message). if c then ms else []) (sym (on_other leg one log e))

-- ---- all legs of a kind

module _ (counts : Named → Bool) (kind : LegKind) where
  abbrev pub total : List OnLeg → ℕ
  total log = count_of counts (of_kind kind log)

  first_more : (one : OnLeg) (log : List OnLeg) → total (one ∷ log) ≡ total (one ∷ []) + total log
  first_more one log = by (is_of kind one.0)
    where
      by : (b : Bool)
          → count_of counts (if b then one.1 ∷ of_kind kind log else of_kind kind log)
          ≡ count_of counts (if b then one.1 ∷ [] else []) + total log
      by true = count_append counts (one.1 ∷ []) (of_kind kind log)
      by false = omega arith

  pub keep_both : (test : Leg → Bool) (log : List OnLeg)
      → total log ≡ total (keep test log) + total (keep (λ leg. not (test leg)) log)
  keep_both test [] = refl
  keep_both test (one ∷ log) = by (keep_both test log) (test one.0)
    where
      by : total log ≡ total (keep test log) + total (keep (λ leg. not (test leg)) log)
          → (b : Bool) → total (one ∷ log)
          ≡ total (if b then one ∷ keep test log else keep test log)
          + total (if not b then one ∷ keep (λ leg. not (test leg)) log
          else keep (λ leg. not (test leg)) log)
      by rest true =
          let a = first_more one log in
          let b = first_more one (keep test log) in
          omega (arith, rest, a, b)
      by rest false =
          let a = first_more one log in
          let b = first_more one (keep (λ leg. not (test leg)) log) in
          omega (arith, rest, a, b)

  -- of one leg
  pub keep_leg : (n : ℕ) (log : List OnLeg)
      → of_kind kind (keep (λ leg. same_leg leg (record { kind = kind; number = n })) log)
      ≡ of_leg (record { kind = kind; number = n }) log
  keep_leg n [] = refl
  keep_leg n (one ∷ log) = by (keep_leg n log) (same_leg one.0 leg) refl
    where
      leg : Leg
      leg = record { kind = kind; number = n }

      by : of_kind kind (keep (λ l. same_leg l leg) log) ≡ of_leg leg log
          → (b : Bool) → same_leg one.0 leg ≡ b
          → of_kind kind (if b then one ∷ keep (λ l. same_leg l leg) log
          else keep (λ l. same_leg l leg) log)
          ≡ (if b then one.1 ∷ of_leg leg log else of_leg leg log)
      by rest true e =
          let is : is_of kind one.0 ≡ true = grind (arith, nat_tests, e) in
          ap (λ (t : Bool). if t then one.1 ∷ of_kind kind (keep (λ l. same_leg l leg) log)
          else of_kind kind (keep (λ l. same_leg l leg) log)) is
          ∙ ap (λ (ms : List Message). one.1 ∷ ms) rest
      by rest false e = rest
