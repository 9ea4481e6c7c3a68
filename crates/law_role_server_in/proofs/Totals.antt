-- what comes on each is leg, and what comes on all of them
use Rattle.law_order.proofs.Vocabulary.{◌≡◌, ℕ, zero, suc, ◌+◌, ◌≤◌, ◌<◌, ◌==◌, nat_lt, Bool, true, false, if◌then◌else◌, List, [], ◌∷◌, arith, refl, sym, ap, ◌∙◌, subst, nat_tests}
use Rattle.law_moves.proofs.Vocabulary.{other_number, same_number, test_other, test_same, Named, LegKind, ClientOut, OutServer, ClientIn, InServer, Message, sum_below, count_of, of_kind, OnLeg, of_leg}
use Rattle.law_moves.proofs.Lemmas.{count_append, zeros as sum_none}
use Rattle.law_role_server.proofs.Vocabulary.{leg_at, often, often_at}

-- ---- sums

pub sum_same : (f g : ℕ → ℕ) (n : ℕ) → ((k : ℕ) → k < n → g k ≡ f k)
    → sum_below g n ≡ sum_below f n
sum_same f g zero same = refl
sum_same f g (suc n) same =
    let rest = sum_same f g n (λ k less. same k (omega (arith, less))) in
    let here = same n (omega arith) in omega (arith, rest, here)

-- more at one number
pub sum_more : (f g : ℕ → ℕ) (j more : ℕ) → g j ≡ f j + more
    → ((k : ℕ) → (k ≡ j → ⊥) → g k ≡ f k) → (n : ℕ) → j < n
    → sum_below g n ≡ sum_below f n + more
sum_more f g j more here other zero less = absurd (omega (arith, less))
sum_more f g j more here other (suc n) less =
    by (λ below. sum_more f g j more here other n below) (j == n) refl
  where
    by : (j < n → sum_below g n ≡ sum_below f n + more) → (b : Bool) → (j == n) ≡ b
        → sum_below g (suc n) ≡ sum_below f (suc n) + more
    by rest true e =
        let is = same_number j n e in
        let now = subst (λ (k : ℕ). g k ≡ f k + more) is here in
        let before = sum_same f g n (λ k below. other k (λ same. omega (arith, is, same, below))) in
        omega (arith, now, before)
    by rest false e =
        let apart = other_number j n e in
        let before = rest (omega (arith, apart, less)) in
        let now = other n (λ same. apart (sym same)) in omega (arith, now, before)

-- ---- logs

-- no leg of a log has this number, or a greater one
abbrev pub above : List OnLeg → ℕ
above [] = 0
above (one ∷ log) = one.0.number + 1 + above log

module _ (test : Named → Bool) where
  abbrev ons : List OnLeg → ℕ → ℕ
  ons log = λ k. often_at test InServer k log

  -- a message more in front
  first_on : (j : ℕ) (m : Message) (log : List OnLeg)
      → ons ((leg_at InServer j, m) ∷ log) j ≡ ons log j + count_of test (m ∷ [])
  first_on j m log =
      let here = ap (λ (b : Bool). count_of test
      (if b then m ∷ of_leg (leg_at InServer j) log else of_leg (leg_at InServer j) log))
      (test_same j) in
      let both = count_append test (m ∷ []) (of_leg (leg_at InServer j) log) in
      omega (arith, here, both)

  first_off : (j : ℕ) (m : Message) (log : List OnLeg) (k : ℕ) → (k ≡ j → ⊥)
      → ons ((leg_at InServer j, m) ∷ log) k ≡ ons log k
  first_off j m log k apart =
      ap (λ (b : Bool). count_of test
      (if b then m ∷ of_leg (leg_at InServer k) log else of_leg (leg_at InServer k) log))
      (test_other j k (λ same. apart (sym same)))

  pub none_above : (log : List OnLeg) (k : ℕ) → above log ≤ k → ons log k ≡ 0
  none_above [] k high = refl
  none_above ((leg, m) ∷ log) k high =
      by leg.kind (none_above log k (omega (arith, high)))
    where
      by : (kind : LegKind) → ons log k ≡ 0 → ons ((leg_at kind leg.number, m) ∷ log) k ≡ 0
      by InServer none =
          first_off leg.number m log k (λ same. omega (arith, same, high)) ∙ none
      by OutServer none = none
      by ClientIn none = none
      by ClientOut none = none

  -- below a number from which on no leg has any
  pub sum_often : (n : ℕ) (log : List OnLeg) → ((k : ℕ) → n ≤ k → ons log k ≡ 0)
      → sum_below (ons log) n ≡ often test InServer log
  sum_often n [] none = sum_none n
  sum_often n ((leg, m) ∷ log) none = by leg.kind none (λ fewer. sum_often n log fewer)
    where
      Rest : Type 0
      Rest = ((k : ℕ) → n ≤ k → ons log k ≡ 0)
          → sum_below (ons log) n ≡ often test InServer log

      j : ℕ
      j = leg.number

      more : ℕ
      more = count_of test (m ∷ [])

      fewer : ((k : ℕ) → n ≤ k → ons ((leg_at InServer j, m) ∷ log) k ≡ 0)
          → (k : ℕ) → n ≤ k → (b : Bool) → (k == j) ≡ b → ons log k ≡ 0
      fewer none k high true e =
          let is = same_number k j e in
          let first = first_on j m log in
          let nothing = none j (omega (arith, is, high)) in
          subst (λ (i : ℕ). ons log i ≡ 0) (sym is) (omega (arith, first, nothing))
      fewer none k high false e =
          let nothing = none k high in
          let same = first_off j m log k (other_number k j e) in omega (arith, same, nothing)

      adds : ((k : ℕ) → n ≤ k → ons ((leg_at InServer j, m) ∷ log) k ≡ 0)
          → (b : Bool) → nat_lt j n ≡ b
          → sum_below (ons ((leg_at InServer j, m) ∷ log)) n ≡ sum_below (ons log) n + more
      adds none true e =
          sum_more (ons log) (ons ((leg_at InServer j, m) ∷ log)) j more (first_on j m log)
          (λ k apart. first_off j m log k apart) n (grind (arith, nat_tests))
      adds none false e =
          let high : n ≤ j = grind (arith, nat_tests) in
          let first = first_on j m log in
          let nothing = none j high in
          let same = sum_same (ons log) (ons ((leg_at InServer j, m) ∷ log)) n
          (λ k less. first_off j m log k (λ is. omega (arith, is, less, high))) in
          omega (arith, first, nothing, same)

      by : (kind : LegKind)
          → ((k : ℕ) → n ≤ k → ons ((leg_at kind j, m) ∷ log) k ≡ 0) → Rest
          → sum_below (ons ((leg_at kind j, m) ∷ log)) n
          ≡ often test InServer ((leg_at kind j, m) ∷ log)
      by InServer none rest =
          let sum = adds none (nat_lt j n) refl in
          let before = rest (λ k high. fewer none k high (k == j) refl) in
          let both = count_append test (m ∷ []) (of_kind InServer log) in
          omega (arith, sum, before, both)
      by OutServer none rest = rest none
      by ClientIn none rest = rest none
      by ClientOut none rest = rest none

  pub sum_all : (log : List OnLeg) → sum_below (ons log) (above log) ≡ often test InServer log
  sum_all log = sum_often (above log) log (none_above log)
