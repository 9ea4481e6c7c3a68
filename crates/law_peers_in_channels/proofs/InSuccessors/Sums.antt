-- sums over the first numbers, and numbers of readers
use Rattle.law_order.proofs.Vocabulary.{◌≡◌, ◌⊎◌, ℕ, zero, suc, ◌+◌, ◌<◌, ◌≤◌, nat_lt, Bool, true, false, inl, inr, refl, subst, arith, nat_tests}
use Rattle.law_moves.proofs.Lemmas.{sum_rises}
use Rattle.law_moves.proofs.Vocabulary.{sum_below}
use Rattle.law_peers_moments.specs.Moments.{ReadInTurn}
use Rattle.law_role_server_in.proofs.Tests.{at_least as not_below}

-- ---- sums

-- so much more at one number below
pub sum_more : (f g : ℕ → ℕ) (j more : ℕ) → ((k : ℕ) → f k ≤ g k) → f j + more ≤ g j
    → (n : ℕ) → j < n → sum_below f n + more ≤ sum_below g n
sum_more f g j more each here zero less = absurd (omega (arith, less))
sum_more f g j more each here (suc n) less =
    by (sum_more f g j more each here n) (nat_lt j n) refl
  where
    by : (j < n → sum_below f n + more ≤ sum_below g n) → (b : Bool) → nat_lt j n ≡ b
        → sum_below f (suc n) + more ≤ sum_below g (suc n)
    by before true e =
        let below : j < n = grind (arith, nat_tests, e) in
        let rest = before below in
        let one = each n in omega (arith, rest, one)
    by before false e =
        let same : j ≡ n = grind (arith, nat_tests, e, less) in
        let rest = sum_rises f g each n in
        let one : f n + more ≤ g n = subst (λ (k : ℕ). f k + more ≤ g k) same here in
        omega (arith, rest, one)

-- ---- readers

next_above : (k l : ℕ) → nat_lt k l ≡ true → l ≤ suc k → l ≡ suc k
next_above k l e most = grind (arith, nat_tests, e, most)

-- behind a channel that the in proxy of its number reads, none reads with a lower number
pub reader_behind : (reader : ℕ → ℕ) → ReadInTurn reader → (l : ℕ) → reader l ≡ l → (k : ℕ)
    → l ≤ k → (reader k ≡ 0) ⊎ (l ≤ reader k)
reader_behind reader turn l own zero most = inl turn.none
reader_behind reader turn l own (suc k) most =
    by (reader_behind reader turn l own k) (nat_lt k l) refl
  where
    Before : Type 0
    Before = l ≤ k → (reader k ≡ 0) ⊎ (l ≤ reader k)

    at_k : (reader (suc k) ≡ reader k) → (reader k ≡ 0) ⊎ (l ≤ reader k)
        → (reader (suc k) ≡ 0) ⊎ (l ≤ reader (suc k))
    at_k same (inl none) = inl (omega (arith, same, none))
    at_k same (inr least) = inr (omega (arith, same, least))

    next : Before → l ≤ k → (reader (suc k) ≡ 0) ⊎ ((reader (suc k) ≡ suc k)
        ⊎ (reader (suc k) ≡ reader k)) → (reader (suc k) ≡ 0) ⊎ (l ≤ reader (suc k))
    next before below (inl none) = inl none
    next before below (inr (inl is)) = inr (omega (arith, is, most))
    next before below (inr (inr same)) = at_k same (before below)

    by : Before → (b : Bool) → nat_lt k l ≡ b → (reader (suc k) ≡ 0) ⊎ (l ≤ reader (suc k))
    by before true e =
        let same = next_above k l e most in
        let at : reader (suc k) ≡ suc k = subst (λ (j : ℕ). reader j ≡ j) same own in
        inr (omega (arith, at, most))
    by before false e = next before (not_below k l e) (turn.next k)
