-- where each proxy puts no more than came to it, no more comes at the end of a way than was put at
-- its beginning
use Rattle.law_order.proofs.Vocabulary.{◌≡◌, ℕ, zero, suc, ◌+◌, ◌≤◌, ◌==◌, nat_lt, Bool, true, false, if◌then◌else◌, List, arith, refl, sym, subst, nat_tests}
use Rattle.law_moves.proofs.Vocabulary.{Named, LegKind, ClientIn, InServer, OnLeg, sum_below, count_on}
use Rattle.law_moves.proofs.Chains.Summing.{sum_rises, some_legs, all_legs}
use Rattle.law_moves.specs.Chains.Ways.{total}

-- ---- by proxies of one leg to each side

-- on each leg of a kind no more came than was put at the other end, by the proxy of that number
module _ (before behind : Named → Bool) (from to : LegKind) (came put : List OnLeg)
    (proxy_came proxy_put : ℕ → List OnLeg) where
  -- to one end by proxies, of which each puts no more than came, from another end
  pub by_proxies : ((n : ℕ) → count_on behind to came n ≤ count_on behind to (proxy_put n) n)
      → ((n : ℕ) → count_on behind to (proxy_put n) n ≤ count_on before from (proxy_came n) n)
      → ((n : ℕ) → count_on before from (proxy_came n) n ≤ count_on before from put n)
      → total behind to came ≤ total before from put
  by_proxies last passes first =
      let legs = all_legs behind to came in
      let all = legs.all legs.bound (omega arith) in
      let each = sum_rises (count_on behind to came) (count_on before from put)
      (λ n. let a = last n in let b = passes n in let c = first n in omega (arith, a, b, c))
      legs.bound in
      let some = some_legs before from put legs.bound in
      omega (arith, all, each, some)

-- ---- by in proxies, which read several channels of the client

-- what is put on a channel, at its reader
abbrev pub at_reader : (ℕ → ℕ) → (ℕ → ℕ) → ℕ → ℕ → ℕ
at_reader reader f m n = if reader n == m then f n else 0

one_reader : (reader f : ℕ → ℕ) (m n : ℕ)
    → sum_below (λ k. at_reader reader f k n) m ≤ (if nat_lt (reader n) m then f n else 0)
one_reader reader f zero n = omega arith
one_reader reader f (suc m) n =
    let rest = one_reader reader f m n in grind (arith, nat_tests, rest)

pub sum_plus : (f g : ℕ → ℕ) (n : ℕ)
    → sum_below (λ k. f k + g k) n ≡ sum_below f n + sum_below g n
sum_plus f g zero = omega arith
sum_plus f g (suc n) = let rest = sum_plus f g n in omega (arith, rest)

pub zeros : (n : ℕ) → sum_below (λ k. 0) n ≡ 0
zeros zero = omega arith
zeros (suc n) = let rest = zeros n in omega (arith, rest)

-- the sum over two numbers, in the other order
swapped : (f : ℕ → ℕ → ℕ) (m n : ℕ)
    → sum_below (λ j. sum_below (λ k. f j k) n) m ≡ sum_below (λ k. sum_below (λ j. f j k) m) n
swapped f zero n = let none = zeros n in omega (arith, none)
swapped f (suc m) n =
    let rest = swapped f m n in
    let plus = sum_plus (λ k. sum_below (λ j. f j k) m) (λ k. f m k) n in
    omega (arith, rest, plus)

-- the sums of two functions that are within each other below a number
sum_below_rises : (f g : ℕ → ℕ) (n : ℕ) → ((k : ℕ) → suc k ≤ n → f k ≤ g k)
    → sum_below f n ≤ sum_below g n
sum_below_rises f g zero each = omega arith
sum_below_rises f g (suc n) each =
    let rest = sum_below_rises f g n (λ k l. each k (omega (arith, l))) in
    let one = each n (omega arith) in
    omega (arith, rest, one)

-- what came to each of so many proxies, on legs below some number
module _ (test : Named → Bool) (kind : LegKind) (came : ℕ → List OnLeg) where
  abbrev bound_of : ℕ → ℕ
  bound_of m = (all_legs test kind (came m)).bound

  pub record AllBounded (m : ℕ) : Type 0 where
    pub bound : ℕ
    pub each : (k : ℕ) → suc k ≤ m → bound_of k ≤ bound

  one_more_bounded : (m : ℕ) → AllBounded m → AllBounded (suc m)
  one_more_bounded m before = record {
    bound = before.bound + bound_of m;
    each = λ k l. by k l (k == m) refl;
  }
    where
      by : (k : ℕ) → suc k ≤ suc m → (b : Bool) → (k == m) ≡ b
          → bound_of k ≤ before.bound + bound_of m
      by k l true e =
          let same : k ≡ m = grind (arith, nat_tests, e) in
          subst (λ (j : ℕ). bound_of j ≤ before.bound + bound_of m) (sym same) (omega arith)
      by k l false e =
          let less : suc k ≤ m = grind (arith, nat_tests, e, l) in
          let one = before.each k less in
          omega (arith, one)

  all_bounded : (m : ℕ) → AllBounded m
  all_bounded zero = record { bound = 0; each = λ k l. absurd (omega (arith, l)) }
  all_bounded (suc m) = one_more_bounded m (all_bounded m)

module _ (before behind : Named → Bool) (came put : List OnLeg)
    (proxy_came proxy_put : ℕ → List OnLeg) (reader : ℕ → ℕ) where
  -- to the server by in proxies, of which each puts no more than came to it on all its channels
  pub by_in_proxies :
      ((n : ℕ) → count_on behind InServer came n ≤ count_on behind InServer (proxy_put n) n)
      → ((n : ℕ) → count_on behind InServer (proxy_put n) n
      ≤ total before ClientIn (proxy_came n))
      → ((m n : ℕ) → count_on before ClientIn (proxy_came m) n
      ≤ at_reader reader (count_on before ClientIn put) m n)
      → total behind InServer came ≤ total before ClientIn put
  by_in_proxies last passes first =
      let legs = all_legs behind InServer came in
      let all = legs.all legs.bound (omega arith) in
      let m = legs.bound in
      let most = all_bounded before ClientIn proxy_came m in
      let n = most.bound in
      let f = count_on before ClientIn put in
      let each = sum_below_rises (count_on behind InServer came)
      (λ j. sum_below (λ k. at_reader reader f j k) n) m
      (λ j l.
      let a = last j in
      let b = passes j in
      let c = (all_legs before ClientIn (proxy_came j)).all n (most.each j l) in
      let d = sum_rises (count_on before ClientIn (proxy_came j))
      (λ k. at_reader reader f j k) (λ k. first j k) n in
      omega (arith, a, b, c, d)) in
      let swap = swapped (at_reader reader f) m n in
      let one = sum_rises (λ k. sum_below (λ j. at_reader reader f j k) m) f
      (λ k. let r = one_reader reader f m k in grind (arith, nat_tests, r)) n in
      let some = some_legs before ClientIn put n in
      omega (arith, all, each, swap, one, some)
