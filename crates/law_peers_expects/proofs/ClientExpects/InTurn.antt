-- where a packet stands once on each leg from the first on, as far as it came and as far as it was
-- put, the next is on a leg behind those that came
use Rattle.law_order.proofs.Vocabulary.{◌≡◌, ℕ, ◌+◌, ◌<◌, ◌≤◌, nat_lt, Bool, true, false, List, refl, arith, nat_tests}
use Rattle.law_moves.proofs.Vocabulary.{Named, ClientOut, OutServer, OnLeg, count_on}
use Rattle.law_role_client.proofs.Vocabulary.{co, StandsOnEach, is_among, once_if, total}
use Rattle.law_role_server.proofs.Vocabulary.{IsOnEachFrom, often}

none_among : (count n : ℕ) → 1 ≤ n → once_if (is_among 1 count n) ≡ 0 → count + 1 ≤ n
none_among count n least none = grind (arith, nat_tests, least, none)

module _ (behind before : Named → Bool) (came put : List OnLeg) where
  pub record IsBehind (n : ℕ) : Type 0 where
    pub those : total behind ClientOut came + 1 ≤ n
    pub within : n ≤ often before OutServer put

  module _ (stands : StandsOnEach behind ClientOut 1 came)
      (each : IsOnEachFrom 1 before OutServer put) where
    pub is_behind : (n : ℕ)
        → count_on behind ClientOut came n + 1 ≤ count_on before OutServer put n → IsBehind n
    is_behind n more = by (nat_lt n 1) refl (nat_lt n (1 + often before OutServer put)) refl
      where
        by : (a : Bool) → nat_lt n 1 ≡ a → (b : Bool)
            → nat_lt n (1 + often before OutServer put) ≡ b → IsBehind n
        by true low b e =
            let less : n < 1 = grind (arith, nat_tests, low) in
            let none = each.before n less in absurd (omega (arith, none, more))
        by false low false high =
            let over : 1 + often before OutServer put ≤ n = grind (arith, nat_tests, high) in
            let none = each.behind n over in absurd (omega (arith, none, more))
        by false low true high =
            let least : 1 ≤ n = grind (arith, nat_tests, low) in
            let less : n < 1 + often before OutServer put = grind (arith, nat_tests, high) in
            let one = each.each n least less in
            let here : count_on behind ClientOut came n
            ≡ once_if (is_among 1 (total behind ClientOut came) n) = stands (co n) in
            let none : once_if (is_among 1 (total behind ClientOut came) n) ≡ 0 =
            omega (arith, one, here, more) in
            record {
              those = none_among (total behind ClientOut came) n least none;
              within = omega (arith, less);
            }
