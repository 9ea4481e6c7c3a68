-- the numbers of legs that are done are those below one that never falls
use Rattle.law_order.proofs.Vocabulary.{◌≡◌, ℕ, suc, ◌≤◌, Bool, true, false, nat_lt, arith, nat_tests}

-- the first number that is not finished
abbrev pub behind : Bool → ℕ → ℕ
behind true n = suc n
behind false n = n

pub below : (n k l : ℕ) → k ≤ l → nat_lt n k ≡ true → nat_lt n l ≡ true
below n k l le h = grind (arith, nat_tests)
