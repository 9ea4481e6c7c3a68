-- the greatest edge of a channel that messages of a log tell, with one more
use Rattle.law_order.proofs.Vocabulary.{◌≡◌, ◌≤◌, max, List, [], ◌∷◌, ◌++◌, arith, nat_tests}
use Rattle.rh_shell.specs.Waiting.{Key}
use Rattle.law_moves.proofs.Vocabulary.{Due, OnLeg}
use Rattle.law_moves.specs.Merging.{greatest}
use Rattle.law_role_edges.specs.Passing.{greatest_in, told_in}

module _ (key : Key) where
  pub greatest_last : (log : List OnLeg) (one : OnLeg)
      → greatest_in key (log ++ one ∷ []) ≡ max (greatest_in key log) (told_in key one.1)
  greatest_last [] one = grind (arith, nat_tests)
  greatest_last (other ∷ log) one =
      let rest = greatest_last log one in grind (arith, nat_tests, rest)

  -- of those that came the greatest was put, or waits
  abbrev pub Keeps : List Due → List OnLeg → List OnLeg → Type 0
  Keeps dues came put = greatest_in key came ≤ max (greatest key dues) (greatest_in key put)

  -- no edge that waits falls, and what comes tells none that doesn't wait
  pub came_more : (low high : List Due) (came put : List OnLeg) (one : OnLeg)
      → greatest key low ≤ greatest key high → told_in key one.1 ≤ greatest key high
      → Keeps low came put → Keeps high (came ++ one ∷ []) put
  came_more low high came put one kept reached h =
      let last = greatest_last came one in grind (arith, nat_tests, last, kept, reached, h)

  pub kept_more : (low high : List Due) (came put : List OnLeg)
      → greatest key low ≤ greatest key high → Keeps low came put → Keeps high came put
  kept_more low high came put kept h = grind (arith, nat_tests, kept, h)

  -- more was put
  pub put_more : (dues : List Due) (came put : List OnLeg) (one : OnLeg) → Keeps dues came put
      → Keeps dues came (put ++ one ∷ [])
  put_more dues came put one h =
      let last = greatest_last put one in grind (arith, nat_tests, h, last)
