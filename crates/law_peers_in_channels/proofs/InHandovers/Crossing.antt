-- the move of an end by which a number rises
use Rattle.law_order.proofs.Vocabulary.{◌≡◌, ℕ, ◌<◌, ◌≤◌, Bool, true, false, List, [], ◌∷◌, ◌++◌, refl, ap, arith, nat_tests, nat_le}
use Rattle.law_moves.proofs.Vocabulary.{Rules, Acts, EndMove, EndPassage, end_moved, all_end_moved}

module _ {S : Type 0} (rules : Rules S) (acts : Acts S) where
  -- the move by which a number reaches another
  pub record Crossing (f : EndPassage S → ℕ) (n : ℕ) (p : EndPassage S) (moves : List EndMove)
      : Type 0 where
    pub front : List EndMove
    pub move : EndMove
    pub later : List EndMove
    pub is : moves ≡ front ++ move ∷ later
    pub below : f (all_end_moved rules acts p front) < n
    pub above : n ≤ f (end_moved rules acts (all_end_moved rules acts p front) move)

  pub crossing : (f : EndPassage S → ℕ) (n : ℕ) (p : EndPassage S) (moves : List EndMove)
      → f p < n → n ≤ f (all_end_moved rules acts p moves) → Crossing f n p moves
  crossing f n p [] below above = absurd (omega (arith, below, above))
  crossing f n p (move ∷ moves) below above =
      by (nat_le n (f (end_moved rules acts p move))) refl
      (crossing f n (end_moved rules acts p move) moves)
    where
      by : (b : Bool) → nat_le n (f (end_moved rules acts p move)) ≡ b
          → (f (end_moved rules acts p move) < n
          → n ≤ f (all_end_moved rules acts (end_moved rules acts p move) moves)
          → Crossing f n (end_moved rules acts p move) moves) → Crossing f n p (move ∷ moves)
      by true e rest = record {
        front = [];
        move = move;
        later = moves;
        is = refl;
        below = below;
        above = grind (arith, nat_tests, e);
      }
      by false e rest =
          let next = rest (grind (arith, nat_tests, e)) above in
          record {
            front = move ∷ next.front;
            move = next.move;
            later = next.later;
            is = ap (λ (ms : List EndMove). move ∷ ms) next.is;
            below = next.below;
            above = next.above;
          }
