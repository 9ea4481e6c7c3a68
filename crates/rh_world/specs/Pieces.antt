-- lists that lie end to end, beside their lengths
use Rattle.std.specs.Prelude.{ℕ, ◌≡◌, ◌+◌, ◌≤◌, List, [], ◌∷◌, take, drop, length}

-- the bytes cut into pieces of these lengths
abbrev pub pieces : List ℕ → List ℕ → List (List ℕ)
pieces [] bytes = []
pieces (n ∷ lengths) bytes = take n bytes ∷ pieces lengths (drop n bytes)

-- the lengths together
abbrev pub added : List ℕ → ℕ
added [] = 0
added (n ∷ lengths) = n + added lengths

-- the pieces are all the bytes, and both lists are within their rooms
pub record IsWhole (lengths bytes : List ℕ) (most_lengths most_bytes : ℕ) : Type 0 where
  pub whole : added lengths ≡ length bytes
  pub lengths_fit : length lengths ≤ most_lengths
  pub bytes_fit : length bytes ≤ most_bytes

-- PDUs in order, and how many bytes and PDUs more there is room for
pub record Received : Type 0 where
  pub pdus : List (List ℕ)
  pub room : ℕ
  pub places : ℕ
