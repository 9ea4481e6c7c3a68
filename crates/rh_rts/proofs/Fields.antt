-- a number and a list that are read are what stands there
use Rattle.std.proofs.Common.{◌≡◌, ℕ, ◌+◌, ◌^◌, ◌<◌, ◌≤◌, List, ◌++◌, length, take, drop, refl, sym}
use Rattle.std.proofs.Common.{ap, ◌∙◌, arith, inl, inr}
use Rattle.std.specs.Int.{w32, from_le_bytes, to_le_bytes}
use Rattle.std.proofs.lemmas.Bool.{cases_lt}
use Rattle.std.proofs.lemmas.List.{take-append-drop, length-take, length-take-le, get_or-drop}
use Rattle.std.proofs.lemmas.List.{get_or-take, get_or_past, drop-drop, length-drop}
use Rattle.std.proofs.lemmas.Nat.{le_bytes_4, from_le_bytes-to_le_bytes_4}
use Rattle.rh_rts.specs.Commands.{le4, IsBytes}
use Rattle.rh_rts.specs.Refusals.{number_of, type_of, field_of}

pub IsBytes-drop : (n : ℕ) (bytes : List ℕ) → IsBytes bytes → IsBytes (drop n bytes)
IsBytes-drop n bytes h i = rw get_or-drop (h (n + i))

pub IsBytes-take : (n : ℕ) (bytes : List ℕ) → IsBytes bytes → IsBytes (take n bytes)
IsBytes-take n bytes h i =
    elim (cases_lt i n) [
      | inl lt ↦ rw (get_or-take n bytes i 0 lt) (h i)
      | inr le ↦ rw (get_or_past (take n bytes) i 0 (omega (arith, length-take n bytes)))
          (omega arith)
    ]

-- a list is its front and its rest
pub front : (n : ℕ) (b : List ℕ) → b ≡ take n b ++ drop n b
front n b = sym (take-append-drop n b)

-- four bytes spell the number that they are
pub number_front : (b : List ℕ) → IsBytes b → 4 ≤ length b → b ≡ le4 (number_of b) ++ drop 4 b
number_front b fits long =
    front 4 b ∙ ap (λ (x : List ℕ). x ++ drop 4 b)
    (sym (le_bytes_4 (take 4 b) (number_of b) (length-take-le 4 b long)
    (IsBytes-take 4 b fits) refl))

pub number_below : (b : List ℕ) → IsBytes b → number_of b < 2 ^ 32
number_below b fits =
    let t = IsBytes-take 4 b fits in omega (arith, t 0, t 1, t 2, t 3)

-- the type and the number behind it
pub two_front : (k : ℕ) (b : List ℕ) → IsBytes b → type_of b ≡ k → 8 ≤ length b
    → b ≡ le4 k ++ (le4 (field_of b) ++ drop 8 b)
two_front k b fits e long =
    let first = number_front b fits (omega arith) in
    let second = number_front (drop 4 b) (IsBytes-drop 4 b fits) (omega (arith, length-drop 4 b)) in
    first ∙ ap (λ (x : List ℕ). le4 (type_of b) ++ x)
    (second ∙ ap (λ (x : List ℕ). le4 (field_of b) ++ x) (drop-drop 4 4 b))
    ∙ ap (λ (n : ℕ). le4 n ++ (le4 (field_of b) ++ drop 8 b)) e

-- the number that was written
pub number_again : (n : ℕ) → n < 2 ^ 32 → from_le_bytes w32 (to_le_bytes w32 n) ≡ n
number_again n fits = from_le_bytes-to_le_bytes_4 n fits
