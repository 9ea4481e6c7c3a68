-- the text by groups is the text by places
use Rattle.std.proofs.Common.{◌≡◌, ℕ, ◌+◌, ◌<◌, List, [], ◌∷◌, length, drop, refl, sym, ap, ◌∙◌}
use Rattle.std.proofs.Common.{arith, slice_index}
use Rattle.std.proofs.lemmas.List.{drop_more, drop_all}
use Rattle.uuid.specs.Text.{hyphenated_text, lower, by_index}
use Rattle.rh_sig.specs.Cookies.{text_of_cookie}

-- the text of sixteen bytes, each digit in its place
at_places : (a b c d e f g h i j k l m n o p : ℕ)
    → hyphenated_text lower (a ∷ b ∷ c ∷ d ∷ e ∷ f ∷ g ∷ h ∷ i ∷ j ∷ k ∷ l ∷ m ∷ n ∷ o ∷ p ∷ [])
    ≡ text_of_cookie (a ∷ b ∷ c ∷ d ∷ e ∷ f ∷ g ∷ h ∷ i ∷ j ∷ k ∷ l ∷ m ∷ n ∷ o ∷ p ∷ [])
unfolding text_of_cookie by_index
at_places a b c d e f g h i j k l m n o p = refl

-- the list from a place on, where it is known from the next one on
from : (b rest : List ℕ) (i : ℕ) → i < length b → drop (i + 1) b ≡ rest
    → drop i b ≡ slice_index b i ∷ rest
from b rest i inside is = drop_more b i 0 inside ∙ ap (λ (x : List ℕ). slice_index b i ∷ x) is

-- a list of sixteen is its elements
sixteen : (b : List ℕ) → length b ≡ 16
    → b ≡ slice_index b 0 ∷ slice_index b 1 ∷ slice_index b 2 ∷ slice_index b 3
    ∷ slice_index b 4 ∷ slice_index b 5 ∷ slice_index b 6 ∷ slice_index b 7
    ∷ slice_index b 8 ∷ slice_index b 9 ∷ slice_index b 10 ∷ slice_index b 11
    ∷ slice_index b 12 ∷ slice_index b 13 ∷ slice_index b 14 ∷ slice_index b 15 ∷ []
sixteen b is =
    let e16 : drop 16 b ≡ [] = drop_all 16 b (omega (arith, is)) in
    let e15 = from b _ 15 (omega (arith, is)) e16 in
    let e14 = from b _ 14 (omega (arith, is)) e15 in
    let e13 = from b _ 13 (omega (arith, is)) e14 in
    let e12 = from b _ 12 (omega (arith, is)) e13 in
    let e11 = from b _ 11 (omega (arith, is)) e12 in
    let e10 = from b _ 10 (omega (arith, is)) e11 in
    let e9 = from b _ 9 (omega (arith, is)) e10 in
    let e8 = from b _ 8 (omega (arith, is)) e9 in
    let e7 = from b _ 7 (omega (arith, is)) e8 in
    let e6 = from b _ 6 (omega (arith, is)) e7 in
    let e5 = from b _ 5 (omega (arith, is)) e6 in
    let e4 = from b _ 4 (omega (arith, is)) e5 in
    let e3 = from b _ 3 (omega (arith, is)) e4 in
    let e2 = from b _ 2 (omega (arith, is)) e3 in
    let e1 = from b _ 1 (omega (arith, is)) e2 in
    let e0 = from b _ 0 (omega (arith, is)) e1 in
    e0

pub by_places : (bytes : List ℕ) → length bytes ≡ 16
    → hyphenated_text lower bytes ≡ text_of_cookie bytes
by_places b is =
    let e = sixteen b is in
    ap (λ (x : List ℕ). hyphenated_text lower x) e
    ∙ at_places (slice_index b 0) (slice_index b 1) (slice_index b 2) (slice_index b 3)
    (slice_index b 4) (slice_index b 5) (slice_index b 6) (slice_index b 7)
    (slice_index b 8) (slice_index b 9) (slice_index b 10) (slice_index b 11)
    (slice_index b 12) (slice_index b 13) (slice_index b 14) (slice_index b 15)
    ∙ ap text_of_cookie (sym e)
