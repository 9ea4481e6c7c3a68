-- what writes of a piece, one after the other, append
use Rattle.std.proofs.Common.{◌≡◌, ℕ, ◌+◌, ◌-◌, ◌≤◌, List, ◌++◌, length, take, drop, arith, ◌∙◌, sym, ap, subst}
use Rattle.std.proofs.lemmas.List.{take-append-drop, drop-drop, drop-take, take-take, length-drop}
use Rattle.std.proofs.KnownBytes.{Appends-trans}
use Rattle.std.specs.declared.option.Option.{Option}
use Rattle.std.specs.Io.KnownBytes.{Appends}

-- a longer front is a front and the front of what follows it
pub take-further : (p n : ℕ) (xs : List ℕ) → take (p + n) xs ≡ take p xs ++ take n (drop p xs)
take-further p n xs =
    let below : p ≤ p + n = omega arith in
    sym (take-append-drop p (take (p + n) xs))
    ∙ ap (λ ys. ys ++ drop p (take (p + n) xs)) (take-take p (p + n) xs below)
    ∙ ap (λ ys. take p xs ++ ys) (drop-take p n xs)

-- after a front of the piece, a front of its rest: together a longer front, and what is behind is
-- the rest
pub front-grows : (a b c : Option (List ℕ)) (piece rest behind : List ℕ) (n : ℕ)
    → n ≤ length rest → length rest ≤ length piece
    → rest ≡ drop (length piece - length rest) piece → behind ≡ drop n rest
    → Appends a b (take (length piece - length rest) piece) → Appends b c (take n rest)
    → (behind ≡ drop (length piece - length behind) piece)
    × Appends a c (take (length piece - length behind) piece)
front-grows a b c piece rest behind n fits shorter is_rest is_behind first second =
    let gone = length piece - length rest in
    let size : length behind ≡ length rest - n = ap length is_behind ∙ length-drop n rest in
    let sum : length piece - length behind ≡ gone + n = omega (arith, size, fits, shorter) in
    let joined : take gone piece ++ take n rest ≡ take (length piece - length behind) piece =
    ap (λ ys. take gone piece ++ take n ys) is_rest ∙ sym (take-further gone n piece)
    ∙ ap (λ k. take k piece) (sym sum) in
    let further : behind ≡ drop (gone + n) piece =
    is_behind ∙ ap (drop n) is_rest ∙ drop-drop n gone piece in (
      further ∙ ap (λ k. drop k piece) (sym sum),
      subst (Appends a c) joined (Appends-trans a b c _ _ first second),
    )
