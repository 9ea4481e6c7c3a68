-- a response fits into the room in which it is written
use Rattle.std.proofs.Common.{◌≡◌, ℕ, ◌+◌, ◌^◌, ◌<◌, ◌≤◌, List, [], ◌∷◌, ◌++◌, length, take, drop, decimal, arith, sym, length-append}
use Rattle.std.proofs.lemmas.Fmt.{length-decimal-le}
use Rattle.std.proofs.lemmas.List.{append_assoc}
use Rattle.std.proofs.Math.Seq.{take-append_seam}
use Rattle.rh_http.specs.Texts.{response_text}
use Rattle.rh_rts.specs.Writing.{over}

pub response_fits : (n : ℕ) → n < 2 ^ 32 → length (response_text n) ≤ 84
unfolding response_text
response_fits n small =
    let digits =
    length-decimal-le 10 n (omega arith) (omega (arith, small)) (omega (arith, small)) in
    omega (arith, digits, length-append (decimal n) (13 ∷ 10 ∷ 13 ∷ 10 ∷ []))

-- a piece over what is behind a text stands behind the text
pub over_behind : (text behind piece room : List ℕ) (k : ℕ) → k ≡ length text
    → room ≡ text ++ behind → take (k + length piece) (over room k piece) ≡ text ++ piece
unfolding over
over_behind text behind piece room k e r =
    let front : take k room ≡ text = rw (r, e) (take-append_seam text behind) in
    by_front (drop (k + length piece) room) (take k room) front
    (rw e (sym (length-append text piece)))
  where
    by_front : (rest first : List ℕ) → first ≡ text → k + length piece ≡ length (text ++ piece)
        → take (k + length piece) (first ++ (piece ++ rest)) ≡ text ++ piece
    by_front rest first f size =
        rw (f, size, sym (append_assoc text piece rest)) (take-append_seam (text ++ piece) rest)
