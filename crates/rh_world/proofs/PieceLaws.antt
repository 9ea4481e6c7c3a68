-- laws of lists that lie end to end
use Rattle.std.proofs.Common.{◌≡◌, ℕ, ◌+◌, ◌≤◌, List, [], ◌∷◌, ◌++◌, take, drop, length, None, refl, sym, ap, arith}
use Rattle.std.specs.Prelude.{slice_get}
use Rattle.std.proofs.lemmas.List.{length-drop, take-append-le, drop-append-le, take_all, nil_from_length}
use Rattle.rh_world.specs.Pieces.{pieces, added}

-- a piece more at the end
pub pieces_push : (lengths bytes piece : List ℕ) (n : ℕ) → added lengths ≡ length bytes
    → length piece ≡ n
    → pieces (lengths ++ n ∷ []) (bytes ++ piece) ≡ pieces lengths bytes ++ piece ∷ []
pieces_push [] bytes piece n whole is =
    let none : bytes ≡ [] = nil_from_length bytes (sym whole) in
    let short : length piece ≤ n = omega arith in
    rw none (rw (take_all n piece short) refl)
pieces_push (m ∷ lengths) bytes piece n whole is =
    let fits : m ≤ length bytes = omega arith in
    rw (take-append-le m bytes piece fits, drop-append-le m bytes piece fits)
    (ap (λ ps. take m bytes ∷ ps) (pieces_push lengths (drop m bytes) piece n
    (omega (arith, length-drop m bytes)) is))

pub added_push : (lengths : List ℕ) (n : ℕ) → added (lengths ++ n ∷ []) ≡ added lengths + n
added_push [] n = omega arith
added_push (m ∷ lengths) n = omega (arith, added_push lengths n)

-- no lengths, no pieces
pub pieces_none : (lengths bytes : List ℕ) → slice_get lengths 0 ≡ None → pieces lengths bytes ≡ []
pieces_none [] bytes h = refl
pieces_none (n ∷ lengths) bytes h = absurd (cc)
