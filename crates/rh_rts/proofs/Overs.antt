-- pieces written one behind the other
use Rattle.std.proofs.Common.{◌≡◌, ℕ, ◌+◌, ◌≤◌, List, [], ◌++◌, length, take, drop, sym, ap, ◌∙◌}
use Rattle.std.proofs.Common.{arith, append_assoc}
use Rattle.std.proofs.lemmas.List.{take_at, drop_at, drop-drop, length-append, length-take-le}
use Rattle.std.proofs.lemmas.List.{take-append-drop}
use Rattle.rh_rts.specs.Writing.{over}

-- two pieces are one
pub over_over : (room : List ℕ) (at : ℕ) (a b : List ℕ) (k : ℕ) → k ≡ at + length a
    → at ≤ length room
    → over (over room at a) k b ≡ over room at (a ++ b)
unfolding over
over_over room at a b k e fits =
    let front = take at room ++ a in
    let behind = drop (at + length a) room in
    let all = take at room ++ (a ++ behind) in
    let last = drop (at + length (a ++ b)) room in
    let size : length front ≡ k =
    omega (arith, length-append (take at room) a, length-take-le at room fits, e) in
    let whole : all ≡ front ++ behind = sym (append_assoc (take at room) a behind) in
    let taken : take k all ≡ front =
    ap (λ (x : List ℕ). take k x) whole ∙ take_at front behind k size in
    let sum : (at + length a) + length b ≡ at + length (a ++ b) =
    omega (arith, length-append a b) in
    let dropped : drop (k + length b) all ≡ last =
    sym (drop-drop (length b) k all)
    ∙ ap (λ (x : List ℕ). drop (length b) (drop k x)) whole
    ∙ ap (λ (x : List ℕ). drop (length b) x) (drop_at front behind k size)
    ∙ drop-drop (length b) (at + length a) room
    ∙ ap (λ (n : ℕ). drop n room) sum in
    ap (λ (x : List ℕ). x ++ (b ++ drop (k + length b) all)) taken
    ∙ ap (λ (x : List ℕ). front ++ (b ++ x)) dropped
    ∙ append_assoc (take at room) a (b ++ last)
    ∙ ap (λ (x : List ℕ). take at room ++ x) (sym (append_assoc a b last))

-- nothing changes nothing
pub over_nothing : (room : List ℕ) (at : ℕ) → over room at [] ≡ room
unfolding over
over_nothing room at =
    let e : at + 0 ≡ at = omega arith in
    ap (λ (n : ℕ). take at room ++ drop n room) e ∙ take-append-drop at room

-- what is written in front
pub over_front : (room piece : List ℕ) → over room 0 piece ≡ piece ++ drop (length piece) room
unfolding over
over_front room piece = grind (arith)
