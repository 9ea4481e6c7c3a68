-- bytes of a piece and of what is behind it
use Rattle.std.proofs.Common.{◌≡◌, ℕ, ◌-◌, ◌≤◌, List, ◌++◌, length, take, drop, refl, sym, ap, ◌∙◌, arith}
use Rattle.std.proofs.lemmas.List.{append_assoc, drop_at, drop-drop, drop-take, take_at, take-append-drop, take-take}

-- behind all of a piece
pub drop_behind : (n : ℕ) (piece more : List ℕ) → length piece ≤ n
    → drop n (piece ++ more) ≡ drop (n - length piece) more
drop_behind n piece more h =
    ap (λ k. drop k (piece ++ more)) (omega (arith, h))
    ∙ sym (drop-drop (n - length piece) (length piece) (piece ++ more))
    ∙ ap (λ (x : List ℕ). drop (n - length piece) x) (drop_at piece more (length piece) refl)

-- all of a piece, and some behind it
pub take_behind : (n : ℕ) (piece more : List ℕ) → length piece ≤ n
    → take n (piece ++ more) ≡ piece ++ take (n - length piece) more
take_behind n piece more h =
    let size = length piece in
    let front : take size (take n (piece ++ more)) ≡ piece =
    take-take size n (piece ++ more) h ∙ take_at piece more size refl in
    let back : drop size (take n (piece ++ more)) ≡ take (n - size) more =
    ap (λ k. drop size (take k (piece ++ more))) (omega (arith, h))
    ∙ drop-take size (n - size) (piece ++ more)
    ∙ ap (λ (x : List ℕ). take (n - size) x) (drop_at piece more size refl) in
    sym (take-append-drop size (take n (piece ++ more)))
    ∙ ap (λ (x : List ℕ). x ++ drop size (take n (piece ++ more))) front
    ∙ ap (λ (x : List ℕ). piece ++ x) back

-- ---- piece by piece

-- so many bytes are passed over, of which all of the piece
pub skip_on : (left : ℕ) (piece more next behind all : List ℕ) → length piece ≤ left
    → more ≡ next ++ behind
    → drop left (piece ++ more) ≡ all
    → drop (left - length piece) (next ++ behind) ≡ all
skip_on left piece more next behind all over is h =
    ap (λ (x : List ℕ). drop (left - length piece) x) (sym is)
    ∙ sym (drop_behind left piece more over) ∙ h

-- and are put into a room
pub put_on : (left : ℕ) (room filled piece more next behind all : List ℕ) → length piece ≤ left
    → filled ≡ room ++ piece
    → more ≡ next ++ behind
    → room ++ take left (piece ++ more) ≡ all
    → filled ++ take (left - length piece) (next ++ behind) ≡ all
put_on left room filled piece more next behind all over full is h =
    let some = take (left - length piece) (next ++ behind) in
    ap (λ x. x ++ some) full ∙ append_assoc room piece some
    ∙ ap (λ (x : List ℕ). room ++ (piece ++ take (left - length piece) x)) (sym is)
    ∙ ap (λ x. room ++ x) (sym (take_behind left piece more over)) ∙ h
