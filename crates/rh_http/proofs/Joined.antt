-- pieces, one behind the other
use Rattle.std.proofs.Common.{◌≡◌, ℕ, ◌+◌, ◌<◌, ◌≤◌, List, [], ◌∷◌, ◌++◌, length, take, drop, get_or, Bor, refl, sym, ap, ◌∙◌, arith, append_assoc}
use Rattle.std.specs.List.{flat_map}
use Rattle.rh_rts.specs.Writing.{over}
use Rattle.rh_rts.proofs.Overs.{over_over}
use Rattle.std.proofs.lemmas.List.{take_more, take-append-drop, append-nil, length-append}

-- the bytes of all pieces
abbrev pub joined : List (Bor (List ℕ)) → List ℕ
joined pieces = flat_map (λ piece. piece.now) pieces

joined-append : (a b : List (Bor (List ℕ))) → joined (a ++ b) ≡ joined a ++ joined b
joined-append [] b = refl
joined-append (x ∷ a) b = ap (λ (t : List ℕ). x.now ++ t) (joined-append a b)
    ∙ sym (append_assoc x.now (joined a) (joined b))

-- past one more piece
pub joined_more : (pieces : List (Bor (List ℕ))) (i : ℕ) (d : Bor (List ℕ)) → i < length pieces
    → joined (take (i + 1) pieces) ≡ joined (take i pieces) ++ (get_or pieces i d).now
joined_more pieces i d below =
    let last = get_or pieces i d in
    ap joined (take_more pieces i d below) ∙ joined-append (take i pieces) (last ∷ [])
    ∙ ap (λ (t : List ℕ). joined (take i pieces) ++ t) (append-nil last.now)

-- what stands for a piece where there is none
abbrev pub nothing : Bor (List ℕ)
nothing = record { ref_ptr = (0, 0); now = [] }

-- the pieces so far and the next one are no longer than all
pub joined_fits : (pieces : List (Bor (List ℕ))) (i : ℕ) (d : Bor (List ℕ)) → i < length pieces
    → length (joined (take i pieces)) + length (get_or pieces i d).now ≤ length (joined pieces)
joined_fits pieces i d below =
    let front = take (i + 1) pieces in
    let whole : joined pieces ≡ joined front ++ joined (drop (i + 1) pieces) =
    ap joined (sym (take-append-drop (i + 1) pieces)) ∙ joined-append front (drop (i + 1) pieces) in
    omega (
      arith,
      ap length whole,
      length-append (joined front) (joined (drop (i + 1) pieces)),
      ap length (joined_more pieces i d below),
      length-append (joined (take i pieces)) (get_or pieces i d).now,
    )

-- a piece is written behind those before it
pub over_more : (first before after : List ℕ) (pieces : List (Bor (List ℕ))) (i : ℕ)
    (d : Bor (List ℕ)) (at : ℕ)
    → i < length pieces → at ≡ length (joined (take i pieces)) → before
    ≡ over first 0 (joined (take i pieces))
    → after ≡ over before at (get_or pieces i d).now
    → (at + length (get_or pieces i d).now ≡ length (joined (take (i + 1) pieces)))
    × (after ≡ over first 0 (joined (take (i + 1) pieces)))
over_more first before after pieces i d at below size was now =
    let front = joined (take i pieces) in
    let piece = (get_or pieces i d).now in
    let more = joined_more pieces i d below in (
      omega (arith, size, ap length more, length-append front piece),
      now ∙ ap (λ (x : List ℕ). over x at piece) was
          ∙ over_over first 0 front piece at (omega (arith, size)) (omega arith)
          ∙ ap (λ (x : List ℕ). over first 0 x) (sym more),
    )
