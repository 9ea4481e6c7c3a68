-- the blank line behind lines that have no CR
use Rattle.std.proofs.Common.{◌≡◌, ◌≢◌, ℕ, ◌+◌, ◌-◌, ◌<◌, ◌≤◌, List, [], ◌∷◌, ◌++◌, length, take, drop, get_or, refl, sym, ap, ◌∙◌, subst, arith, ⊎_elim}
use Rattle.std.proofs.lemmas.Bool.{cases_lt}
use Rattle.std.proofs.lemmas.List.{get_or-drop, get_or-take, get_or_append_left, get_or-append-add, length-append, drop-drop, drop_at, take_at}
use Rattle.rh_http.specs.Ends.{blank_line, EndsAt, FirstEnd}
use Rattle.rh_http.specs.Texts.{crlf, head_of}
use Rattle.rh_http.proofs.EndLemmas.{fits, in_front, in_all}

-- a line with some bytes, none of them CR
pub record Plain (line : List ℕ) : Type 0 where
  pub some : 0 < length line
  pub none : (k : ℕ) → k < length line → get_or line k 0 ≢ 13

-- lines of this kind
abbrev pub ArePlain : List (List ℕ) → Type 0
ArePlain [] = Unit {0}
ArePlain (line ∷ lines) = Plain line × ArePlain lines

-- a blank line stands there
abbrev BlankAt : List ℕ → ℕ → Type 0
BlankAt bytes at = take 4 (drop at bytes) ≡ blank_line

-- its bytes
blank_byte : (bytes : List ℕ) (at i : ℕ) → BlankAt bytes at → i < 4 → get_or bytes (at + i) 0
    ≡ get_or blank_line i 0
blank_byte bytes at i h below =
    sym (get_or-drop at bytes i 0) ∙ sym (get_or-take 4 (drop at bytes) i 0 below)
    ∙ ap (λ (x : List ℕ). get_or x i 0) h

-- what stands behind a line's CR LF
behind_line : (line tail : List ℕ) (k : ℕ) → drop (length line + 2 + k) (line ++ 13 ∷ 10 ∷ tail)
    ≡ drop k tail
behind_line line tail k =
    let text = line ++ 13 ∷ 10 ∷ tail in
    let past : drop (length line) text
    ≡ 13 ∷ 10 ∷ tail = drop_at line (13 ∷ 10 ∷ tail) (length line) refl in
    let both : drop (length line + 2) text ≡ tail =
    sym (drop-drop 2 (length line) text) ∙ ap (λ (x : List ℕ). drop 2 x) past in
    sym (drop-drop k (length line + 2) text) ∙ ap (λ (x : List ℕ). drop k x) both

-- the first byte of what stands behind it
first_behind : (lines : List (List ℕ)) → ArePlain lines → get_or (head_of lines) 0 0 ≡ 13 → lines
    ≡ []
first_behind [] h e = refl
first_behind (line ∷ lines) h e =
    absurd (h.0.none 0 h.0.some (sym (get_or_append_left line (crlf ++ head_of lines) 0 0 h.0.some)
    ∙ e))

-- the blank line stands at the end alone
pub blank_last : (lines : List (List ℕ)) (at : ℕ) → ArePlain lines → BlankAt (head_of lines) at
    → at + 4 ≡ length (head_of lines)
blank_last [] at h blank = absurd (omega (arith, fits crlf at blank))
blank_last (line ∷ lines) at h blank =
    let tail = head_of lines in
    let text = line ++ (13 ∷ 10 ∷ tail) in
    let size : length text ≡ length line + (2 + length tail) =
    omega (arith, length-append line (13 ∷ 10 ∷ tail)) in
    let byte = λ (i : ℕ) (below : i < 4). blank_byte text at i blank below in
    let cr : get_or text at 0 ≡ 13 = ap (λ (n : ℕ). get_or text n 0) (omega arith)
    ∙ byte 0 (omega arith) in
    ⊎_elim
    (λ within. absurd
    (h.0.none at within (sym (get_or_append_left line (13 ∷ 10 ∷ tail) 0 at within) ∙ cr)))
    (λ past.
    let read : (k : ℕ) → get_or text (length line + k) 0 ≡ get_or (13 ∷ 10 ∷ tail) k 0 =
    λ k. get_or-append-add line (13 ∷ 10 ∷ tail) k 0 in
    ⊎_elim
    (λ near.
    ⊎_elim
    (λ here.
    let at_end : at ≡ length line = omega (arith, here, past) in
    let again : get_or tail 0 0 ≡ 13 =
    sym (read 2) ∙ ap (λ (n : ℕ). get_or text n 0) (omega (arith, at_end)) ∙ byte 2 (omega arith) in
    let none : lines ≡ [] = first_behind lines h.1 again in
    let short : length tail ≡ 2 = ap (λ (ls : List (List ℕ)). length (head_of ls)) none in
    omega (arith, at_end, size, short))
    (λ there.
    let next : at ≡ length line + 1 = omega (arith, near, there) in
    let lf : get_or text at 0 ≡ 10 = ap (λ (n : ℕ). get_or text n 0) next ∙ read 1 in
    absurd (omega (arith, lf, cr)))
    (cases_lt at (length line + 1)))
    (λ far.
    let k = at - (length line + 2) in
    let place : at ≡ length line + 2 + k = omega (arith, far) in
    let below : BlankAt tail k =
    ap (λ (x : List ℕ). take 4 x) (sym (behind_line line tail k)
    ∙ ap (λ (n : ℕ). drop n text) (sym place)) ∙ blank in
    omega (arith, blank_last lines k h.1 below, place, size))
    (cases_lt at (length line + 2)))
    (cases_lt at (length line))

-- and it does stand there
pub blank_there : (line : List ℕ) (lines : List (List ℕ))
    → EndsAt (head_of (line ∷ lines)) (length (head_of (line ∷ lines)))
blank_there line [] =
    let text = line ++ (13 ∷ 10 ∷ 13 ∷ 10 ∷ []) in
    let size : length text
    ≡ length line + 4 = omega (arith, length-append line (13 ∷ 10 ∷ 13 ∷ 10 ∷ [])) in
    let place : length text - 4 ≡ length line = omega (arith, size) in (
      omega (arith, size),
      ap (λ (n : ℕ). take 4 (drop n text)) place
          ∙ ap (λ (x : List ℕ). take 4 x)
          (drop_at line (13 ∷ 10 ∷ 13 ∷ 10 ∷ []) (length line) refl),
    )
blank_there line (next ∷ lines) =
    let tail = head_of (next ∷ lines) in
    let text = line ++ (13 ∷ 10 ∷ tail) in
    let later = blank_there next lines in
    let size : length text ≡ length line + (2 + length tail) =
    omega (arith, length-append line (13 ∷ 10 ∷ tail)) in
    let place : length text - 4 ≡ length line + 2 + (length tail - 4) =
    omega (arith, size, later.0) in (
      omega (arith, size, later.0),
      ap (λ (n : ℕ). take 4 (drop n text)) place
          ∙ ap (λ (x : List ℕ). take 4 x) (behind_line line tail (length tail - 4)) ∙ later.1,
    )

-- lines that begin longer bytes end at their blank line
pub lines_end : (line : List ℕ) (lines : List (List ℕ)) (rest : List ℕ) (m : ℕ)
    → ArePlain (line ∷ lines)
    → length (head_of (line ∷ lines)) ≤ m
    → FirstEnd (take m (head_of (line ∷ lines) ++ rest)) (length (head_of (line ∷ lines)))
lines_end line lines rest m plain fits_in =
    let text = head_of (line ∷ lines) in
    let n = length text in
    let all = text ++ rest in
    let front : take n all ≡ text = take_at text rest n refl in
    let P : ℕ → List ℕ → Type 0 = λ k x. EndsAt x k in
    let whole : EndsAt all n = in_all all n n (subst (P n) (sym front) (blank_there line lines)) in
    record {
      ends = in_front all n m whole fits_in;
      first = λ k h.
          ⊎_elim
          (λ early.
          let short : EndsAt text k =
          subst (P k) front (in_front all k n (in_all all k m h) (omega (arith, early))) in
          omega (arith, blank_last (line ∷ lines) (k - 4) plain short.1, short.0, early))
          (λ late. late) (cases_lt k n);
    }
