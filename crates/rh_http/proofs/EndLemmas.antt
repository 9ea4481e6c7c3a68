-- blank lines in a front and behind one, and what a search for the first one finds
use Rattle.std.proofs.Common.{◌≡◌, ℕ, ◌+◌, ◌-◌, ◌<◌, ◌≤◌, List, length, take, drop, get_or, sym, ap, ◌∙◌, subst, arith, ⊎_elim}
use Rattle.std.proofs.lemmas.List.{get_or-drop, get_or-take, ext_get_or, drop-take, take-take, length-drop, length-take}
use Rattle.std.proofs.lemmas.Bool.{cases_lt}
use Rattle.memchr.specs.Find.{OccursAt, Nowhere}
use Rattle.rh_http.specs.Ends.{blank_line, EndsAt, IsOpen, FirstEnd}

-- bytes that have a blank line behind a place have its four bytes
pub fits : (bytes : List ℕ) (at : ℕ) → take 4 (drop at bytes) ≡ blank_line → at + 4 ≤ length bytes
fits bytes at e = omega (arith, length-take 4 (drop at bytes), length-drop at bytes, ap length e)

-- four bytes within a front
same_four : (bytes : List ℕ) (at m : ℕ) → at + 4 ≤ m → take 4 (drop at (take m bytes))
    ≡ take 4 (drop at bytes)
same_four bytes at m le =
    let rest = m - at in
    let whole : m ≡ at + rest = omega (arith, le) in
    ap (λ (k : ℕ). take 4 (drop at (take k bytes))) whole
    ∙ ap (λ (x : List ℕ). take 4 x) (drop-take at rest bytes)
    ∙ take-take 4 rest (drop at bytes) (omega (arith, le))

-- a front is the end of a blank line where all of the bytes are
pub in_front : (bytes : List ℕ) (n m : ℕ) → EndsAt bytes n → n ≤ m → EndsAt (take m bytes) n
in_front bytes n m h le = (h.0, same_four bytes (n - 4) m (omega (arith, h.0)) ∙ h.1)

-- and all of the bytes are where a front is
pub in_all : (bytes : List ℕ) (n m : ℕ) → EndsAt (take m bytes) n → EndsAt bytes n
in_all bytes n m h =
    let room = fits (take m bytes) (n - 4) h.1 in
    (h.0, sym (same_four bytes (n - 4) m (omega (arith, room, length-take m bytes))) ∙ h.1)

-- where the needle occurs behind a front, a blank line ends
pub found_end : (bytes : List ℕ) (start k : ℕ) → OccursAt (drop start bytes) blank_line k
    → EndsAt bytes (start + k + 4)
found_end bytes start k h =
    let room : k + 4 ≤ length bytes - start = omega (arith, h.fits, length-drop start bytes) in
    let at : start + k + 4 - 4 ≡ start + k = omega arith in
    let size : length (take 4 (drop (start + k) bytes)) ≡ 4 =
    omega (arith, length-take 4 (drop (start + k) bytes), length-drop (start + k) bytes, room) in
    let same : take 4 (drop (start + k) bytes) ≡ blank_line =
    ext_get_or 0 (take 4 (drop (start + k) bytes)) blank_line size
    (λ i below.
    let low : i < 4 = omega (arith, size, below) in
    get_or-take 4 (drop (start + k) bytes) i 0 low ∙ get_or-drop (start + k) bytes i 0
    ∙ ap (λ (j : ℕ). get_or bytes j 0) (omega arith) ∙ sym (get_or-drop start bytes (k + i) 0)
    ∙ h.reads i low) in
    (omega arith, ap (λ (j : ℕ). take 4 (drop j bytes)) at ∙ same)

-- where a blank line ends, the needle occurs behind each front that ends before it
pub end_found : (bytes : List ℕ) (start n : ℕ) → EndsAt bytes n → start + 4 ≤ n
    → OccursAt (drop start bytes) blank_line (n - 4 - start)
end_found bytes start n h le =
    let at = n - 4 in
    let room : at + 4 ≤ length bytes = fits bytes at h.1 in
    record {
      fits = omega (arith, length-drop start bytes, room);
      reads = λ j low.
          let there : j < 4 = low in
          get_or-drop start bytes (at - start + j) 0
          ∙ ap (λ (i : ℕ). get_or bytes i 0) (omega arith)
          ∙ sym (get_or-drop at bytes j 0) ∙ sym (get_or-take 4 (drop at bytes) j 0 there)
          ∙ ap (λ (x : List ℕ). get_or x j 0) h.1;
    }

-- behind what was searched, less three bytes, no blank line ends earlier
after_searched : (bytes : List ℕ) (m n : ℕ) → IsOpen (take m bytes) → EndsAt bytes n → m - 3 + 4 ≤ n
after_searched bytes m n none h =
    ⊎_elim (λ above. omega (arith, h.0, above))
    (λ below. absurd (none n (in_front bytes n m h below))) (cases_lt m n)

-- the first one that a search from there finds is the first
pub first_found : (bytes hay : List ℕ) (m start k : ℕ) → start ≡ m - 3 → hay ≡ drop start bytes
    → IsOpen (take m bytes)
    → OccursAt hay blank_line k → Nowhere (OccursAt hay blank_line) 0 k
    → FirstEnd bytes (start + k + 4)
first_found bytes hay m start k from cut none here before =
    let P : List ℕ → Type 0 = λ x. OccursAt x blank_line k in
    record {
      ends = found_end bytes start k (subst P cut here);
      first = λ n h.
          let behind : start + 4 ≤ n = omega (arith, from, after_searched bytes m n none h) in
          let there = end_found bytes start n h behind in
          let Q : List ℕ → Type 0 = λ x. OccursAt x blank_line (n - 4 - start) in
          ⊎_elim
          (λ early. absurd
          (before (n - 4 - start) (omega arith) (omega (arith, early, behind))
          (subst Q (sym cut) there)))
          (λ late. late) (cases_lt n (start + k + 4));
    }

-- and where it finds none, there is none
pub none_found : (bytes hay : List ℕ) (m start : ℕ) → start ≡ m - 3 → hay ≡ drop start bytes
    → IsOpen (take m bytes)
    → Nowhere (OccursAt hay blank_line) 0 (length hay + 1) → IsOpen bytes
none_found bytes hay m start from cut none nowhere n h =
    let behind : start + 4 ≤ n = omega (arith, from, after_searched bytes m n none h) in
    let Q : List ℕ → Type 0 = λ x. OccursAt x blank_line (n - 4 - start) in
    let there : OccursAt hay blank_line (n - 4 - start) =
    subst Q (sym cut) (end_found bytes start n h behind) in
    nowhere (n - 4 - start) (omega arith) (omega (arith, there.fits)) there
