-- lines with no CR are whole behind their blank line (RFC 9112 section 2.1)
use Rattle.law_order.proofs.Vocabulary.{◌≡◌, ℕ, ◌-◌, ◌≤◌, ◌<◌, ◌||◌, List, ◌∷◌, take, drop, length, nat_le, Bool, true, false, arith, sym, ap, ◌∙◌, refl, subst, length-drop, length-take-le, take_all, nat_tests, bytes_eq-Decides}
use Rattle.law_moves.proofs.Vocabulary.{in_all, ArePlain, blank_last, blank_there, blank_line, EndsAt, head_of, ends_head, is_whole_head, IsWholeText}

-- the test tells that a blank line is at the end
tested : (x : List ℕ) → ends_head x ≡ true → EndsAt x (length x)
unfolding ends_head
tested x h =
    let last : drop (length x - 4) x ≡ blank_line =
    (bytes_eq-Decides (drop (length x - 4) x) blank_line).0 h in
    (omega (arith, length-drop (length x - 4) x, ap length last), ap (take 4) last)

shown : (x : List ℕ) → EndsAt x (length x) → ends_head x ≡ true
unfolding ends_head
shown x h =
    let last = drop (length x - 4) x in
    let size : length last ≤ 4 = omega (arith, h.0, length-drop (length x - 4) x) in
    (bytes_eq-Decides last blank_line).1 (sym (take_all 4 last size) ∙ h.1)

-- no shorter front ends with one
module _ (line : List ℕ) (lines : List (List ℕ)) (plain : ArePlain (line ∷ lines)) where
  abbrev text : List ℕ
  text = head_of (line ∷ lines)

  not_yet : (k : ℕ) → k < length text → (last : Bool) → ends_head (take k text) ≡ last
      → last ≡ false
  not_yet k below false e = refl
  not_yet k below true e =
      let size : length (take k text) ≡ k = length-take-le k text (omega (arith, below)) in
      let ends : EndsAt text k = in_all text k k
      (subst (λ n. EndsAt (take k text) n) size (tested (take k text) e)) in
      absurd (omega (arith, blank_last (line ∷ lines) (k - 4) plain ends.1, ends.0, below))

  pub whole_lines : length text ≤ 16384 → IsWholeText is_whole_head text
  whole_lines most = record {
    whole = ap (λ (t : Bool). nat_le 16384 (length text) || t)
        (shown text (blank_there line lines)) ∙ either_way (nat_le 16384 (length text));
    front = λ k some below.
        let size : length (take k text) ≡ k = length-take-le k text (omega (arith, below)) in
        let short : nat_le 16384 (length (take k text)) ≡ false =
        grind (arith, nat_tests, size, below, most) in
        rw (short, not_yet k below (ends_head (take k text)) refl) refl;
  }
    where
      either_way : (b : Bool) → (b || true) ≡ true
      either_way true = refl
      either_way false = refl
