-- which texts end with their first blank line
use Rattle.std.proofs.Common.{◌≡◌, ℕ, zero, suc, ◌-◌, ◌≤◌, Bool, true, false, List, [], ◌∷◌, length, take, drop, refl, sym, ap, ◌∙◌, subst, arith}
use Rattle.std.specs.Prelude.{◌==◌, bytes_eq, if◌then◌else◌}
use Rattle.std.proofs.lemmas.Bool.Decides.{Decides-eqb, not_from_Decides}
use Rattle.std.proofs.lemmas.Slice.Eq.{bytes_eq-Decides}
use Rattle.rh_http.specs.Ends.{EndsAt, FirstEnd, blank_line}
use Rattle.rh_http.specs.Heads.Ends.{is_whole}

-- no text begins with a blank line before its fourth byte, and this one not with that
abbrev Later : ℕ → List ℕ → Type 0
Later b bytes = take 4 (b ∷ bytes) ≡ blank_line → ⊥

-- past one byte
end_later : (b k : ℕ) (bytes : List ℕ) → EndsAt bytes k → EndsAt (b ∷ bytes) (suc k)
end_later b k bytes h =
    let place : suc k - 4 ≡ suc (k - 4) = omega (arith, h.0) in
    (omega (arith, h.0), ap (λ n. take 4 (drop n (b ∷ bytes))) place ∙ h.1)

end_earlier : (b n : ℕ) (bytes : List ℕ) → Later b bytes → EndsAt (b ∷ bytes) (suc n)
    → EndsAt bytes n
end_earlier b n bytes later h = by (suc n - 4) refl
  where
    by : (at : ℕ) → suc n - 4 ≡ at → EndsAt bytes n
    by zero e = absurd (later (ap (λ x. take 4 (drop x (b ∷ bytes))) (sym e) ∙ h.1))
    by (suc at) e =
        let place : n - 4 ≡ at = omega (arith, e) in (
          omega (arith, e),
          ap (λ x. take 4 (drop x bytes)) place
              ∙ ap (λ x. take 4 (drop x (b ∷ bytes))) (sym e) ∙ h.1,
        )

first_later : (b n : ℕ) (bytes : List ℕ) → Later b bytes → FirstEnd bytes n
    → FirstEnd (b ∷ bytes) (suc n)
first_later b n bytes later h = record {
  ends = end_later b n bytes h.ends;
  first = first;
}
  where
    first : (k : ℕ) → EndsAt (b ∷ bytes) k → suc n ≤ k
    first zero e = absurd (omega (arith, e.0))
    first (suc k) e = omega (arith, h.first k (end_earlier b k bytes later e))

first_earlier : (b n : ℕ) (bytes : List ℕ) → Later b bytes → FirstEnd (b ∷ bytes) (suc n)
    → FirstEnd bytes n
first_earlier b n bytes later h = record {
  ends = end_earlier b n bytes later h.ends;
  first = λ k e. omega (arith, h.first (suc k) (end_later b k bytes e));
}

-- a text that begins with a blank line is whole where it has four bytes
now_from : (text : List ℕ) → take 4 text ≡ blank_line → FirstEnd text (length text)
    → length text ≡ 4
now_from text here h =
    omega (arith, h.first 4 (omega arith, here), h.ends.0)

now_to : (text : List ℕ) → take 4 text ≡ blank_line → length text ≡ 4
    → FirstEnd text (length text)
now_to text here size =
    let P : ℕ → Type 0 = λ n. FirstEnd text n in
    subst P (sym size) (record { ends = (omega arith, here); first = λ k e. e.0 })

pub whole_from : (text : List ℕ) → FirstEnd text (length text) → is_whole text ≡ true
whole_from [] h = absurd (omega (arith, h.ends.0))
whole_from (b ∷ bytes) h =
    by (bytes_eq (take 4 (b ∷ bytes)) blank_line) refl (λ k. whole_from bytes k)
  where
    by : (t : Bool) → bytes_eq (take 4 (b ∷ bytes)) blank_line ≡ t
        → (FirstEnd bytes (length bytes) → is_whole bytes ≡ true)
        → (if t then length (b ∷ bytes) == 4 else is_whole bytes) ≡ true
    by true e more =
        let here = (bytes_eq-Decides (take 4 (b ∷ bytes)) blank_line).0 e in
        (Decides-eqb (length (b ∷ bytes)) 4).1 (now_from (b ∷ bytes) here h)
    by false e more =
        let decides = bytes_eq-Decides (take 4 (b ∷ bytes)) blank_line in
        let later : Later b bytes =
        not_from_Decides (bytes_eq (take 4 (b ∷ bytes)) blank_line) decides e in
        more (first_earlier b (length bytes) bytes later h)

pub whole_to : (text : List ℕ) → is_whole text ≡ true → FirstEnd text (length text)
whole_to [] h = absurd (cc)
whole_to (b ∷ bytes) h =
    by (bytes_eq (take 4 (b ∷ bytes)) blank_line) refl h (λ k. whole_to bytes k)
  where
    by : (t : Bool) → bytes_eq (take 4 (b ∷ bytes)) blank_line ≡ t
        → (if t then length (b ∷ bytes) == 4 else is_whole bytes) ≡ true
        → (is_whole bytes ≡ true → FirstEnd bytes (length bytes))
        → FirstEnd (b ∷ bytes) (length (b ∷ bytes))
    by true e k more =
        let here = (bytes_eq-Decides (take 4 (b ∷ bytes)) blank_line).0 e in
        now_to (b ∷ bytes) here ((Decides-eqb (length (b ∷ bytes)) 4).0 k)
    by false e k more =
        let decides = bytes_eq-Decides (take 4 (b ∷ bytes)) blank_line in
        let later : Later b bytes =
        not_from_Decides (bytes_eq (take 4 (b ∷ bytes)) blank_line) decides e in
        first_later b (length bytes) bytes later (more k)
