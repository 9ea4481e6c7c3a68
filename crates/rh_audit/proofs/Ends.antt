-- where the head ends with which bytes begin
use Rattle.std.proofs.Common.{◌≡◌, ℕ, zero, suc, ◌-◌, ◌≤◌, Bool, true, false, List, [], ◌∷◌, length, take, drop, min, Some, None, refl, sym, ap, ◌∙◌, subst, arith}
use Rattle.std.specs.Prelude.{bytes_eq, if◌then◌else◌, nat_le, is_ok}
use Rattle.std.specs.declared.option.Option.{Option}
use Rattle.std.proofs.lemmas.Bool.Decides.{not_from_Decides, nat_tests}
use Rattle.std.proofs.lemmas.List.{length-take, take-take, take_all}
use Rattle.std.proofs.lemmas.Slice.Eq.{bytes_eq-Decides}
use Rattle.rh_http.specs.Ends.{EndsAt, IsOpen, FirstEnd, blank_line}
use Rattle.rh_http.specs.Heads.Verdicts.{request_verdict, response_verdict}
use Rattle.rh_http.specs.Reading.{greatest_head}
use Rattle.rh_http.proofs.EndLemmas.{fits}
use Rattle.rh_audit.specs.declared.opening.Begins.{Begins}
use Rattle.rh_audit.specs.declared.opening.Begins.TheVariants as begins
use Rattle.rh_audit.specs.declared.opening.Opening.TheVariants.{Waits}
use Rattle.rh_audit.specs.Openings.{extent, first_end, one_more, or_most, head_end, head_by, judged, greeting, greeting_by, opening_by}

-- ---- the first blank line

-- bytes that do not begin with one
abbrev Later : ℕ → List ℕ → Type 0
Later b bytes = take 4 (b ∷ bytes) ≡ blank_line → ⊥

end_later : (b k : ℕ) (bytes : List ℕ) → EndsAt bytes k → EndsAt (b ∷ bytes) (suc k)
end_later b k bytes h =
    let place : suc k - 4 ≡ suc (k - 4) = omega (arith, h.0) in
    (omega (arith, h.0), ap (λ n. take 4 (drop n (b ∷ bytes))) place ∙ h.1)

end_earlier : (b n : ℕ) (bytes : List ℕ) → Later b bytes → EndsAt (b ∷ bytes) (suc n)
    → EndsAt bytes n
end_earlier b n bytes later h = by (suc n - 4) refl
  where
    by : (at : ℕ) → suc n - 4 ≡ at → EndsAt bytes n
    by zero e = absurd (later (ap (λ x. take 4 (drop x (b ∷ bytes))) (sym e) ∙ h.1))
    by (suc at) e =
        let place : n - 4 ≡ at = omega (arith, e) in (
          omega (arith, e),
          ap (λ x. take 4 (drop x bytes)) place
              ∙ ap (λ x. take 4 (drop x (b ∷ bytes))) (sym e) ∙ h.1,
        )

first_earlier : (b n : ℕ) (bytes : List ℕ) → Later b bytes → FirstEnd (b ∷ bytes) (suc n)
    → FirstEnd bytes n
first_earlier b n bytes later h = record {
  ends = end_earlier b n bytes later h.ends;
  first = λ k e. omega (arith, h.first (suc k) (end_later b k bytes e));
}

-- where the first one ends
pub first_end_is : (bytes : List ℕ) (n : ℕ) → FirstEnd bytes n → first_end bytes ≡ Some n
unfolding first_end
first_end_is [] n h =
    let room = fits [] (n - 4) h.ends.1 in absurd (omega (arith, room))
first_end_is (b ∷ bytes) n h =
    by (bytes_eq (take 4 (b ∷ bytes)) blank_line) refl (λ m k. first_end_is bytes m k)
  where
    by : (t : Bool) → bytes_eq (take 4 (b ∷ bytes)) blank_line ≡ t
        → ((m : ℕ) → FirstEnd bytes m → first_end bytes ≡ Some m)
        → (if t then Some 4 else one_more (first_end bytes)) ≡ Some n
    by true e more =
        let here = (bytes_eq-Decides (take 4 (b ∷ bytes)) blank_line).0 e in
        ap Some (omega (arith, h.first 4 (omega arith, here), h.ends.0))
    by false e more =
        let decides = bytes_eq-Decides (take 4 (b ∷ bytes)) blank_line in
        let later : Later b bytes =
        not_from_Decides (bytes_eq (take 4 (b ∷ bytes)) blank_line) decides e in
        let whole : n ≡ suc (n - 1) = omega (arith, h.ends.0) in
        ap one_more
        (more (n - 1) (first_earlier b (n - 1) bytes later (subst (FirstEnd (b ∷ bytes)) whole h)))
        ∙ ap Some (sym whole)

-- where there is none
pub first_end_none : (bytes : List ℕ) → IsOpen bytes → first_end bytes ≡ None
unfolding first_end
first_end_none [] none = refl
first_end_none (b ∷ bytes) none =
    by (bytes_eq (take 4 (b ∷ bytes)) blank_line) refl
    (first_end_none bytes (λ n e. none (suc n) (end_later b n bytes e)))
  where
    by : (t : Bool) → bytes_eq (take 4 (b ∷ bytes)) blank_line ≡ t
        → first_end bytes ≡ None
        → (if t then Some 4 else one_more (first_end bytes)) ≡ None
    by true e more =
        let here = (bytes_eq-Decides (take 4 (b ∷ bytes)) blank_line).0 e in
        absurd (none 4 (omega arith, here))
    by false e more = ap one_more more

-- it ends within the bytes
pub first_end_fits : (bytes : List ℕ) (n : ℕ) → first_end bytes ≡ Some n → n ≤ length bytes
unfolding first_end
first_end_fits [] n h = absurd (cc)
first_end_fits (b ∷ bytes) n h =
    by (bytes_eq (take 4 (b ∷ bytes)) blank_line) refl (first_end bytes) refl h
    (λ m k. first_end_fits bytes m k)
  where
    by : (t : Bool) → bytes_eq (take 4 (b ∷ bytes)) blank_line ≡ t
        → (o : Option ℕ) → first_end bytes ≡ o
        → (if t then Some 4 else one_more o) ≡ Some n
        → ((m : ℕ) → first_end bytes ≡ Some m → m ≤ length bytes)
        → n ≤ length (b ∷ bytes)
    by true e o is k more =
        let here = (bytes_eq-Decides (take 4 (b ∷ bytes)) blank_line).0 e in
        let four : 4 ≡ n = (let j = k in cc) in
        omega (arith, four, ap length here, length-take 4 (b ∷ bytes))
    by false e None is k more = absurd (let j = k in cc)
    by false e (Some m) is k more =
        let same : suc m ≡ n = (let j = k in cc) in
        omega (arith, same, more m is)

-- ---- the end of a head

-- of a front with at most the most bytes
pub front_end : (front : List ℕ) (o : Option ℕ) → length front ≤ greatest_head
    → first_end front ≡ o
    → head_end front ≡ or_most o (length front)
front_end front o h e =
    ap (λ x. or_most (first_end x) (length front)) (take_all greatest_head front h)
    ∙ ap (λ x. or_most x (length front)) e

-- a head has at most the most bytes
pub most_end : (bytes : List ℕ) (n : ℕ) → head_end bytes ≡ Some n → n ≤ greatest_head
most_end bytes n h = by (first_end (take greatest_head bytes)) refl h
  where
    by : (o : Option ℕ) → first_end (take greatest_head bytes) ≡ o
        → or_most o (length bytes) ≡ Some n → n ≤ greatest_head
    by (Some m) e k =
        let same : m ≡ n = (let j = k in cc) in
        omega (
          arith,
          same,
          first_end_fits (take greatest_head bytes) m e,
          length-take greatest_head bytes,
        )
    by None e k = most (nat_le greatest_head (length bytes)) k
      where
        most : (t : Bool) → (if t then Some greatest_head else None) ≡ Some n → n ≤ greatest_head
        most true j = let same : greatest_head ≡ n = (let i = j in cc) in omega (arith, same)
        most false j = absurd (let i = j in cc)

-- ---- openings

-- what is long enough within a front is so within all
long_front : (k most n m : ℕ) → k ≤ most → m ≡ min most n → nat_le k m ≡ nat_le k n
long_front k most n m h is = grind (arith, nat_tests, h, is)

-- a head ends in the first of the bytes as in all
front_is : (bytes : List ℕ) → head_end (take greatest_head bytes) ≡ head_end bytes
front_is bytes =
    ap (λ x. or_most (first_end x) (length (take greatest_head bytes)))
    (take-take greatest_head greatest_head bytes (omega arith))
    ∙ by (first_end (take greatest_head bytes))
  where
    by : (o : Option ℕ) → or_most o (length (take greatest_head bytes)) ≡ or_most o (length bytes)
    by (Some m) = refl
    by None =
        ap (λ t. if t then Some greatest_head else None)
        (long_front greatest_head greatest_head (length bytes) (length (take greatest_head bytes))
        (omega arith) (length-take greatest_head bytes))

head_front : (is_fine : List ℕ → Bool) (bytes : List ℕ)
    → head_by is_fine (take greatest_head bytes) (head_end (take greatest_head bytes))
    ≡ head_by is_fine bytes (head_end bytes)
head_front is_fine bytes =
    ap (head_by is_fine (take greatest_head bytes)) (front_is bytes) ∙ by (head_end bytes) refl
  where
    by : (o : Option ℕ) → head_end bytes ≡ o
        → head_by is_fine (take greatest_head bytes) o ≡ head_by is_fine bytes o
    by None e = refl
    by (Some n) e =
        ap (λ text. judged n (is_fine text))
        (take-take n greatest_head bytes (most_end bytes n e))

-- what bytes begin with is told by the first of them
pub opening_front : (b : Begins) (bytes : List ℕ)
    → opening_by b (take greatest_head bytes) ≡ opening_by b bytes
opening_front (begins.Request inbound) bytes =
    head_front (λ text. is_ok (request_verdict inbound text)) bytes
opening_front begins.Response bytes = head_front (λ text. is_ok (response_verdict text)) bytes
opening_front begins.Greeting bytes =
    let long : nat_le 14 (length (take greatest_head bytes)) ≡ nat_le 14 (length bytes) =
    long_front 14 greatest_head (length bytes) (length (take greatest_head bytes)) (omega arith)
    (length-take greatest_head bytes) in
    ap (λ text. if nat_le 14 (length (take greatest_head bytes))
    then greeting_by (bytes_eq text greeting) else Waits)
    (take-take 14 greatest_head bytes (omega arith))
    ∙ ap (λ t. if t then greeting_by (bytes_eq (take 14 bytes) greeting) else Waits) long
opening_front begins.Frames bytes = refl

head_extent : (is_fine : List ℕ → Bool) (bytes : List ℕ)
    → extent (head_by is_fine bytes (head_end bytes)) ≤ greatest_head
head_extent is_fine bytes = by (head_end bytes) refl
  where
    by : (o : Option ℕ) → head_end bytes ≡ o → extent (head_by is_fine bytes o) ≤ greatest_head
    by None e = omega arith
    by (Some n) e = told (is_fine (take n bytes))
      where
        told : (t : Bool) → extent (judged n t) ≤ greatest_head
        told true = most_end bytes n e
        told false = most_end bytes n e

pub opening_most : (b : Begins) (bytes : List ℕ) → extent (opening_by b bytes) ≤ greatest_head
opening_most (begins.Request inbound) bytes =
    head_extent (λ text. is_ok (request_verdict inbound text)) bytes
opening_most begins.Response bytes = head_extent (λ text. is_ok (response_verdict text)) bytes
opening_most begins.Greeting bytes =
    by (nat_le 14 (length bytes)) (bytes_eq (take 14 bytes) greeting)
  where
    by : (long same : Bool)
        → extent (if long then greeting_by same else Waits) ≤ greatest_head
    by true true = omega arith
    by true false = omega arith
    by false same = omega arith
opening_most begins.Frames bytes = omega arith
