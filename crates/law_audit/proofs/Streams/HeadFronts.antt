-- where bytes end that begin with a fine head or greeting, and where they are cut from one
use Rattle.law_order.proofs.Vocabulary.{◌≡◌, ◌<◌, ◌≤◌, ◌+◌, ◌-◌, ◌++◌, ◌==◌, ℕ, suc, Bool, true, false, List, [], ◌∷◌, length, take, drop, refl, sym, ap, ◌∙◌, subst, arith, cond, if◌then◌else◌, Some, None, Option, is_ok, nat_le, eqb-true, length-append, take-append-le, take_all, take-append-add, nat_tests, bytes_eq}
use Rattle.std.proofs.lemmas.Slice.Eq.{bytes_eq-Decides}
use Rattle.std.proofs.Math.Seq.{drop-append_seam, take-append_seam}
use Rattle.rh_http.proofs.EndLemmas.{fits, in_all}
use Rattle.rh_http.proofs.Heads.EndLemmas.{whole_to}
use Rattle.rh_http.specs.Ends.{EndsAt, IsOpen, blank_line}
use Rattle.rh_http.specs.Heads.Ends.{is_whole}
use Rattle.rh_http.specs.Heads.Verdicts.{request_verdict, response_verdict}
use Rattle.rh_http.specs.Reading.{greatest_head}
use Rattle.rh_sig.specs.declared.name.Pipe.{Pipe}
use Rattle.rh_sig.specs.declared.name.Pipe.TheVariants.{CiU, IsU, IsD, CoU, CoD, OsU, OsD}
use Rattle.rh_audit.specs.Openings.{first_end, greeting, greeting_by, head_by, head_end, judged, one_more, opening, or_most}
use Rattle.rh_audit.specs.Streams.{framed, opened, stream, stream_is}
use Rattle.law_audit.specs.Streams.Texts.{IsFineHead, IsFineText}
use Rattle.law_audit.proofs.Streams.Splits.{IsCutFrom}

-- ---- the first blank line

-- that of a text that ends with it, whatever comes behind
whole_first : (text rest : List ℕ) → is_whole text ≡ true
    → first_end (text ++ rest) ≡ Some (length text)
unfolding first_end
whole_first [] rest whole = absurd cc
whole_first (b ∷ text) rest whole =
    ap (λ (front : List ℕ). if bytes_eq front blank_line then Some 4
    else one_more (first_end (text ++ rest)))
    (take-append-le 4 (b ∷ text) rest (whole_to (b ∷ text) whole).ends.0)
    ∙ by (bytes_eq (take 4 (b ∷ text)) blank_line) whole (whole_first text rest)
  where
    by : (t : Bool) → cond t (suc (length text) == 4) (is_whole text) ≡ true
        → (is_whole text ≡ true → first_end (text ++ rest) ≡ Some (length text))
        → cond t (Some 4) (one_more (first_end (text ++ rest))) ≡ Some (suc (length text))
    by true whole later = ap Some (sym (eqb-true (suc (length text)) 4 whole))
    by false whole later = ap one_more (later whole)

end_later : (b k : ℕ) (bytes : List ℕ) → EndsAt bytes k → EndsAt (b ∷ bytes) (suc k)
end_later b k bytes h =
    let place : suc k - 4 ≡ suc (k - 4) = omega (arith, h.0) in
    (omega (arith, h.0), ap (λ n. take 4 (drop n (b ∷ bytes))) place ∙ h.1)

-- bytes in which no blank line ends
none_first : (bytes : List ℕ) → IsOpen bytes → first_end bytes ≡ None
unfolding first_end
none_first [] none = refl
none_first (b ∷ bytes) none =
    by (bytes_eq (take 4 (b ∷ bytes)) blank_line) refl
    (none_first bytes (λ n e. none (suc n) (end_later b n bytes e)))
  where
    by : (t : Bool) → bytes_eq (take 4 (b ∷ bytes)) blank_line ≡ t → first_end bytes ≡ None
        → cond t (Some 4) (one_more (first_end bytes)) ≡ None
    by true e later =
        let here = (bytes_eq-Decides (take 4 (b ∷ bytes)) blank_line).0 e in
        absurd (none 4 (omega arith, here))
    by false e later = ap one_more later

-- as bytes are that are cut from such a text
cut_open : (text bytes : List ℕ) → is_whole text ≡ true → IsCutFrom text bytes → IsOpen bytes
cut_open text bytes whole cut k ends =
    let first = whole_to text whole in
    let room = fits bytes (k - 4) ends.1 in
    let front : take (length bytes) text ≡ bytes =
    ap (take (length bytes)) (sym cut.joined) ∙ take-append_seam bytes cut.rest in
    let there = first.first k
    (in_all text k (length bytes) (subst (λ (x : List ℕ). EndsAt x k) (sym front) ends)) in
    absurd (omega (
      arith,
      room,
      there,
      ends.0,
      cut.some,
      length-append bytes cut.rest,
      ap length cut.joined,
    ))

cut_short : (text bytes : List ℕ) → IsCutFrom text bytes → length bytes < length text
cut_short text bytes cut =
    omega (arith, cut.some, length-append bytes cut.rest, ap length cut.joined)

-- ---- the end of a head

-- all of a head is there
head_whole : (text behind : List ℕ) → is_whole text ≡ true → length text ≤ greatest_head
    → head_end (text ++ behind) ≡ Some (length text)
head_whole text behind whole short =
    let room = greatest_head - length text in
    let most : greatest_head ≡ length text + room = omega (arith, short) in
    ap (λ (o : Option ℕ). or_most o (length (text ++ behind)))
    (ap (λ (n : ℕ). first_end (take n (text ++ behind))) most
    ∙ ap first_end (take-append-add text behind room)
    ∙ whole_first text (take room behind) whole)

-- some of it
head_waits : (text bytes : List ℕ) → is_whole text ≡ true → length text ≤ greatest_head
    → IsCutFrom text bytes → head_end bytes ≡ None
head_waits text bytes whole short cut =
    let less = cut_short text bytes cut in
    let few : nat_le greatest_head (length bytes) ≡ false = grind (arith, nat_tests, less, short) in
    ap (λ (o : Option ℕ). or_most o (length bytes))
    (ap first_end (take_all greatest_head bytes (omega (arith, less, short)))
    ∙ none_first bytes (cut_open text bytes whole cut))
    ∙ ap (λ t. if t then Some greatest_head else None) few

-- ---- streams

module _ (pipe : Pipe) (passes : List ℕ → Bool) (text : List ℕ)
    (fine : IsFineHead (passes text) text) where
  head_opens : (behind : List ℕ)
      → opened pipe (text ++ behind)
      (head_by passes (text ++ behind) (head_end (text ++ behind)))
      ≡ framed pipe true (length text) behind
  head_opens behind =
      let all = text ++ behind in
      ap (λ (o : Option ℕ). opened pipe all (head_by passes all o))
      (head_whole text behind fine.whole fine.short)
      ∙ ap (λ (front : List ℕ). opened pipe all (judged (length text) (passes front)))
      (take-append_seam text behind)
      ∙ ap (λ (t : Bool). opened pipe all (judged (length text) t)) fine.fine
      ∙ ap (framed pipe true (length text)) (drop-append_seam text behind)

  head_cut : (bytes : List ℕ) → IsCutFrom text bytes
      → opened pipe bytes (head_by passes bytes (head_end bytes)) ≡ stream_is [] None
  head_cut bytes cut =
      ap (λ (o : Option ℕ). opened pipe bytes (head_by passes bytes o))
      (head_waits text bytes fine.whole fine.short cut)

greeting_opens : (behind : List ℕ)
    → stream OsD (greeting ++ behind) ≡ framed OsD true (length greeting) behind
greeting_opens behind =
    let all = greeting ++ behind in
    let long : nat_le (length greeting) (length all) ≡ true =
    grind (arith, nat_tests, length-append greeting behind) in
    ap (λ (t : Bool). opened OsD all
    (if t then greeting_by (bytes_eq (take (length greeting) all) greeting)
    else opening OsD [])) long
    ∙ ap (λ (front : List ℕ). opened OsD all (greeting_by (bytes_eq front greeting)))
    (take-append_seam greeting behind)
    ∙ ap (framed OsD true (length greeting)) (drop-append_seam greeting behind)

greeting_cut : (text bytes : List ℕ) → text ≡ greeting → IsCutFrom text bytes
    → stream OsD bytes ≡ stream_is [] None
greeting_cut text bytes h cut =
    let less = cut_short text bytes cut in
    let size = ap length h in
    let few : nat_le (length greeting) (length bytes) ≡ false =
    grind (arith, nat_tests, less, size) in
    ap (λ (t : Bool). opened OsD bytes
    (if t then greeting_by (bytes_eq (take (length greeting) bytes) greeting)
    else opening OsD [])) few

no_cut : (text bytes : List ℕ) → text ≡ [] → IsCutFrom text bytes → ⊥
no_cut text bytes none cut =
    omega (arith, cut.some, length-append bytes cut.rest, ap length cut.joined, ap length none)

frames_open : (pipe : Pipe) (text behind : List ℕ) → text ≡ []
    → framed pipe true 0 (text ++ behind) ≡ framed pipe true (length text) behind
frames_open pipe text behind none =
    ap (λ (front : List ℕ). framed pipe true 0 (front ++ behind)) none
    ∙ ap (λ (front : List ℕ). framed pipe true (length front) behind) (sym none)

-- behind the text come frames
pub opens : (pipe : Pipe) (text behind : List ℕ) → IsFineText pipe text
    → stream pipe (text ++ behind) ≡ framed pipe true (length text) behind
opens CiU text behind h = head_opens CiU (λ x. is_ok (request_verdict true x)) text h behind
opens CoU text behind h = head_opens CoU (λ x. is_ok (request_verdict false x)) text h behind
opens CoD text behind h = head_opens CoD (λ x. is_ok (response_verdict x)) text h behind
opens OsD text behind h =
    subst (λ (x : List ℕ). stream OsD (x ++ behind) ≡ framed OsD true (length x) behind) (sym h)
    (greeting_opens behind)
opens IsU text behind h = frames_open IsU text behind h
opens IsD text behind h = frames_open IsD text behind h
opens OsU text behind h = frames_open OsU text behind h

-- and while it is not whole nothing is told
pub waits : (pipe : Pipe) (text bytes : List ℕ) → IsFineText pipe text → IsCutFrom text bytes
    → stream pipe bytes ≡ stream_is [] None
waits CiU text bytes h cut = head_cut CiU (λ x. is_ok (request_verdict true x)) text h bytes cut
waits CoU text bytes h cut = head_cut CoU (λ x. is_ok (request_verdict false x)) text h bytes cut
waits CoD text bytes h cut = head_cut CoD (λ x. is_ok (response_verdict x)) text h bytes cut
waits OsD text bytes h cut = greeting_cut text bytes h cut
waits IsU text bytes h cut = absurd (no_cut text bytes h cut)
waits IsD text bytes h cut = absurd (no_cut text bytes h cut)
waits OsU text bytes h cut = absurd (no_cut text bytes h cut)
