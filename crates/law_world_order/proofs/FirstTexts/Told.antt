-- a front of a text that is told as a response is one only where it is all of that text
use Rattle.law_order.proofs.Vocabulary.{◌≡◌, ℕ, ◌-◌, ◌≤◌, ◌<◌, List, ◌++◌, length, take, Bool, true, false, cond, Ok, Err, refl, sym, ap, ◌∙◌, subst, arith, ⊎_elim, Result, cases_lt, take-append_seam, length-take, IsPrefix}
use Rattle.rh_http.proofs.EndLemmas.{fits}
use Rattle.rh_http.proofs.Heads.EndLemmas.{whole_to}
use Rattle.rh_http.specs.Heads.Heads.{response_head}
use Rattle.rh_http.specs.Heads.Readers.{all_of}
use Rattle.law_moves.proofs.Vocabulary.{in_all, in_front, whole_response, HttpFault, TooLong, Response, EndsAt, FirstEnd, JudgesResponse, IsToldAs, is_whole, response_judged, response_verdict}

-- a text that is a response ends with its first blank line
pub read_whole : (text : List ℕ) (response : Response) → response_verdict text ≡ Ok response
    → is_whole text ≡ true
unfolding response_verdict
read_whole text response = by (is_whole text)
  where
    by : (t : Bool)
        → cond {A = Result Response HttpFault} t (response_judged (all_of (response_head text)))
        (Err TooLong) ≡ Ok response
        → t ≡ true
    by true e = refl
    by false e = absurd cc

module _ (status n : ℕ) (text : List ℕ) (told : IsToldAs status n text) (front behind : List ℕ)
    (response : Response) (at : IsPrefix front (text ++ behind))
    (read : response_verdict front ≡ Ok response) where
  abbrev all : List ℕ
  all = text ++ behind

  first : FirstEnd (take 16384 all) (length text)
  first = (told behind).0

  whole : FirstEnd front (length front)
  whole = whole_to front (read_whole front response read)

  front_is : take (length front) all ≡ front
  front_is =
      ap (λ (x : List ℕ). take (length front) x) (sym at.1) ∙ take-append_seam front at.0

  ends : EndsAt all (length front)
  ends =
      in_all all (length front) (length front)
      (subst (λ (x : List ℕ). EndsAt x (length front)) (sym front_is) whole.ends)

  short : length text ≤ 16384
  short =
      omega (
        arith,
        fits (take 16384 all) (length text - 4) first.ends.1,
        first.ends.0,
        length-take 16384 all,
      )

  same_length : length front ≡ length text
  same_length = ⊎_elim below above (cases_lt (length front) (length text))
    where
      below : length front < length text → length front ≡ length text
      below less =
          let least = first.first (length front)
          (in_front all (length front) 16384 ends (omega (arith, less, short))) in
          absurd (omega (arith, less, least))

      above : length text ≤ length front → length front ≡ length text
      above more =
          let least = whole.first (length text)
          (subst (λ (x : List ℕ). EndsAt x (length text)) front_is
          (in_front all (length text) (length front)
          (in_all all (length text) 16384 first.ends) more)) in
          omega (arith, more, least)

  text_is : take (length text) all ≡ front
  text_is = ap (λ (k : ℕ). take k all) (sym same_length) ∙ front_is

  same : record { status = status; length = n } ≡ response
  same =
      let judged =
      whole_response front (Ok (record { status = status; length = n })) whole
      (subst (λ (x : List ℕ). JudgesResponse x (Ok (record { status = status; length = n })))
      text_is (told behind).1) in
      let both : Ok (record { status = status; length = n }) ≡ Ok response = judged ∙ read in cc

  pub front_told : (front ≡ text) × (response.status ≡ status)
  front_told = (
    sym text_is ∙ take-append_seam text behind,
    ap (λ (r : Response). r.status) (sym same),
  )

  pub told_length : response.length ≡ n
  told_length = ap (λ (r : Response). r.length) (sym same)
