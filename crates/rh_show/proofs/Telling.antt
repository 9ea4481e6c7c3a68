-- bytes are told by some text
use Rattle.std.proofs.Common.{ℕ, inl, inr, List, [], ◌∷◌, ◌++◌, length, refl, arith, slice_index}
use Rattle.std.proofs.lemmas.Bool.{cases_lt}
use Rattle.std.proofs.lemmas.Bool.Decides.{eqb_tells}
use Rattle.hex.proofs.HexLemmas.{decode_of-ok}
use Rattle.rh_pdu.specs.Header.{header_length, rts}
use Rattle.rh_rts.specs.Commands.{IsBytes}
use Rattle.rh_rts.proofs.Verdicts.{some_verdict}
use Rattle.rh_text.specs.Lines.{Leads, TextOf}
use Rattle.rh_show.specs.Lines.{packets}
use Rattle.rh_show.specs.Shown.{IsRts, ShownAs, ShowText, judged_text, pdu_text}

-- some text tells the bytes
abbrev IsTold : List ℕ → Type 0
IsTold b = (text : List ℕ) × ShownAs b text

told_rts : (b : List ℕ) → IsBytes b → IsRts b → IsTold b
told_rts b fits is = let j = some_verdict b fits in (judged_text j.0, inl (is, (j.0, j.1, refl)))

told_pdu : (b : List ℕ) → ¬ IsRts b → IsTold b
told_pdu b other = (pdu_text b, inr (other, refl))

pub told : (b : List ℕ) → IsBytes b → IsTold b
told b fits =
    elim (cases_lt (length b) header_length) as (λ _. IsTold b) [
      | inl short ↦ told_pdu b (λ is. omega (arith, short, is.0))
      | inr long ↦ elim (eqb_tells (slice_index b 2) rts) as (λ _. IsTold b) [
        | inl same ↦ told_rts b fits (long, same.1)
        | inr other ↦ told_pdu b (λ is. other.1 is.1)
      ]
    ]

-- the packets of lines are told by some lines
told_lines : (lines : List (List ℕ)) (text rest : List ℕ) → Leads packets tt lines text tt rest
    → (shown : List ℕ) × ShowText lines shown
told_lines [] text rest h = ([], refl)
told_lines (b ∷ lines) text rest h =
    let line = told b (decode_of-ok h.1.spelling b h.1.spelled.digits).3 in
    let more = told_lines lines h.0 rest h.2 in
    (line.0 ++ 10 ∷ more.0, (line.0, more.0, line.1, refl, more.1))

pub show_text : (text : List ℕ) (lines : List (List ℕ)) → TextOf packets text lines
    → (shown : List ℕ) × ShowText lines shown
show_text text lines h = told_lines lines text [] h.read
