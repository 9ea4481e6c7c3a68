-- the lines of a capture
use Rattle.std.proofs.Common.{◌≡◌, ℕ, ◌+◌, ◌<◌, ◌≤◌, ◌⊎◌, inl, inr, List, [], ◌∷◌, ◌++◌, length, codes, refl, sym, ap, ◌∙◌, subst, arith}
use Rattle.std.specs.Prelude.{IsTrue, map}
use Rattle.std.proofs.lemmas.List.{length-append}
use Rattle.hex.proofs.HexLemmas.{decode_of-ok}
use Rattle.rh_text.specs.Lines.{BeginsWith, FirstLine, Leads}
use Rattle.rh_text.proofs.Texts.{NoEmpty, OneLine}
use Rattle.rh_record.specs.Words.{Cut}
use Rattle.rh_audit.specs.declared.seen.Seen.{Seen}
use Rattle.rh_audit.specs.Lines.{SeenText}
use Rattle.rh_audit.specs.Pipes.{is_seen}
use Rattle.rh_capture.specs.Reading.{CaptureLine, CapturePlace, First, Saw, Header, Behind, Follows, Stands, captures, lines_with, next}

-- what stands behind a blank is shorter than the text
cut_size : (text word rest : List ℕ) → Cut text word rest → length rest ≤ length text
cut_size text word rest h =
    let size : length text ≡ length word + (length rest + 1) =
    ap length h.joined ∙ length-append word (32 ∷ rest) ∙ omega arith in
    omega (arith, size)

-- a line is at least as long as its bytes
pub bytes_fit : (line : Seen) (text : List ℕ) → SeenText line text
    → length line.bytes ≤ length text
bytes_fit line text (
  verb,
  words,
  cut,
  is,
  (tag, more, cut-more, is-tag, (pipe, hex, cut-hex, is-pipe, digits)),
) =
    let (even, all, twice, bytes) = decode_of-ok hex line.bytes digits.digits in
    let a = cut_size text verb words cut in
    let b = cut_size words tag more cut-more in
    let c = cut_size more pipe hex cut-hex in
    omega (arith, a, b, c, twice)

-- its pipe is one that a capture has
pub pipe_seen : (line : Seen) (text : List ℕ) → SeenText line text → IsTrue (is_seen line.pipe)
pipe_seen line text (
  verb,
  words,
  cut,
  is,
  (tag, more, cut-more, is-tag, (pipe, hex, cut-hex, is-pipe, digits)),
) =
    is-pipe.seen

-- no line is spelled by nothing
no_cut : (word rest : List ℕ) → Cut [] word rest → ⊥
no_cut word rest h =
    let size : 0 ≡ length word + (length rest + 1) =
    ap length h.joined ∙ length-append word (32 ∷ rest) ∙ omega arith in
    absurd (omega (arith, size))

pub none_empty : NoEmpty captures
none_empty Header First h = absurd (cc)
none_empty Header (Saw line) h = h
none_empty (Behind seen) First h = h
none_empty (Behind seen) (Saw line) h = no_cut h.spelled.0 h.spelled.1 h.spelled.2

-- what is left of a text behind its first line
pub behind_fits : (text line behind : List ℕ) → BeginsWith text line behind
    → length line + length behind ≤ length text
behind_fits text line behind h = elim h.joined as (λ _. length line + length behind ≤ length text) [
  | inl e ↦
      let size : length text ≡ length line + (length behind + 1) =
      ap length e ∙ length-append line (10 ∷ behind) ∙ omega arith in
      omega (arith, size)
  | inr e ↦
      let here = ap length e.0 in
      let none = ap length e.1 in
      omega (arith, here, none)
]

-- ---- lines with one more

pub lines_more : (seen : List Seen) (line : Seen)
    → lines_with (seen ++ line ∷ []) ≡ lines_with seen ++ Saw line ∷ []
lines_more seen line = ap (λ (x : List CaptureLine). First ∷ x) (by seen)
  where
    by : (all : List Seen) → map Saw (all ++ line ∷ []) ≡ map Saw all ++ Saw line ∷ []
    by [] = refl
    by (one ∷ all) = ap (λ (x : List CaptureLine). Saw one ∷ x) (by all)
