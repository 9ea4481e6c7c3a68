-- judging a line at its place
use Rattle.std.proofs.Common.{◌≡◌, ℕ, List, Some, None, MatchOption, codes, sym, subst}
use Rattle.std.specs.declared.option.Option.{Option}
use Rattle.rh_text.specs.declared.ends.Side.{Side}
use Rattle.rh_text.specs.Ends.{side_word}
use Rattle.rh_text.specs.Digits.{IsHex}
use Rattle.rh_record.specs.declared.line.Line.{Line}
use Rattle.rh_record.specs.declared.line.Line.TheVariants.{Give}
use Rattle.rh_record.specs.declared.place.Place.{Place}
use Rattle.rh_record.specs.Words.{Is, Word}
use Rattle.rh_record.specs.Recording.{LineText}
use Rattle.rh_record.specs.Places.{MayFollow, Stands, next}
use Rattle.rh_record.specs.Readings.{one_line}

-- what is answered of a line at a place
abbrev pub Judged : Place → List ℕ → Option Place → Type 0
Judged place text found = MatchOption found ((line : Line) → Stands place text line → ⊥)
    (λ behind. (line : Line) × Stands place text line × (behind ≡ next place line))

-- a text is judged as the line that it spells
pub judged : (place : Place) (text : List ℕ) (line : Line) (found : Option Place)
    → LineText line text
    → MatchOption found (MayFollow place line → ⊥)
    (λ behind. MayFollow place line × (behind ≡ next place line))
    → Judged place text found
judged place text line None spelled none = λ other stands.
    none (subst (λ l. MayFollow place l) (one_line text other line stands.line_of.spelled spelled)
    (stands.line_of.fitting, stands.standing))
judged place text line (Some behind) spelled h = (
  line,
  record { line_of = record { fitting = h.0.0; spelled = spelled }; standing = h.0.1 },
  h.1,
)

-- a give of which the last word is hex is that line
pub give_spelled : (text : List ℕ) (side : Side) (hex : List ℕ) (pdu : List ℕ)
    → Word (codes "give") (Word (side_word side) (Is hex)) text → IsHex 65536 hex pdu
    → LineText (Give side pdu) text
give_spelled text side hex pdu (word, rest, cut, is, (end, last, later, this, spelled)) h =
    (word, rest, cut, is, (end, last, later, this, subst (λ t. IsHex 65536 t pdu) (sym spelled) h))
