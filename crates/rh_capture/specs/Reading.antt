-- the text of a capture: its first line, and then lines of bytes that were seen; each tag has one
-- kind of leg (profile)
use Rattle.std.specs.Prelude.{◌≡◌, ℕ, List, [], ◌∷◌, ◌++◌, map, codes}
use Rattle.std.specs.List.{AllByRecursion}
use Rattle.rh_text.specs.Lines.{Rules, TextOf, IsText, FirstBad}
use Rattle.rh_audit.specs.declared.seen.Seen.{Seen}
use Rattle.rh_audit.specs.Captures.{IsOfKind, of_tag}
use Rattle.rh_audit.specs.Lines.{SeenText}
use Rattle.rh_audit.specs.Pipes.{kind_of}
use Rattle.rh_capture.specs.declared.refused.CaptureRefused.{CaptureRefused}
use Rattle.rh_capture.specs.declared.refused.CaptureRefused.TheVariants.{BadLine, NoMemory}

-- a line
pub data CaptureLine : Type 0 where
  First : CaptureLine
  Saw : Seen → CaptureLine

-- where a line stands: it is the first, or these lines of bytes stand before it
pub data CapturePlace : Type 0 where
  Header : CapturePlace
  Behind : List Seen → CapturePlace

-- all lines with this tag so far have pipes of the same kind of leg
abbrev pub MayFollow : List Seen → Seen → Type 0
MayFollow seen line = AllByRecursion (IsOfKind (kind_of line.pipe)) (of_tag line.tag seen)

-- a line of bytes that were seen, behind these
pub record Follows (seen : List Seen) (text : List ℕ) (line : Seen) : Type 0 where
  pub spelled : SeenText line text
  pub fits : MayFollow seen line

-- the text is this line at this place
abbrev pub Stands : CapturePlace → List ℕ → CaptureLine → Type 0
Stands Header text First = text ≡ codes "cap 1"
Stands Header text (Saw line) = ⊥
Stands (Behind seen) text First = ⊥
Stands (Behind seen) text (Saw line) = Follows seen text line

abbrev pub next : CapturePlace → CaptureLine → CapturePlace
next Header line = Behind []
next (Behind seen) First = Behind seen
next (Behind seen) (Saw line) = Behind (seen ++ line ∷ [])

-- a capture may end behind its first line
abbrev pub MayEnd : CapturePlace → Type 0
MayEnd Header = ⊥
MayEnd (Behind seen) = Unit {0}

abbrev pub captures : Rules CapturePlace CaptureLine
captures = record { Spells = Stands; next = next; first = Header; MayEnd = MayEnd }

-- the lines of a capture in which this was seen
abbrev pub lines_with : List Seen → List CaptureLine
lines_with seen = First ∷ map Saw seen

-- the text is a capture in which this was seen
abbrev pub IsCaptureOf : List ℕ → List Seen → Type 0
IsCaptureOf text seen = TextOf captures text (lines_with seen)

-- why a text was not read
abbrev pub Refuses : List ℕ → CaptureRefused → Type 0
Refuses text (BadLine number) = FirstBad captures text number × ¬ IsText captures text
Refuses text NoMemory = Unit {0}
