-- the lines of a capture: words with one blank between two of them (profile)
use Rattle.std.specs.Prelude.{ℕ, List, codes}
use Rattle.rh_text.specs.Digits.{IsHex}
use Rattle.rh_text.specs.Numbers.{IsNumber}
use Rattle.rh_record.specs.Words.{Then, Word, most_bytes}
use Rattle.rh_audit.specs.declared.reading.TheConstants.{MOST_TAG}
use Rattle.rh_audit.specs.declared.seen.Seen.{Seen}
use Rattle.rh_audit.specs.Pipes.{IsPipe}

-- the greatest tag
abbrev pub most_tag : ℕ
most_tag = MOST_TAG

-- a tag
abbrev pub IsTag : ℕ → List ℕ → Type 0
IsTag tag text = IsNumber 1 most_tag text tag

-- a line: its tag, its pipe, and its bytes as in a recording
abbrev pub SeenText : Seen → List ℕ → Type 0
SeenText seen =
    Word (codes "seen")
    (Then (IsTag seen.tag)
    (Then (IsPipe seen.pipe) (λ last. IsHex most_bytes last seen.bytes)))
