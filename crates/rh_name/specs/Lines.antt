-- a text of packets that are to be named: each line is one packet in hex, in front of it the pipe
-- on which it stands, where that is told
use Rattle.std.specs.Prelude.{◌≡◌, ◌≢◌, ℕ, List, [], ◌∷◌, ◌++◌, Some, None}
use Rattle.std.specs.declared.option.Option.{Option}
use Rattle.rh_text.specs.declared.lines.TheConstants.{LINE_FEED}
use Rattle.rh_text.specs.Lines.{Rules}
use Rattle.rh_show.specs.Lines.{IsPacketHex}
use Rattle.rh_sig.specs.declared.name.Pipe.{Pipe}
use Rattle.rh_name.specs.declared.reader.Asked.{Asked}
use Rattle.rh_name.specs.declared.reader.TheConstants.{BLANK}
use Rattle.rh_name.specs.Telling.{told}
use Rattle.rh_name.specs.Words.{pipe_word}

-- the text spells these bytes, and tells this pipe or none
abbrev pub IsAsked : Option Pipe → List ℕ → List ℕ → Type 0
IsAsked None bytes text = IsPacketHex text bytes
IsAsked (Some pipe) bytes text =
    (hex : List ℕ) × (text ≡ pipe_word pipe ++ BLANK ∷ hex) × IsPacketHex hex bytes

-- what is to spell the bytes stands behind the pipe in front, or is all of the text where none is
abbrev pub IsSplit : List ℕ → Option Pipe → List ℕ → Type 0
IsSplit text None hex =
    (hex ≡ text) × ((pipe : Pipe) (more : List ℕ) → text ≢ pipe_word pipe ++ BLANK ∷ more)
IsSplit text (Some pipe) hex = text ≡ pipe_word pipe ++ BLANK ∷ hex

-- such a line may stand anywhere, and the text may end anywhere (profile)
abbrev pub asked : Rules (Unit {0}) Asked
asked = record {
  Spells = λ _ text line. IsAsked line.pipe line.bytes text;
  next = λ _ _. tt;
  first = tt;
  MayEnd = λ _. Unit {0};
}

-- what the packets of lines are called, one line for each, ended by LF
abbrev pub names_text : List Asked → List ℕ
names_text [] = []
names_text (line ∷ lines) = told line.pipe line.bytes ++ LINE_FEED ∷ names_text lines
