-- the text of a capture: its first line, and one line for bytes that were seen (profile)
use Rattle.std.specs.Prelude.{ℕ, List, [], ◌∷◌, ◌++◌, codes}
use Rattle.std.specs.Fmt.{decimal}
use Rattle.hex.specs.Hex.{encode_lower}
use Rattle.rh_audit.specs.declared.seen.Seen.{Seen}
use Rattle.rh_audit.specs.Pipes.{pipe_word}

abbrev pub first_text : List ℕ
first_text = codes "cap 1\n"

-- a line with its LF
abbrev pub line_text : Seen → List ℕ
line_text line =
    codes "seen " ++ (decimal line.tag ++ (codes " " ++ (pipe_word line.pipe ++ (codes " "
    ++ (encode_lower line.bytes ++ codes "\n")))))

abbrev pub lines_text : List Seen → List ℕ
lines_text [] = []
lines_text (line ∷ lines) = line_text line ++ lines_text lines

abbrev pub capture_text : List Seen → List ℕ
capture_text lines = first_text ++ lines_text lines
