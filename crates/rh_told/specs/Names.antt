-- what the packets among bytes that a node put are called, a line for each (profile)
use Rattle.std.specs.Prelude.{◌==◌, ℕ, List, [], ◌∷◌, ◌++◌, codes, if◌then◌else◌}
use Rattle.std.specs.declared.option.Option.{Option}
use Rattle.rh_text.specs.declared.lines.TheConstants.{LINE_FEED}
use Rattle.rh_pdu.specs.Header.{version}
use Rattle.rh_pdu.specs.Cut.{frames_of}
use Rattle.rh_sig.specs.declared.name.Pipe.{Pipe}
use Rattle.rh_name.specs.Telling.{told}

-- from the first byte on with which a header may begin (C706 12.6.3.1): a head and a greeting,
-- which may stand before it, are printable text and have no such byte
abbrev pub behind_text : List ℕ → List ℕ
behind_text [] = []
behind_text (b ∷ bytes) = if b == version then b ∷ bytes else behind_text bytes

-- what a packet on that pipe is called; on any one where none is told
abbrev pub name_line : Option Pipe → List ℕ → List ℕ
name_line pipe frame = codes "name " ++ (told pipe frame ++ LINE_FEED ∷ [])

abbrev pub names_text : Option Pipe → List (List ℕ) → List ℕ
names_text pipe [] = []
names_text pipe (frame ∷ frames) = name_line pipe frame ++ names_text pipe frames

-- of the packets that are whole, up to the first place where none stands
abbrev pub names_among : Option Pipe → List ℕ → List ℕ
names_among pipe bytes = names_text pipe (frames_of (behind_text bytes))
