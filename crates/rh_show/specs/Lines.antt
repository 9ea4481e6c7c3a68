-- a text of packets: each line is one packet in hex, ended by LF; the last line may lack it
use Rattle.std.specs.Prelude.{ℕ, List}
use Rattle.rh_text.specs.Digits.{IsHex}
use Rattle.rh_text.specs.Lines.{Rules}
use Rattle.rh_show.specs.declared.reader.TheConstants.{MOST_BYTES}

-- the line is hex digits in either case, two for each byte, that spell 1 to 65,535 bytes
abbrev pub IsPacketHex : List ℕ → List ℕ → Type 0
IsPacketHex = IsHex MOST_BYTES

-- such a line may stand anywhere, and the text may end anywhere (profile)
abbrev pub packets : Rules (Unit {0}) (List ℕ)
packets = record {
  Spells = λ _. IsPacketHex;
  next = λ _ _. tt;
  first = tt;
  MayEnd = λ _. Unit {0};
}
