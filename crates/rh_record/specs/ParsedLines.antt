-- lines of which the bytes of a give are not read yet
use Rattle.std.specs.Prelude.{ℕ, List, codes, Some, None}
use Rattle.std.specs.declared.option.Option.{Option}
use Rattle.rh_text.specs.Ends.{side_word}
use Rattle.rh_record.specs.declared.line.Line.{Line}
use Rattle.rh_record.specs.declared.reading.Parsed.{Parsed}
use Rattle.rh_record.specs.declared.reading.Parsed.TheVariants.{Give, Plain}
use Rattle.rh_record.specs.Words.{Cut, Is, Word}
use Rattle.rh_record.specs.Recording.{LineText}

-- the text is no line; or it is this line; or it is a give but for the word behind its end
abbrev pub IsParsed : Option Parsed → List ℕ → Type 0
IsParsed None text = (line : Line) → ¬ LineText line text
IsParsed (Some (Plain line)) text = LineText line text
IsParsed (Some (Give side hex)) text = Word (codes "give") (Word (side_word side) (Is hex.now)) text

-- with this verb before them, the words behind it are parsed so
abbrev pub IsBehind : List ℕ → List ℕ → Option Parsed → Type 0
IsBehind verb rest found = (text : List ℕ) → Cut text verb rest → IsParsed found text
