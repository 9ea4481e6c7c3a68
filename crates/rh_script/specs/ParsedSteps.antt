-- lines of which the words or the bytes at the end are not read yet
use Rattle.std.specs.Prelude.{◌≡◌, ℕ, List, IsAscii, codes, Some, None}
use Rattle.std.specs.declared.option.Option.{Option}
use Rattle.rh_record.specs.Words.{Cut, Is, Then, Word, IsLeg}
use Rattle.rh_script.specs.declared.step.Step.{Step}
use Rattle.rh_script.specs.declared.step.Step.TheVariants as steps
use Rattle.rh_script.specs.declared.reading.Parsed.{Parsed}
use Rattle.rh_script.specs.declared.reading.Parsed.TheVariants.{Case, Feed, Give, First, Plain}
use Rattle.rh_script.specs.Steps.{cut_word}
use Rattle.rh_script.specs.Scripts.{StepText, IsBytes}

-- the text is no line; or it is this line; or it is one but for its last words
abbrev pub IsParsed : Option Parsed → List ℕ → Type 0
IsParsed None text = (step : Step) → ¬ StepText step text
IsParsed (Some (Plain step)) text = StepText step text
IsParsed (Some (Case words)) text = Word (codes "case") (Is words.now) text
IsParsed (Some (Feed cut leg hex)) text = Word (cut_word cut) (Then (IsLeg leg) (Is hex.now)) text
IsParsed (Some (Give hex)) text = Word (codes "give") (Is hex.now) text
IsParsed (Some (First hex)) text = Word (codes "first") (Is hex.now) text

-- with this word before them, the words behind it are parsed so
abbrev pub IsBehind : List ℕ → List ℕ → Option Parsed → Type 0
IsBehind word rest found = (text : List ℕ) → Cut text word rest → IsParsed found text

-- the last words are some that the line may have
abbrev pub IsWhole : Parsed → Type 0
IsWhole (Plain step) = Unit {0}
IsWhole (Case words) = IsAscii words.now
IsWhole (Feed cut leg hex) = (bytes : List ℕ) × IsBytes bytes hex.now
IsWhole (Give hex) = (bytes : List ℕ) × IsBytes bytes hex.now
IsWhole (First hex) = (bytes : List ℕ) × IsBytes bytes hex.now

-- with its last words read it is this line
abbrev pub IsRead : Parsed → Step → Type 0
IsRead (Plain line) step = step ≡ line
IsRead (Case words) step = (step ≡ steps.Case words.now) × IsAscii words.now
IsRead (Feed cut leg hex) step =
    (bytes : List ℕ) × (step ≡ steps.Feed cut leg bytes) × IsBytes bytes hex.now
IsRead (Give hex) step = (bytes : List ℕ) × (step ≡ steps.Give bytes) × IsBytes bytes hex.now
IsRead (First hex) step = (bytes : List ℕ) × (step ≡ steps.First bytes) × IsBytes bytes hex.now
