-- the text of a script: lines of words (profile)
use Rattle.std.specs.Prelude.{◌≡◌, ℕ, List, ◌∷◌, IsAscii, length, codes, Some, None}
use Rattle.std.specs.declared.option.Option.{Option}
use Rattle.rh_text.specs.Digits.{IsHex}
use Rattle.rh_text.specs.Lines.{Rules}
use Rattle.rh_text.specs.Numbers.{IsNumber}
use Rattle.rh_rts.specs.declared.command.Cookie.{Cookie}
use Rattle.rh_rts.specs.declared.command.TheConstants.{COOKIE_LEN}
use Rattle.rh_line.specs.declared.leg.Leg.{Leg}
use Rattle.rh_record.specs.Words.{Alone, Is, Then, Word, IsCount, IsLeg, IsMoment, IsValue, key_word, most_bytes, most_number}
use Rattle.rh_script.specs.declared.reading.TheConstants.{HASH}
use Rattle.rh_script.specs.declared.step.Part.TheVariants as parts
use Rattle.rh_script.specs.declared.step.Step.{Step}
use Rattle.rh_script.specs.declared.step.Step.TheVariants as steps
use Rattle.rh_script.specs.Steps.{act_word, ask_word, cut_word, loss_word, naming_word}

-- a comment
abbrev pub IsNote : List ℕ → Type 0
IsNote text = (rest : List ℕ) × (text ≡ HASH ∷ rest)

-- words of ASCII alone
abbrev pub IsWords : List ℕ → List ℕ → Type 0
IsWords words text = (text ≡ words) × IsAscii words

-- the number of a channel
abbrev pub IsChannel : ℕ → List ℕ → Type 0
IsChannel number text = IsNumber 1 most_number text number

-- the bytes that come, as hex
abbrev pub IsBytes : List ℕ → List ℕ → Type 0
IsBytes bytes text = IsHex most_bytes text bytes

-- the 16 bytes of a cookie, as hex
abbrev pub IsCookie : Cookie → List ℕ → Type 0
IsCookie cookie text = IsHex COOKIE_LEN text cookie.0 × (length cookie.0 ≡ COOKIE_LEN)

-- a leg, and the cookie behind it, where one stands there
abbrev pub IsUp : Leg → Option Cookie → List ℕ → Type 0
IsUp leg None = Alone (IsLeg leg)
IsUp leg (Some cookie) = Then (IsLeg leg) (IsCookie cookie)

-- the text spells the line
abbrev pub StepText : Step → List ℕ → Type 0
StepText steps.Note = IsNote
StepText (steps.Case words) = Word (codes "case") (IsWords words)
StepText (steps.Set key value) = Word (codes "set") (Word (key_word key) (IsValue key value))
StepText (steps.Names naming) = Word (codes "names") (Is (naming_word naming))
StepText (steps.Begin parts.Client) = Is (codes "client")
StepText (steps.Begin parts.Server) = Is (codes "server")
StepText (steps.Begin (parts.InProxy number)) = Word (codes "inproxy") (IsChannel number)
StepText (steps.Begin (parts.OutProxy number)) = Word (codes "outproxy") (IsChannel number)
StepText (steps.Ask ask leg) = Word (ask_word ask) (IsLeg leg)
StepText (steps.Up leg cookie) = Word (codes "up") (IsUp leg cookie)
StepText (steps.Feed cut leg bytes) = Word (cut_word cut) (Then (IsLeg leg) (IsBytes bytes))
StepText (steps.Draw leg count) = Word (codes "draw") (Then (IsLeg leg) (IsCount count))
StepText (steps.Lose loss leg) = Word (loss_word loss) (IsLeg leg)
StepText (steps.Tick now) = Word (codes "tick") (IsMoment now)
StepText (steps.Give pdu) = Word (codes "give") (IsBytes pdu)
StepText (steps.Act act) = Is (act_word act)
StepText (steps.First bytes) = Word (codes "first") (IsBytes bytes)

-- a line may stand anywhere, and a script may end anywhere
abbrev pub script : Rules (Unit {0}) Step
script = record {
  Spells = λ _ text step. StepText step text;
  next = λ _ _. tt;
  first = tt;
  MayEnd = λ _. Unit {0};
}
