-- the words of a recording's line, one blank between two of them (profile)
use Rattle.std.specs.Prelude.{◌≡◌, ℕ, ◌≤◌, List, ◌∷◌, ◌++◌, Contains, codes, Some, None, Bool, ◌&&◌, nat_le, IsTrue}
use Rattle.std.specs.declared.option.Option.{Option}
use Rattle.rh_text.specs.Numbers.{IsNumber}
use Rattle.rh_keep.specs.Lifetimes.{is_lifetime}
use Rattle.rh_sig.specs.Values.{is_window, is_timeout, is_keepalive}
use Rattle.rh_line.specs.declared.leg.Leg.{Leg}
use Rattle.rh_line.specs.declared.leg.LegKind.TheVariants.{ClientIn}
use Rattle.rh_line.specs.Texts.{leg_text}
use Rattle.rh_record.specs.declared.words.TheConstants.{BLANK, MOST_NUMBER}
use Rattle.rh_record.specs.declared.reading.TheConstants.{MOST_BYTES, LAST_MOMENT, MOST_ROUNDS}
use Rattle.rh_record.specs.declared.line.Key.{Key}
use Rattle.rh_record.specs.declared.line.Key.TheVariants.{Cwin, Iwin, Owin, Swin, Ilife, Olife, Itime, Otime, Keep, Same}

-- ---- words in a row

-- the text begins with a word, which has no blank, and the rest stands behind its blank
pub record Cut (text word rest : List ℕ) : Type 0 where
  pub one : ¬ Contains word BLANK
  pub joined : text ≡ word ++ BLANK ∷ rest

-- a word of this kind, and behind its blank a text of that one
abbrev pub Then : (List ℕ → Type 0) → (List ℕ → Type 0) → List ℕ → Type 0
Then Here Behind text =
    (word : List ℕ) × (rest : List ℕ) × Cut text word rest × Here word × Behind rest

-- the word alone
abbrev pub Is : List ℕ → List ℕ → Type 0
Is word text = text ≡ word

-- a text of this kind, which is one word
abbrev pub Alone : (List ℕ → Type 0) → List ℕ → Type 0
Alone Here text = Here text × ((word : List ℕ) (rest : List ℕ) → ¬ Cut text word rest)

-- this word, and behind its blank a text of that kind
abbrev pub Word : List ℕ → (List ℕ → Type 0) → List ℕ → Type 0
Word word Behind = Then (Is word) Behind

-- ---- numbers

-- the greatest number of 32 bits
abbrev pub most_number : ℕ
most_number = MOST_NUMBER

-- the most bytes of a give, and the greatest count of a send or a move
abbrev pub most_bytes : ℕ
most_bytes = MOST_BYTES

-- a count of bytes
abbrev pub IsCount : ℕ → List ℕ → Type 0
IsCount count text = IsNumber 1 most_bytes text count

-- a moment, in milliseconds
abbrev pub IsMoment : ℕ → List ℕ → Type 0
IsMoment now text = IsNumber 0 LAST_MOMENT text now

-- a number of rounds
abbrev pub IsRounds : ℕ → List ℕ → Type 0
IsRounds rounds text = IsNumber 1 MOST_ROUNDS text rounds

-- ---- legs

-- a leg is named by its letters and the number of its channel, from 1
pub record IsLeg (leg : Leg) (text : List ℕ) : Type 0 where
  pub spelled : text ≡ leg_text leg
  pub least : 1 ≤ leg.number
  pub most : leg.number ≤ most_number

-- a client's leg of an IN channel
pub record IsInLeg (leg : Leg) (text : List ℕ) : Type 0 where
  pub named : IsLeg leg text
  pub inbound : leg.kind ≡ ClientIn

-- the one leg of a direct recording is cs, and those of a recording of roles have their names
abbrev pub IsRoute : Option Leg → List ℕ → Type 0
IsRoute None text = text ≡ codes "cs"
IsRoute (Some leg) text = IsLeg leg text

-- ---- keys

-- the word for a key
abbrev pub key_word : Key → List ℕ
key_word Cwin = codes "cwin"
key_word Iwin = codes "iwin"
key_word Owin = codes "owin"
key_word Swin = codes "swin"
key_word Ilife = codes "ilife"
key_word Olife = codes "olife"
key_word Itime = codes "itime"
key_word Otime = codes "otime"
key_word Keep = codes "keep"
key_word Same = codes "same"

-- whether a value lies from the lowest to the greatest
abbrev pub within : ℕ → ℕ → ℕ → Bool
within lowest greatest value = nat_le lowest value && nat_le value greatest

-- whether a key takes a value: bytes of a window or a lifetime, milliseconds of a timeout or a
-- keepalive
abbrev pub takes : Key → ℕ → Bool
takes Cwin value = is_window value
takes Iwin value = is_window value
takes Owin value = is_window value
takes Swin value = is_window value
takes Ilife value = is_lifetime value
takes Olife value = is_lifetime value
takes Itime value = is_timeout value
takes Otime value = is_timeout value
takes Keep value = is_keepalive value
takes Same value = within 0 1 value

-- a value of the key
pub record IsValue (key : Key) (value : ℕ) (text : List ℕ) : Type 0 where
  pub spelled : IsNumber 0 most_number text value
  pub taken : IsTrue (takes key value)
