-- the text of a recording: lines of words (profile)
use Rattle.std.specs.Prelude.{ℕ, List, Bool, true, false, not, codes, None, IsTrue}
use Rattle.rh_text.specs.Ends.{side_word, dir_word}
use Rattle.rh_text.specs.Digits.{IsHex}
use Rattle.rh_record.specs.declared.line.Line.{Line}
use Rattle.rh_record.specs.declared.line.Line.TheVariants.{First, Set, Give, Take, Close, Send, Move}
use Rattle.rh_record.specs.declared.line.Line.TheVariants.{OpenLeg, OpenSame, BreakLeg, EndLeg, Tick, RecycleIn, RecycleOut, Settle}
use Rattle.rh_record.specs.declared.line.RecordKind.{RecordKind}
use Rattle.rh_record.specs.declared.line.RecordKind.TheVariants.{Header, Direct, Roles}
use Rattle.rh_record.specs.Words.{Alone, Is, Word, Then, IsCount, IsMoment, IsRounds, IsLeg, IsInLeg, IsRoute, IsValue, key_word, most_bytes}

-- the word for the form of a recording
abbrev pub form_word : Bool → List ℕ
form_word false = codes "direct"
form_word true = codes "roles"

-- the text spells the line
abbrev pub LineText : Line → List ℕ → Type 0
LineText (First roles) = Word (codes "rh") (Word (codes "1") (Is (form_word roles)))
LineText (Set key value) = Word (codes "set") (Word (key_word key) (IsValue key value))
LineText (Give side pdu) =
    Word (codes "give") (Word (side_word side) (λ last. IsHex most_bytes last pdu))
LineText (Take side) = Word (codes "take") (Is (side_word side))
LineText (Close side) = Word (codes "close") (Is (side_word side))
LineText (Send leg dir count) =
    Word (codes "send") (Then (IsRoute leg) (Word (dir_word dir) (IsCount count)))
LineText (Move leg dir count) =
    Word (codes "move") (Then (IsRoute leg) (Word (dir_word dir) (IsCount count)))
LineText (OpenLeg leg) = Word (codes "open") (Alone (IsLeg leg))
LineText (OpenSame leg) = Word (codes "open") (Then (IsInLeg leg) (Is (codes "same")))
LineText (BreakLeg leg) = Word (codes "break") (IsLeg leg)
LineText (EndLeg leg dir) = Word (codes "end") (Then (IsLeg leg) (Is (dir_word dir)))
LineText (Tick now) = Word (codes "tick") (IsMoment now)
LineText RecycleIn = Word (codes "recycle") (Is (codes "in"))
LineText RecycleOut = Word (codes "recycle") (Is (codes "out"))
LineText (Settle rounds) = Word (codes "settle") (IsRounds rounds)

-- whether a line may stand at a place for lines of this kind
abbrev pub fits : RecordKind → Line → Bool
fits Header (First _) = true
fits Direct (Give _ _) = true
fits Direct (Take _) = true
fits Direct (Send None _ _) = true
fits Direct (Move None _ _) = true
fits Roles (First _) = false
fits Roles (Send None _ _) = false
fits Roles (Move None _ _) = false
fits Roles _ = true
fits _ _ = false

-- the text is this line, at a place for lines of this kind
pub record IsLine (kind : RecordKind) (text : List ℕ) (line : Line) : Type 0 where
  pub fitting : IsTrue (fits kind line)
  pub spelled : LineText line text
