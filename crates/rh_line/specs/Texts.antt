-- the texts of legs and of causes (profile)
use Rattle.std.specs.Prelude.{ℕ, List, [], ◌++◌, codes}
use Rattle.std.specs.Fmt.{decimal}
use Rattle.rh_pdu.specs.Texts.{head_fault_text}
use Rattle.rh_rts.specs.declared.fault.RtsFault.{RtsFault}
use Rattle.rh_rts.specs.Texts.{kind_name}
use Rattle.rh_sig.specs.Cookies.{text_of_cookie}
use Rattle.rh_http.specs.Names.{fault_name}
use Rattle.rh_line.specs.declared.leg.Leg.{Leg}
use Rattle.rh_line.specs.declared.leg.LegKind.{LegKind}
use Rattle.rh_line.specs.declared.leg.LegKind.TheVariants as legs
use Rattle.rh_line.specs.declared.cause.Cause.{Cause}
use Rattle.rh_line.specs.declared.cause.Cause.TheVariants as causes

-- ---- legs

-- the letters of a kind: its client or server end, and the direction of its channel
abbrev pub letters_of : LegKind → List ℕ
letters_of legs.ClientOut = codes "co"
letters_of legs.OutServer = codes "os"
letters_of legs.ClientIn = codes "ci"
letters_of legs.InServer = codes "is"

-- a leg: its letters and its number
abbrev pub leg_text : Leg → List ℕ
leg_text leg = letters_of leg.kind ++ decimal leg.number

-- ---- causes

-- the number of a cause
abbrev pub cause_number : Cause → ℕ
cause_number (causes.LegBroken _) = 1
cause_number (causes.LegEnded _ _) = 2
cause_number (causes.BadFrame _ _ _) = 3
cause_number (causes.BadPacket _ _ _) = 4
cause_number (causes.Unexpected _ _) = 5
cause_number (causes.CookieMismatch _ _ _) = 6
cause_number (causes.WindowExceeded _ _ _) = 7
cause_number (causes.OutOfRange _ _ _) = 8
cause_number (causes.HttpRefused _ _) = 9
cause_number (causes.BadHead _ _ _) = 10
cause_number (causes.Silent _ _ _) = 11
cause_number (causes.ControlFull _) = 12
cause_number (causes.BodyOver _ _ _) = 13

-- its name
abbrev pub cause_name : Cause → List ℕ
cause_name (causes.LegBroken _) = codes "LegBroken"
cause_name (causes.LegEnded _ _) = codes "LegEnded"
cause_name (causes.BadFrame _ _ _) = codes "BadFrame"
cause_name (causes.BadPacket _ _ _) = codes "BadPacket"
cause_name (causes.Unexpected _ _) = codes "Unexpected"
cause_name (causes.CookieMismatch _ _ _) = codes "CookieMismatch"
cause_name (causes.WindowExceeded _ _ _) = codes "WindowExceeded"
cause_name (causes.OutOfRange _ _ _) = codes "OutOfRange"
cause_name (causes.HttpRefused _ _) = codes "HttpRefused"
cause_name (causes.BadHead _ _ _) = codes "BadHead"
cause_name (causes.Silent _ _ _) = codes "Silent"
cause_name (causes.ControlFull _) = codes "ControlFull"
cause_name (causes.BodyOver _ _ _) = codes "BodyOver"

-- its first field, the leg on which it was found
abbrev pub cause_leg : Cause → Leg
cause_leg (causes.LegBroken leg) = leg
cause_leg (causes.LegEnded leg _) = leg
cause_leg (causes.BadFrame leg _ _) = leg
cause_leg (causes.BadPacket leg _ _) = leg
cause_leg (causes.Unexpected leg _) = leg
cause_leg (causes.CookieMismatch leg _ _) = leg
cause_leg (causes.WindowExceeded leg _ _) = leg
cause_leg (causes.OutOfRange leg _ _) = leg
cause_leg (causes.HttpRefused leg _) = leg
cause_leg (causes.BadHead leg _ _) = leg
cause_leg (causes.Silent leg _ _) = leg
cause_leg (causes.ControlFull leg) = leg
cause_leg (causes.BodyOver leg _ _) = leg

-- a word, with a space before it
abbrev pub word : List ℕ → List ℕ
word text = codes " " ++ text

-- a number in decimal, with a space before it
abbrev pub number_word : ℕ → List ℕ
number_word n = word (decimal n)

-- an RTS fault: its kind and its place
abbrev pub rts_fault_words : RtsFault → List ℕ
rts_fault_words fault = word (kind_name fault.kind) ++ number_word fault.place

-- the fields behind the leg, in their order
abbrev pub more_fields : Cause → List ℕ
more_fields (causes.LegBroken _) = []
more_fields (causes.LegEnded _ partial) = number_word partial
more_fields (causes.BadFrame _ place fault) = number_word place ++ word (head_fault_text fault)
more_fields (causes.BadPacket _ place fault) = number_word place ++ rts_fault_words fault
more_fields (causes.Unexpected _ place) = number_word place
more_fields (causes.CookieMismatch _ expected got) =
    word (text_of_cookie expected.0) ++ word (text_of_cookie got.0)
more_fields (causes.WindowExceeded _ reached edge) = number_word reached ++ number_word edge
more_fields (causes.OutOfRange _ command value) = number_word command ++ number_word value
more_fields (causes.HttpRefused _ status) = number_word status
more_fields (causes.BadHead _ place fault) = number_word place ++ word (fault_name fault)
more_fields (causes.Silent _ since now) = number_word since ++ number_word now
more_fields (causes.ControlFull _) = []
more_fields (causes.BodyOver _ count length) = number_word count ++ number_word length

-- a cause: its number, its name and its fields, with one space between two of them
abbrev pub cause_text : Cause → List ℕ
cause_text cause =
    (decimal (cause_number cause) ++ word (cause_name cause) ++ word (leg_text (cause_leg cause)))
    ++ more_fields cause
