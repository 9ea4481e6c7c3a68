-- what the bytes of a leg are read as at its end, whatever role it has: a head (RFC 9112 section
-- 2.1) or a greeting (profile) first, and then frames (C706 12.6.3.1)
use Rattle.std.specs.Prelude.{ℕ, ◌≡◌, ◌⊎◌, ◌<◌, ◌++◌, List, [], ◌∷◌, length, take, Bool, true, false, if◌then◌else◌, nat_lt, Some, None}
use Rattle.std.specs.List.{flat_map, AllByRecursion}
use Rattle.std.specs.declared.option.Option.{Option}
use mathlib.Core.List.{IsPrefix}
use Rattle.rh_pdu.specs.declared.fault.HeadFault.{HeadFault}
use Rattle.rh_pdu.specs.Header.{header_length, frag_of, head_fault}
use Rattle.rh_sig.specs.declared.name.Pipe.{Pipe}
use Rattle.rh_shell.specs.declared.stage.Stage.{Stage}
use Rattle.rh_shell.specs.declared.stage.Stage.TheVariants as stage
use Rattle.law_moves.specs.Carrying.{message_in}
use Rattle.rh_shell.specs.Intakes.{is_whole_head, is_whole_greeting}
use Rattle.rh_shell.specs.NearEnds.{first_stage}
use Rattle.rh_shell.specs.Rules.{Message, Text, Pdu, Packet}
use Rattle.law_moves.specs.Legible.Legible.{taken_of}

-- what the next bytes are, and those that are not whole yet
pub record Reading : Type 0 where
  pub stage : Stage
  pub held : List ℕ

abbrev pub reading : Stage → List ℕ → Reading
reading stage held = record { stage = stage; held = held }

-- where no byte came yet
abbrev pub begin : Option Pipe → Reading
begin pipe = reading (first_stage pipe) []

-- ---- a byte

-- behind a whole head or greeting come frames
abbrev pub text_read : Stage → List ℕ → Bool → Reading × List Message
text_read first all true = (reading stage.Frames [], [])
text_read first all false = (reading first all, [])

-- behind a header that breaks a rule nothing is read
abbrev pub frame_read : Option Pipe → List ℕ → Option HeadFault → Reading × List Message
frame_read pipe all (Some fault) = (reading stage.Shut all, [])
frame_read pipe all None =
    if nat_lt (length all) (frag_of all) then (reading stage.Frames all, [])
    else (reading stage.Frames [], message_in pipe all)

abbrev pub read_by : Option Pipe → Stage → List ℕ → Reading × List Message
read_by pipe stage.Head all = text_read stage.Head all (is_whole_head all)
read_by pipe stage.Greeting all = text_read stage.Greeting all (is_whole_greeting all)
read_by pipe stage.Frames all =
    if nat_lt (length all) header_length then (reading stage.Frames all, [])
    else frame_read pipe all (head_fault all)
read_by pipe stage.PassedOver all = (reading stage.PassedOver all, [])
read_by pipe stage.Shut all = (reading stage.Shut all, [])

-- the messages that are whole by a byte: PDUs and packets without Pings
unfoldable pub read_byte : Option Pipe → Reading → ℕ → Reading × List Message
read_byte pipe r b = read_by pipe r.stage (r.held ++ b ∷ [])

-- ---- bytes

abbrev pub reading_after : Option Pipe → Reading → List ℕ → Reading
reading_after pipe r [] = r
reading_after pipe r (b ∷ bytes) = reading_after pipe (read_byte pipe r b).0 bytes

abbrev pub messages_from : Option Pipe → Reading → List ℕ → List Message
messages_from pipe r [] = []
messages_from pipe r (b ∷ bytes) =
    (read_byte pipe r b).1 ++ messages_from pipe (read_byte pipe r b).0 bytes

-- all messages in the bytes of a leg
abbrev pub messages_read : Option Pipe → List ℕ → List Message
messages_read pipe bytes = messages_from pipe (begin pipe) bytes

-- ---- what was put

abbrev pub IsNoText : Message → Type 0
IsNoText (Text bytes) = ⊥
IsNoText (Pdu pdu) = Unit {0}
IsNoText (Packet named) = Unit {0}

abbrev pub AreNoTexts : List Message → Type 0
AreNoTexts messages = AllByRecursion IsNoText messages

-- a text that is whole at its end, and no sooner
pub record IsWholeText (is_whole : List ℕ → Bool) (text : List ℕ) : Type 0 where
  pub whole : is_whole text ≡ true
  pub front : (k : ℕ) → 0 < k → k < length text → is_whole (take k text) ≡ false

-- no front of the bytes has a message
abbrev pub ReadsNothing : Option Pipe → List ℕ → Type 0
ReadsNothing pipe bytes = (front : List ℕ) → IsPrefix front bytes → messages_read pipe front ≡ []

-- a whole text goes first and no other behind it, or one alone in which no message is read
abbrev pub BeginsWith : Option Pipe → (List ℕ → Bool) → List Message → Type 0
BeginsWith pipe is_whole [] = Unit {0}
BeginsWith pipe is_whole (Text text ∷ messages) =
    (IsWholeText is_whole text × AreNoTexts messages)
    ⊎ (ReadsNothing pipe text × (messages ≡ []))
BeginsWith pipe is_whole (Pdu pdu ∷ messages) = ⊥
BeginsWith pipe is_whole (Packet named ∷ messages) = ⊥

-- what was put on a leg begins as its end reads it
abbrev pub BeginsBy : Option Pipe → Stage → List Message → Type 0
BeginsBy pipe stage.Head messages = BeginsWith pipe is_whole_head messages
BeginsBy pipe stage.Greeting messages = BeginsWith pipe is_whole_greeting messages
BeginsBy pipe stage.Frames messages = AreNoTexts messages
BeginsBy pipe stage.PassedOver messages = ⊥
BeginsBy pipe stage.Shut messages = ⊥

abbrev pub Begins : Option Pipe → List Message → Type 0
Begins pipe messages = BeginsBy pipe (first_stage pipe) messages

-- what is read of a message: of a text nothing, and a Ping is passed over
abbrev pub read_of : Message → List Message
read_of (Text bytes) = []
read_of (Pdu pdu) = taken_of (Pdu pdu)
read_of (Packet named) = taken_of (Packet named)

abbrev pub all_read_of : List Message → List Message
all_read_of messages = flat_map read_of messages
