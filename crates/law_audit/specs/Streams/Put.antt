-- what is put on a pipe, as the stream that it is (MS-RPCH 2.2.4)
use Rattle.std.specs.Prelude.{◌≡◌, ℕ, List, [], ◌∷◌, map, is_some, true, Some, None}
use Rattle.std.specs.List.{AllByRecursion}
use mathlib.Core.List.{IsPrefix}
use Rattle.rh_sig.specs.declared.name.Pipe.{Pipe}
use Rattle.rh_sig.specs.declared.named.Named.{Named}
use Rattle.rh_sig.specs.Values.{commands_of, name_of_named}
use Rattle.rh_audit.specs.declared.packet.Packet as seen
use Rattle.rh_audit.specs.Packets.{first_of, latest, no_cookies}
use Rattle.rh_audit.specs.Pipes.{is_upward}
use Rattle.rh_audit.specs.Streams.{stream, stream_is}
use Rattle.rh_shell.specs.Rules.{Message, Text, Pdu, Packet, spell}
use Rattle.law_moves.specs.Legible.Legible.{MayGoOn}
use Rattle.law_moves.specs.ReadBack.Reading.{AreNoTexts}
use Rattle.law_audit.specs.Streams.Texts.{IsFineText}

-- the text that goes first, and the messages behind it
abbrev pub text_of : List Message → List ℕ
text_of [] = []
text_of (Text text ∷ messages) = text
text_of (Pdu pdu ∷ messages) = []
text_of (Packet named ∷ messages) = []

abbrev pub behind_text : List Message → List Message
behind_text [] = []
behind_text (Text text ∷ messages) = messages
behind_text (Pdu pdu ∷ messages) = Pdu pdu ∷ messages
behind_text (Packet named ∷ messages) = Packet named ∷ messages

-- a packet as it is seen: its name, and its last two cookies
abbrev pub packet_of : Named → seen.Packet
packet_of named = record {
  name = name_of_named named;
  cookies = latest no_cookies (commands_of named);
}

-- one with which a leg begins
abbrev pub IsFirst : Message → Type 0
IsFirst (Text text) = ⊥
IsFirst (Pdu pdu) = ⊥
IsFirst (Packet named) = is_some (first_of (packet_of named)) ≡ true

abbrev pub BeginsFrames : Pipe → List Message → Type 0
BeginsFrames pipe [] = Unit {0}
BeginsFrames pipe (message ∷ messages) = is_upward pipe ≡ true → IsFirst message

-- a fine text, where any is put first, and then messages that may go on the pipe, of which the
-- first on a pipe towards the server is one with which a leg begins
pub record IsStreamed (pipe : Pipe) (put : List Message) : Type 0 where
  pub text : IsFineText pipe (text_of put)
  pub no_texts : AreNoTexts (behind_text put)
  pub may_go : AllByRecursion (MayGoOn (Some pipe)) (behind_text put)
  pub first : BeginsFrames pipe (behind_text put)

-- the bytes are a stream that is not broken, of the first of these messages
pub record IsStreamOf (pipe : Pipe) (messages : List Message) (bytes : List ℕ) : Type 0 where
  pub front : List Message
  pub of_messages : IsPrefix front messages
  pub is : stream pipe bytes ≡ stream_is (map spell front) None
