-- what is seen of the messages that are put on legs towards the server (MS-RPCH 2.2.4; profile)
use Rattle.std.specs.Prelude.{◌≡◌, ℕ, List, [], ◌∷◌}
use mathlib.Core.List.{IsPrefix}
use Rattle.rh_text.specs.declared.ends.Dir.TheVariants.{U}
use Rattle.rh_sig.specs.declared.named.Named.{Named}
use Rattle.rh_sig.specs.Values.{commands_of, name_of_named}
use Rattle.rh_line.specs.declared.leg.LegKind.{LegKind}
use Rattle.rh_shell.specs.Rules.{Message, Text, Pdu, Packet}
use Rattle.rh_wires.specs.Wires.{receiver, sender}
use Rattle.rh_nodes.specs.Settling.{leg_at}
use Rattle.rh_audit.specs.declared.packet.Met.{Met}
use Rattle.rh_audit.specs.declared.packet.Met.TheVariants as met
use Rattle.rh_audit.specs.declared.packet.Packet as seen
use Rattle.rh_audit.specs.Packets.{latest, no_cookies}
use Rattle.law_moves.specs.Wires.{of_leg}
use Rattle.law_moves.specs.ReadBack.Reading.{all_read_of}
use Rattle.law_peers_moments.specs.Moments.{Moves, Numbers, Passages, came_to, end_of, passages, put_by}

-- ---- messages

-- the name of a packet, and its last two cookies
abbrev pub packet_of : Named → seen.Packet
packet_of named = record {
  name = name_of_named named;
  cookies = latest no_cookies (commands_of named);
}

-- what the frames of messages are; a text is none
abbrev pub mets_of : List Message → List Met
mets_of [] = []
mets_of (Text bytes ∷ messages) = mets_of messages
mets_of (Pdu pdu ∷ messages) = met.Pdu ∷ mets_of messages
mets_of (Packet named ∷ messages) = met.Packet (packet_of named) ∷ mets_of messages

-- the messages that are frames
abbrev pub framed : List Message → List Message
framed [] = []
framed (Text bytes ∷ messages) = framed messages
framed (Pdu pdu ∷ messages) = Pdu pdu ∷ framed messages
framed (Packet named ∷ messages) = Packet named ∷ framed messages

-- this was met of frames that were put at one end of a leg; all that came at the other is among them
pub record IsShown (put came : List Message) (mets : List Met) : Type 0 where
  pub front : List Message
  pub is : mets ≡ mets_of front
  pub of_put : IsPrefix front (framed put)
  pub of_came : IsPrefix came (all_read_of front)

-- ---- legs

-- what was put on a leg towards the server, and what came there
abbrev pub put_up : Passages → (ℕ → ℕ) → LegKind → ℕ → List Message
put_up all reader kind n =
    of_leg (leg_at kind n) (put_by all (end_of reader (leg_at kind n) (sender U)))

abbrev pub came_up : Passages → (ℕ → ℕ) → LegKind → ℕ → List Message
came_up all reader kind n =
    of_leg (leg_at kind n) (came_to all (end_of reader (leg_at kind n) (receiver U)))

-- of the legs of a kind, by their numbers
abbrev pub AreShown : Numbers → (ℕ → ℕ) → Moves → LegKind → (ℕ → List Met) → Type 0
AreShown numbers reader moves kind mets =
    (n : ℕ) → IsShown (put_up (passages numbers moves) reader kind n)
    (came_up (passages numbers moves) reader kind n) (mets n)
