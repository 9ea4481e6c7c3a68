-- what order sees in the frames of a stream (MS-RPCH 2.2.4; the handover marks are this profile's)
use Rattle.std.specs.Prelude.{◌≡◌, ℕ, List, [], ◌∷◌}
use Rattle.rh_sig.specs.declared.name.Pipe.{Pipe}
use Rattle.rh_sig.specs.declared.named.Named.{Named}
use Rattle.rh_sig.specs.Values.{name_of_named}
use Rattle.rh_shell.specs.Rules.{Message, Text, Pdu, Packet}
use Rattle.rh_audit.specs.Packets.{marks}
use Rattle.law_order.specs.Items.{Item, Piece, has_handover, pdus}
use Rattle.law_moves.specs.Legible.Legible.{MayGo}

-- of the messages that may go on a pipe: an RPC PDU is one, a text none; and a packet is the
-- handover mark where the audit takes it for one
pub record Fits (pipe : Pipe) (view : Message → List Item) : Type 0 where
  pub text : (bytes : List ℕ) → view (Text bytes) ≡ []
  pub pdu : (pdu : List ℕ) → view (Pdu pdu) ≡ Piece pdu ∷ []
  pub none : (named : Named) → MayGo pipe named → pdus (view (Packet named)) ≡ []
  pub mark : (named : Named) → MayGo pipe named
      → has_handover (view (Packet named)) ≡ marks (name_of_named named)
