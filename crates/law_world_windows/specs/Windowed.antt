-- where rows refuse a PDU for its window, or an acknowledgement as out of range (MS-RPCH 3.2)
use Rattle.std.specs.Prelude.{ℕ, ◌≡◌, List, Err}
use Rattle.rh_sig.specs.declared.named.Named.{Named}
use Rattle.rh_sig.specs.declared.named.Named.TheVariants.{Ack, AckTo}
use Rattle.rh_line.specs.declared.leg.Leg.{Leg}
use Rattle.rh_line.specs.declared.leg.LegKind.{LegKind}
use Rattle.rh_shell.specs.declared.answers.Count.{Count}
use Rattle.rh_shell.specs.declared.answers.Refused.TheVariants as refused
use Rattle.rh_shell.specs.Rules.{Row, Rules}

-- a row that refuses a PDU for its window does so on a leg of the kind where windows are kept, and
-- none refuses one as out of range
abbrev pub PduFits : LegKind → LegKind → Row → Type 0
PduFits windows kind (Err (refused.Window exceeded)) = kind ≡ windows
PduFits windows kind (Err (refused.OutOfRange command value)) = ⊥
PduFits windows kind row = Unit {0}

-- a packet is an acknowledgement (MS-RPCH 2.2.4)
abbrev pub IsAck : Named → Type 0
IsAck (Ack received available channel) = Unit {0}
IsAck (AckTo to received available channel) = Unit {0}
IsAck named = ⊥

-- a row that refuses a packet as out of range does so of an acknowledgement, on a leg of the kind
-- where those are judged, and none refuses one for a window
abbrev pub PacketFits : LegKind → LegKind → Named → Row → Type 0
PacketFits ranges kind named (Err (refused.Window exceeded)) = ⊥
PacketFits ranges kind named (Err (refused.OutOfRange command value)) =
    IsAck named × (kind ≡ ranges)
PacketFits ranges kind named row = Unit {0}

-- in whatever state the role is, its rows refuse PDUs alone for a window, on legs of the one kind,
-- and acknowledgements alone as out of range, on legs of the other
pub record RefusesOn {S : Type 0} (rules : Rules S) (windows ranges : LegKind) : Type 0 where
  pub pdus : (role : S) (leg : Leg) (count : Count) (pdu : List ℕ)
      → PduFits windows leg.kind (rules.pdu role leg count pdu).1
  pub packets : (role : S) (leg : Leg) (count : Count) (named : Named)
      → PacketFits ranges leg.kind named (rules.packet role leg count named).1
