-- what the IN and OUT channels of a client begin with: one packet that asks, before all others
-- (MS-RPCH 2.2.4; successors are this profile's)
use Rattle.std.specs.Prelude.{ℕ, ◌≡◌, ◌≤◌, List, [], ◌∷◌}
use Rattle.std.specs.List.{AllByRecursion}
use Rattle.rh_sig.specs.declared.named.Named.{Named}
use Rattle.rh_sig.specs.declared.named.Named.TheVariants.{ConnA1, ConnB1, InR1A1, OutR1A3, KeepAlive}
use Rattle.rh_shell.specs.Rules.{Message, Text, Pdu, Packet}
use Rattle.rh_client.specs.State.{ci, co}
use Rattle.law_moves.specs.Moves.{OnLeg}
use Rattle.law_moves.specs.Wires.{of_leg}
use Rattle.law_role_client_rows.specs.Putting.{IsPacket}

-- ---- packets that ask

-- CONN/B1 for the first IN channel, IN_R1/A1 for each other
abbrev pub AsksIn : ℕ → Named → Type 0
AsksIn n (ConnB1 version connection channel lifetime keepalive group) = n ≡ 1
AsksIn n (InR1A1 version connection predecessor successor) = 2 ≤ n
AsksIn n packet = ⊥

-- CONN/A1 for the first OUT channel, OUT_R1/A3 for each other
abbrev pub AsksOut : ℕ → Named → Type 0
AsksOut n (ConnA1 version connection channel window) = n ≡ 1
AsksOut n (OutR1A3 version connection predecessor successor window) = 2 ≤ n
AsksOut n packet = ⊥

-- a packet that is none of these, nor KeepAlive
abbrev pub IsNoAskPacket : Named → Type 0
IsNoAskPacket (ConnA1 version connection channel window) = ⊥
IsNoAskPacket (ConnB1 version connection channel lifetime keepalive group) = ⊥
IsNoAskPacket (InR1A1 version connection predecessor successor) = ⊥
IsNoAskPacket (OutR1A3 version connection predecessor successor window) = ⊥
IsNoAskPacket (KeepAlive keepalive) = ⊥
IsNoAskPacket packet = Unit {0}

-- no text, nor a packet that asks, nor KeepAlive
abbrev pub IsNoAsk : Message → Type 0
IsNoAsk (Text bytes) = ⊥
IsNoAsk (Pdu pdu) = Unit {0}
IsNoAsk (Packet packet) = IsNoAskPacket packet

-- ---- a leg

abbrev pub IsText : Message → Type 0
IsText (Text bytes) = Unit {0}
IsText (Pdu pdu) = ⊥
IsText (Packet packet) = ⊥

-- a text, then a packet that asks, and then these, as far as they were put
abbrev pub AsksOnce : (Named → Type 0) → (Message → Type 0) → List Message → Type 0
AsksOnce Asks IsLater [] = Unit {0}
AsksOnce Asks IsLater (text ∷ []) = IsText text
AsksOnce Asks IsLater (text ∷ first ∷ later) =
    IsText text × IsPacket Asks first × AllByRecursion IsLater later

-- ---- the laws, of all that was put

pub record AsksOnceOnEach (put : List OnLeg) : Type 0 where
  pub ins : (n : ℕ) → AsksOnce (AsksIn n) IsNoAsk (of_leg (ci n) put)
  pub outs : (n : ℕ) → AsksOnce (AsksOut n) IsNoAsk (of_leg (co n) put)
