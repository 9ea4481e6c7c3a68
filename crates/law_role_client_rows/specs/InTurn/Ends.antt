-- what stands on the ci legs behind IN_R1/A5 and END/A1 (MS-RPCH 3.2.2.5; successors are this
-- profile's)
use Rattle.std.specs.Prelude.{ℕ, ◌≡◌, ◌<◌, ◌++◌, List, [], ◌∷◌}
use Rattle.std.specs.List.{AllByRecursion}
use Rattle.rh_rts.specs.declared.command.Cookie.{Cookie}
use Rattle.rh_sig.specs.declared.named.Named.TheVariants.{InR1A5, EndA1}
use Rattle.rh_shell.specs.Rules.{Message, Text, Pdu, Packet}
use Rattle.rh_client.specs.State.{ci}
use Rattle.law_moves.specs.Moves.{OnLeg}
use Rattle.law_moves.specs.Wires.{of_leg}
use Rattle.law_moves.specs.Passages.Passing.{Has}

abbrev pub IsNoPdu : Message → Type 0
IsNoPdu (Text bytes) = Unit {0}
IsNoPdu (Pdu pdu) = ⊥
IsNoPdu (Packet packet) = Unit {0}

-- there is no RPC PDU among them
abbrev pub HasNoPdu : List Message → Type 0
HasNoPdu messages = AllByRecursion IsNoPdu messages

abbrev pub IsNoEnd : Message → Type 0
IsNoEnd (Text bytes) = Unit {0}
IsNoEnd (Pdu pdu) = Unit {0}
IsNoEnd (Packet EndA1) = ⊥
IsNoEnd (Packet packet) = Unit {0}

-- there is no END/A1 among them
abbrev pub HasNoEnd : List Message → Type 0
HasNoEnd messages = AllByRecursion IsNoEnd messages

-- ---- the laws

-- IN_R1/A5 is the last message of its leg
abbrev pub EndsByInR1A5 : List OnLeg → Type 0
EndsByInR1A5 put =
    (n : ℕ) (before later : List Message) (successor : Cookie)
    → of_leg (ci n) put ≡ before ++ Packet (InR1A5 successor) ∷ later → later ≡ []

-- behind END/A1 stands no RPC PDU on its leg, and no other END/A1
abbrev pub EndsOnce : List OnLeg → Type 0
EndsOnce put =
    (n : ℕ) (before later : List Message)
    → of_leg (ci n) put ≡ before ++ Packet EndA1 ∷ later → HasNoPdu later × HasNoEnd later

-- where END/A1 stands, the channels behind that one carry no RPC PDU at all
abbrev pub EndsAll : List OnLeg → Type 0
EndsAll put =
    (n m : ℕ) → n < m → Has EndA1 (of_leg (ci n) put) → HasNoPdu (of_leg (ci m) put)
