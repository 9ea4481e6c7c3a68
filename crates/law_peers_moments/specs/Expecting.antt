-- a node takes what comes next: no row refuses it as unexpected or for its cookie (MS-RPCH 3.2;
-- profile)
use Rattle.std.specs.Prelude.{◌≡◌, ◌++◌, ℕ, List, [], ◌∷◌, IsTrue, Err}
use mathlib.Core.List.{IsPrefix}
use Rattle.rh_sig.specs.declared.named.Named.{Named}
use Rattle.rh_sig.specs.declared.named.Named.TheVariants.{Ping}
use Rattle.rh_line.specs.declared.leg.Leg.{Leg}
use Rattle.rh_shell.specs.declared.answers.Count.{Count}
use Rattle.rh_shell.specs.declared.answers.Refused.{Refused}
use Rattle.rh_shell.specs.declared.answers.Refused.TheVariants as refused
use Rattle.law_moves.specs.Moves.{Passage, is_in_use}
use Rattle.rh_shell.specs.Rules.{Message, Text, Pdu, Packet, Rules}
use Rattle.law_moves.specs.Wires.{of_leg}
use Rattle.law_moves.specs.Passages.Counted.{Tells, packets}

-- it was not the turn of what came, or it named another cookie
abbrev pub IsAmiss : Refused → Type 0
IsAmiss refused.Unexpected = Unit {0}
IsAmiss (refused.Cookie expected got) = Unit {0}
IsAmiss why = ⊥

-- the message is the next of all that was put at the other end of the leg
abbrev pub IsAhead : {S : Type 0} → Passage S → Leg → List Message → Message → Type 0
IsAhead p leg all message = IsPrefix (of_leg leg p.came ++ message ∷ []) all

-- on a leg that was up and is in use, the next message is not refused so, by its true count
pub record Expects {S : Type 0} (rules : Rules S) (p : Passage S) (leg : Leg)
    (all : List Message) : Type 0 where
  pub packet : (count : Count) (named : Named) (why : Refused)
      → IsTrue (is_in_use rules p.role leg) → IsTrue (rules.was_up p.role leg)
      → Tells count (packets (of_leg leg p.came)) → IsAhead p leg all (Packet named)
      → (rules.packet p.role leg count named).1 ≡ Err why → IsAmiss why → ⊥
  pub pdu : (count : Count) (bytes : List ℕ) (why : Refused)
      → IsTrue (is_in_use rules p.role leg) → IsTrue (rules.was_up p.role leg)
      → IsAhead p leg all (Pdu bytes)
      → (rules.pdu p.role leg count bytes).1 ≡ Err why → IsAmiss why → ⊥

-- the first packet that was put on a leg is no Ping
abbrev pub HasNoPingFirst : List Message → Type 0
HasNoPingFirst [] = Unit {0}
HasNoPingFirst (Text bytes ∷ messages) = HasNoPingFirst messages
HasNoPingFirst (Pdu pdu ∷ messages) = HasNoPingFirst messages
HasNoPingFirst (Packet named ∷ messages) = named ≡ Ping → ⊥
