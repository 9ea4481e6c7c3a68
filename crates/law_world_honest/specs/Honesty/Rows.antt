-- rows that refuse a value out of range in an acknowledgement alone (MS-RPCH 3.2)
use Rattle.std.specs.Prelude.{ℕ, ◌≡◌, List, Err}
use Rattle.rh_window.specs.declared.fault.TheConstants.{FLOW_CONTROL_ACK}
use Rattle.rh_sig.specs.declared.named.Named.{Named}
use Rattle.rh_line.specs.declared.leg.Leg.{Leg}
use Rattle.rh_shell.specs.declared.answers.Count.{Count}
use Rattle.rh_shell.specs.declared.answers.Refused.TheVariants as refused
use Rattle.rh_shell.specs.Rules.{Row, Rules}

-- a value that it refuses as out of range is an acknowledgement's
abbrev pub IsOfAck : Row → Type 0
IsOfAck (Err (refused.OutOfRange command value)) = command ≡ FLOW_CONTROL_ACK
IsOfAck row = Unit {0}

-- so it is of all rows of a role
pub record RefusesAcks {S : Type 0} (rules : Rules S) : Type 0 where
  pub packet : (role : S) (leg : Leg) (count : Count) (named : Named)
      → IsOfAck (rules.packet role leg count named).1
  pub pdu : (role : S) (leg : Leg) (count : Count) (pdu : List ℕ)
      → IsOfAck (rules.pdu role leg count pdu).1
