-- a node that closes for what a row of its role refuses (MS-RPCH 3.2)
use Rattle.std.specs.Prelude.{◌≡◌, ◌++◌, ℕ, List, [], ◌∷◌, Some, None, Err}
use Rattle.std.specs.declared.option.Option.{Option}
use Rattle.rh_sig.specs.declared.name.Pipe.{Pipe}
use Rattle.rh_line.specs.declared.cause.Cause.{Cause}
use Rattle.rh_line.specs.declared.cause.Cause.TheVariants as cause
use Rattle.rh_line.specs.declared.leg.Leg.{Leg}
use Rattle.rh_shell.specs.declared.answers.Count.{Count}
use Rattle.rh_shell.specs.declared.answers.Refused.{Refused}
use Rattle.rh_shell.specs.declared.answers.Refused.TheVariants as refused
use Rattle.rh_shell.specs.Rules.{Rules, Message, Text, Pdu, Packet}
use Rattle.law_moves.specs.ReadBack.Reading.{messages_read}

-- what a row refused, by the cause of the node: a PDU for its window, or a value out of range
abbrev pub refused_by : Cause → Option Refused
refused_by (cause.WindowExceeded leg reached edge) =
    Some (refused.Window (record { reached = reached; edge = edge }))
refused_by (cause.OutOfRange leg command value) = Some (refused.OutOfRange command value)
refused_by why = None

-- a row of the role in this state refuses the message
abbrev pub RefusesMessage : {S : Type 0} → Rules S → S → Leg → Refused → Message → Type 0
RefusesMessage rules role leg why (Text bytes) = ⊥
RefusesMessage rules role leg why (Pdu pdu) =
    (count : Count) × ((rules.pdu role leg count pdu).1 ≡ Err why)
RefusesMessage rules role leg why (Packet named) =
    (count : Count) × ((rules.packet role leg count named).1 ≡ Err why)

-- these came, the next message in the bytes is one more, and a row refuses that
pub record RefusesNext {S : Type 0} (rules : Rules S) (role : S) (leg : Leg) (why : Refused)
    (pipe : Option Pipe) (came : List Message) (bytes : List ℕ) : Type 0 where
  pub message : Message
  pub next : messages_read pipe bytes ≡ came ++ message ∷ []
  pub refuses : RefusesMessage rules role leg why message
