-- the smallest end, for tests alone: what is given waits in one queue, and what comes in one line
-- (profile)
use Rattle.std.specs.Prelude.{ℕ, ◌+◌, ◌==◌, ◌++◌, List, [], ◌∷◌, length, Bool, if◌then◌else◌, nat_lt, Some, None, Ok, Err}
use Rattle.std.specs.declared.option.Option.{Option}
use Rattle.std.specs.declared.result.Result.{Result}
use Rattle.rh_pdu.specs.Checking.{checked, pdu_fault}
use Rattle.rh_pdu.specs.declared.fault.PduFault.{PduFault}
use Rattle.rh_line.specs.Queue.{queue_bytes, total}
use Rattle.rh_line.specs.declared.leg.TheConstants.{LAST_NUMBER}
use Rattle.rh_line.specs.declared.leg.Leg.{Leg}
use Rattle.rh_line.specs.declared.leg.LegKind.TheVariants.{InServer}
use Rattle.rh_line.specs.declared.line_fault.LineFault.{LineFault}
use Rattle.rh_line.specs.declared.line_fault.LineFault.TheVariants as line
use Rattle.rh_shell.specs.declared.answers.Refused.TheVariants as refused
use Rattle.rh_shell.specs.declared.end_role.GiveRefused.{GiveRefused}
use Rattle.rh_shell.specs.declared.end_role.GiveRefused.TheVariants.{Closing, BadPdu, Full}
use Rattle.rh_shell.specs.declared.end_role.RecycleRefused.{RecycleRefused}
use Rattle.rh_shell.specs.declared.end_role.RecycleRefused.TheVariants.{Busy, Last}
use Rattle.rh_shell.specs.Rules.{Row}

-- why a PDU is not taken into the line
abbrev pub row_of : Result (Unit {0}) LineFault → Row
row_of (Ok admitted) = Ok tt
row_of (Err (line.Window exceeded)) = Err (refused.Window exceeded)
row_of (Err line.Over) = Err refused.Unexpected

-- why a PDU is not accepted
abbrev pub give_by : List (List ℕ) → List ℕ → Result (Unit {0}) PduFault
    → Result (Unit {0}) GiveRefused
give_by queue pdu (Err fault) = Err (BadPdu fault)
give_by queue pdu (Ok whole) =
    if nat_lt queue_bytes (total queue + length pdu)
    then Err (Full (total queue) (length pdu)) else Ok tt

abbrev pub give_verdict : Bool → List (List ℕ) → List ℕ → Result (Unit {0}) GiveRefused
give_verdict closing queue pdu =
    if closing then Err Closing else give_by queue pdu (checked (pdu_fault pdu))

abbrev pub queue_by : List (List ℕ) → List ℕ → Result (Unit {0}) GiveRefused → List (List ℕ)
queue_by queue pdu (Ok accepted) = queue ++ pdu ∷ []
queue_by queue pdu (Err refused) = queue

-- the successor's leg of the replacement that is under way then, where the number may grow
abbrev pub recycled : Option Leg → ℕ → Option Leg × Result (Unit {0}) RecycleRefused
recycled (Some leg) number = (Some leg, Err (Busy leg))
recycled None number =
    if number == LAST_NUMBER then (None, Err Last)
    else (Some (record { kind = InServer; number = 2 }), Ok tt)
