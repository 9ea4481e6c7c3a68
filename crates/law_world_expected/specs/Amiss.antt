-- a node that closes since it was not the turn of what came, another cookie was named (MS-RPCH
-- 3.2), or too many packets wait (profile): its role refuses the next message that was put at the
-- other end of the leg
use Rattle.std.specs.Prelude.{◌≡◌, ◌⊎◌, List, IsTrue, true, Some, None, Err}
use Rattle.std.specs.declared.option.Option.{Option}
use Rattle.rh_sig.specs.declared.name.Pipe.{Pipe}
use Rattle.rh_line.specs.declared.cause.Cause.{Cause}
use Rattle.rh_line.specs.declared.cause.Cause.TheVariants as cause
use Rattle.rh_line.specs.declared.leg.Leg.{Leg}
use Rattle.rh_shell.specs.declared.answers.Count.{Count}
use Rattle.rh_shell.specs.declared.answers.Refused.{Refused}
use Rattle.rh_shell.specs.declared.answers.Refused.TheVariants as refused
use Rattle.rh_shell.specs.Hearing.{is_upward}
use Rattle.rh_shell.specs.Rules.{Message, Text, Pdu, Packet, Rules}
use Rattle.law_moves.specs.Moves.{Passage, is_in_use}
use Rattle.law_moves.specs.Wires.{of_leg}
use Rattle.law_moves.specs.ReadBack.Reading.{all_read_of}
use Rattle.law_moves.specs.Passages.Counted.{Tells, packets}
use Rattle.law_peers_moments.specs.Expecting.{HasNoPingFirst, IsAhead}

-- what a row refused, by the cause of the node
abbrev pub amiss_by : Cause → Option Refused
amiss_by (cause.Unexpected leg place) = Some refused.Unexpected
amiss_by (cause.CookieMismatch leg expected got) = Some (refused.Cookie expected got)
amiss_by (cause.ControlFull full) = Some (refused.Full full)
amiss_by why = None

-- a row of the role in this state refuses the message, where so many packets came before
abbrev pub RefusesBy : {S : Type 0} → Rules S → S → Leg → Count → Refused → Message → Type 0
RefusesBy rules role leg count why (Text bytes) = ⊥
RefusesBy rules role leg count why (Pdu pdu) = (rules.pdu role leg count pdu).1 ≡ Err why
RefusesBy rules role leg count why (Packet named) =
    (rules.packet role leg count named).1 ≡ Err why

-- on a leg that was up and is in use, a row refuses the next message so, by its true count
pub record NextIsAmiss {S : Type 0} (rules : Rules S) (p : Passage S) (leg : Leg)
    (all : List Message) (why : Refused) : Type 0 where
  pub in_use : IsTrue (is_in_use rules p.role leg)
  pub was_up : IsTrue (rules.was_up p.role leg)
  pub count : Count
  pub counts : Tells count (packets (of_leg leg p.came))
  pub message : Message
  pub ahead : IsAhead p leg all message
  pub refuses : RefusesBy rules p.role leg count why message

-- or the first packet that was put on a leg towards the server is a Ping, which is unexpected
abbrev pub AmissNext : {S : Type 0} → Rules S → Passage S → Leg → Option Pipe → List Message
    → Refused → Type 0
AmissNext rules p leg pipe put why =
    NextIsAmiss rules p leg (all_read_of put) why
    ⊎ ((why ≡ refused.Unexpected) × (is_upward pipe ≡ true) × (HasNoPingFirst put → ⊥))
