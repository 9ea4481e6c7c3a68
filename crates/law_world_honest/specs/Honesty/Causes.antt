-- why a node closes by a piece that reads well: its role sees to it (MS-RPCH 3.2), or a body is
-- longer than its head told
use Rattle.std.specs.Prelude.{ℕ, ◌≡◌, ◌⊎◌, List, false, Err}
use Rattle.std.specs.declared.option.Option.{Option}
use Rattle.rh_rts.specs.declared.fault.RtsFault.{RtsFault}
use Rattle.rh_sig.specs.declared.fault.SigFault.TheVariants as sig
use Rattle.rh_sig.specs.declared.name.Pipe.{Pipe}
use Rattle.rh_sig.specs.declared.named.Named.{Named}
use Rattle.rh_line.specs.declared.leg.Leg.{Leg}
use Rattle.rh_line.specs.declared.cause.Cause.{Cause}
use Rattle.rh_line.specs.declared.cause.Cause.TheVariants as cause
use Rattle.rh_shell.specs.declared.answers.Count.{Count}
use Rattle.rh_shell.specs.declared.answers.Refused.{Refused}
use Rattle.rh_shell.specs.declared.answers.Refused.TheVariants as refused
use Rattle.rh_shell.specs.declared.reading.PacketFault.TheVariants as unread
use Rattle.rh_shell.specs.NearEnds.{first_stage}
use Rattle.rh_shell.specs.Rules.{Rules}
use Rattle.law_moves.specs.ReadBack.Well.{Answers}
use Rattle.law_world_honest.specs.Honesty.Heads.{RefusesBadHead}

-- no faulty packet reads well, and no value out of range
pub record AreStrict (well : Answers) : Type 0 where
  pub packets : (fault : RtsFault) → well (Err (unread.Rts fault)) ≡ false
  pub ranges : (command value : ℕ) → well (Err (unread.Sig (sig.OutOfRange command value))) ≡ false

-- a row of the role refuses a packet or a PDU on the leg, whatever the role's state is
abbrev pub RowRefuses : {S : Type 0} → Rules S → Leg → Refused → Type 0
RowRefuses {S} rules leg why =
    ((role : S) × (count : Count) × (named : Named)
    × ((rules.packet role leg count named).1 ≡ Err why))
    ⊎ ((role : S) × (count : Count) × (pdu : List ℕ)
    × ((rules.pdu role leg count pdu).1 ≡ Err why))

-- no frame or packet is bad, a value is out of range for a row alone, and a head is bad as is said
abbrev pub IsOfRole : {S : Type 0} → Rules S → Leg → Type 0 → Cause → Type 0
IsOfRole rules leg IsBad (cause.BadFrame l place fault) = ⊥
IsOfRole rules leg IsBad (cause.BadPacket l place fault) = ⊥
IsOfRole rules leg IsBad (cause.OutOfRange l command value) =
    RowRefuses rules leg (refused.OutOfRange command value)
IsOfRole rules leg IsBad (cause.BadHead l place fault) = IsBad
IsOfRole rules leg IsBad why = Unit {0}

-- of all bytes that were heard on the leg, where the pipe is read: a head is bad where the role
-- refuses the one with which they begin
abbrev pub IsOfHeard : {S : Type 0} → Rules S → Leg → Option Pipe → List ℕ → Cause → Type 0
IsOfHeard rules leg pipe heard why =
    IsOfRole rules leg (RefusesBadHead rules leg (first_stage pipe) 0 heard) why
