-- what a role is: a machine over messages, which knows no bytes (profile)
use Rattle.std.specs.Prelude.{ℕ, List, [], Bool, Some, None}
use Rattle.std.specs.declared.option.Option.{Option}
use Rattle.std.specs.declared.result.Result.{Result}
use Rattle.rh_rts.specs.declared.command.Cookie.{Cookie}
use Rattle.rh_sig.specs.declared.name.Pipe.{Pipe}
use Rattle.rh_sig.specs.declared.named.Named.{Named}
use Rattle.rh_sig.specs.Naming.{named_bytes}
use Rattle.rh_line.specs.Lines.{Line}
use Rattle.rh_line.specs.declared.leg.Leg.{Leg}
use Rattle.rh_shell.specs.declared.answers.Count.{Count}
use Rattle.rh_shell.specs.declared.answers.HeadRefused.{HeadRefused}
use Rattle.rh_shell.specs.declared.answers.HeadTaken.{HeadTaken}
use Rattle.rh_shell.specs.declared.answers.Phase.{Phase}
use Rattle.rh_shell.specs.declared.answers.Refused.{Refused}
use Rattle.rh_shell.specs.declared.end_role.GiveRefused.{GiveRefused}
use Rattle.rh_shell.specs.declared.end_role.RecycleRefused.{RecycleRefused}

-- ---- messages

-- what is put on a leg, and comes whole there: a head or a greeting, an RPC PDU, or a packet
pub data Message : Type 0 where
  Text : List ℕ → Message
  Pdu : List ℕ → Message
  Packet : Named → Message

abbrev pub spell : Message → List ℕ
spell (Text bytes) = bytes
spell (Pdu bytes) = bytes
spell (Packet named) = named_bytes named

-- ---- rules

-- the answer of a row: it takes what came, or why not
abbrev pub Row : Type 0
Row = Result (Unit {0}) Refused

-- a role whose states are S
pub record Rules (S : Type 0) : Type 0 where
  pub phase : S → Phase
  -- its legs
  pub wants : S → Leg → Bool
  pub may_up : S → Leg → Bool
  pub was_up : S → Leg → Bool
  pub up : S → Leg → Cookie → S
  pub pipe : S → Leg → Option Pipe
  -- what comes
  pub head : S → Leg → List ℕ → S × Result HeadTaken HeadRefused
  pub pdu : S → Leg → Count → List ℕ → S × Row
  pub packet : S → Leg → Count → Named → S × Row
  -- what is put
  pub is_done : S → Leg → Bool
  pub put : S → Leg → Option (S × Message)
  pub drawn : S → Leg → S
  -- ends and breaks
  pub only_marks : S → Leg → Bool
  pub mark : S → Leg → S
  pub answers_on : S → Option Leg
  -- time
  pub silence : S → Leg → Option ℕ
  pub ping_after : S → Leg → Option ℕ
  pub ping : S → Leg → S

-- the role behind a put, and the bytes of what it put
abbrev pub put_into : {S : Type 0} → S → Option (S × Message) → S × List ℕ
put_into s None = (s, [])
put_into s (Some put) = (put.0, spell put.1)

-- what the role of an end does besides
pub record Acts (S : Type 0) : Type 0 where
  pub give : S → List ℕ → S × Result (Unit {0}) GiveRefused
  -- the line from which is taken, and the role behind a take
  pub line : S → Line
  pub take : S → S
  pub close : S → S
  pub recycle : S → S × Result (Unit {0}) RecycleRefused
  -- the IN and the OUT channel in use
  pub channels : S → ℕ × ℕ
