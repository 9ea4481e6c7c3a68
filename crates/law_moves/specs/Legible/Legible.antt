-- which messages read back: what a role puts on a leg is what is taken there (MS-RPCH 2.2.3.6,
-- 2.2.4)
use Rattle.std.specs.Prelude.{◌≡◌, List, [], ◌∷◌, Some, None, Ok}
use Rattle.std.specs.List.{AllByRecursion}
use Rattle.std.specs.declared.option.Option.{Option}
use Rattle.rh_pdu.specs.Frames.{IsFrame, IsPdu}
use Rattle.rh_rts.specs.Commands.{HaveSizes}
use Rattle.rh_sig.specs.declared.name.Pipe.{Pipe}
use Rattle.rh_sig.specs.declared.named.Named.{Named}
use Rattle.rh_sig.specs.Names.{IsCarried}
use Rattle.rh_sig.specs.Values.{AreInRange, MayBeWritten, commands_of, name_of_named}
use Rattle.rh_line.specs.declared.leg.Leg.{Leg}
use Rattle.rh_shell.specs.Rules.{Message, Text, Pdu, Packet, spell}
use Rattle.law_moves.specs.Carrying.{message_in, named_messages}
use Rattle.law_moves.specs.Moves.{OnLeg, Passage}

-- ---- what may be put

-- the values of a packet have their sizes and are in range, and its destination is a role
pub record IsFine (named : Named) : Type 0 where
  pub sizes : HaveSizes (commands_of named)
  pub ranges : AreInRange (commands_of named)
  pub destination : MayBeWritten named

-- and a pipe carries it
pub record MayGo (pipe : Pipe) (named : Named) : Type 0 where
  pub fine : IsFine named
  pub carried : IsCarried (name_of_named named) pipe

-- a head or a greeting is no frame
abbrev pub MayGoOn : Option Pipe → Message → Type 0
MayGoOn pipe (Text bytes) = Unit {0}
MayGoOn pipe (Pdu pdu) = IsPdu pdu
MayGoOn (Some pipe) (Packet named) = MayGo pipe named
MayGoOn None (Packet named) = ⊥

-- ---- what is read there

-- the message that is taken of one that was put: a Ping is passed over
abbrev pub taken_of : Message → List Message
taken_of (Text bytes) = Text bytes ∷ []
taken_of (Pdu pdu) = Pdu pdu ∷ []
taken_of (Packet named) = named_messages (Ok named)

-- its bytes are a frame, which is taken as what was put
pub record IsTaken (pipe : Option Pipe) (message : Message) : Type 0 where
  pub frame : IsFrame (spell message)
  pub taken : message_in pipe (spell message) ≡ taken_of message

abbrev pub ReadsBack : Option Pipe → Message → Type 0
ReadsBack pipe (Text bytes) = Unit {0}
ReadsBack pipe (Pdu pdu) = IsTaken pipe (Pdu pdu)
ReadsBack pipe (Packet named) = IsTaken pipe (Packet named)

-- ---- what passed a role

-- each message in a log may go on its leg's pipe
abbrev pub AllMayGo : (Leg → Option Pipe) → List OnLeg → Type 0
AllMayGo pipe log = AllByRecursion (λ (one : OnLeg). MayGoOn (pipe one.0) one.1) log

abbrev pub IsFineMessage : Message → Type 0
IsFineMessage (Text bytes) = Unit {0}
IsFineMessage (Pdu pdu) = IsPdu pdu
IsFineMessage (Packet named) = IsFine named

-- what came has its sizes and ranges
abbrev pub AreFine : List OnLeg → Type 0
AreFine log = AllByRecursion (λ (one : OnLeg). IsFineMessage one.1) log

-- what was put reads back, each message on its pipe
abbrev pub AllReadBack : (Leg → Option Pipe) → List OnLeg → Type 0
AllReadBack pipe log = AllByRecursion (λ (one : OnLeg). ReadsBack (pipe one.0) one.1) log

-- all that was put may go on its pipe, and so reads back there
pub record AreLegible (pipe : Leg → Option Pipe) (log : List OnLeg) : Type 0 where
  pub may_go : AllMayGo pipe log
  pub read_back : AllReadBack pipe log

-- so it is where all that came is fine
abbrev pub IsLegible : {S : Type 0} → (Leg → Option Pipe) → Passage S → Type 0
IsLegible pipe p = AreFine p.came → AreLegible pipe p.put
