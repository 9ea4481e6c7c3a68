-- bytes of a leg that read well at its end: no header breaks a rule, each packet reads as it may
-- there, and a greeting is the greeting (C706 12.6.3.1; MS-RPCH 2.2.3.6, 2.2.4; the greeting is
-- this profile's)
use Rattle.std.specs.Prelude.{ℕ, ◌≡◌, ◌++◌, List, [], ◌∷◌, length, slice_index, Bool, true, false, nat_lt, Some, None, Ok, Err}
use Rattle.std.specs.declared.option.Option.{Option}
use Rattle.std.specs.declared.result.Result.{Result}
use mathlib.Core.List.{IsPrefix}
use Rattle.rh_pdu.specs.declared.fault.HeadFault.{HeadFault}
use Rattle.rh_pdu.specs.declared.header.TheConstants.{PTYPE_AT}
use Rattle.rh_pdu.specs.Header.{rts, header_length, frag_of, head_fault}
use Rattle.rh_sig.specs.declared.fault.SigFault.TheVariants as sig
use Rattle.rh_sig.specs.declared.name.Pipe.{Pipe}
use Rattle.rh_sig.specs.declared.named.Named.{Named}
use Rattle.rh_shell.specs.declared.reading.PacketFault.{PacketFault}
use Rattle.rh_shell.specs.declared.reading.PacketFault.TheVariants as unread
use Rattle.rh_shell.specs.declared.stage.Stage.{Stage}
use Rattle.rh_shell.specs.declared.stage.Stage.TheVariants as stage
use Rattle.rh_shell.specs.Hearing.{is_greeting}
use Rattle.rh_shell.specs.Intakes.{is_whole_greeting}
use Rattle.rh_shell.specs.Readings.{packet_of}
use Rattle.rh_shell.specs.Rules.{Message, Text, Pdu, Packet}
use Rattle.law_moves.specs.ReadBack.Reading.{Reading, begin, read_byte}

-- ---- packets

-- which answers of reading are well
abbrev pub Answers : Type 0
Answers = Result Named PacketFault → Bool

-- the packet has a name on its pipe, and its values are in range
abbrev pub is_named : Answers
is_named (Ok named) = true
is_named (Err fault) = false

-- or it has no name there, but is a packet
abbrev pub is_packet : Answers
is_packet (Ok named) = true
is_packet (Err (unread.Rts fault)) = false
is_packet (Err (unread.Sig sig.Unknown)) = true
is_packet (Err (unread.Sig (sig.OutOfRange command value))) = false

-- what was put reads well
abbrev pub AreTaken : Answers → Type 0
AreTaken well = (named : Named) → well (Ok named) ≡ true

-- ---- bytes

-- a whole frame of the type of RTS PDUs
abbrev pub FrameIsWell : Answers → Option Pipe → List ℕ → Type 0
FrameIsWell well pipe frame =
    slice_index frame PTYPE_AT ≡ rts → well (packet_of frame pipe) ≡ true

-- behind a whole header
abbrev pub HeaderIsWell : Answers → Option Pipe → List ℕ → Option HeadFault → Type 0
HeaderIsWell well pipe all (Some fault) = ⊥
HeaderIsWell well pipe all None =
    nat_lt (length all) (frag_of all) ≡ false → FrameIsWell well pipe all

-- behind a byte
abbrev pub ByteIsWell : Answers → Option Pipe → Stage → List ℕ → Type 0
ByteIsWell well pipe stage.Head all = Unit {0}
ByteIsWell well pipe stage.Greeting all = is_whole_greeting all ≡ true → is_greeting all ≡ true
ByteIsWell well pipe stage.Frames all =
    nat_lt (length all) header_length ≡ false → HeaderIsWell well pipe all (head_fault all)
ByteIsWell well pipe stage.PassedOver all = Unit {0}
ByteIsWell well pipe stage.Shut all = Unit {0}

-- behind each byte
abbrev pub ReadsWellFrom : Answers → Option Pipe → Reading → List ℕ → Type 0
ReadsWellFrom well pipe r [] = Unit {0}
ReadsWellFrom well pipe r (b ∷ bytes) =
    ByteIsWell well pipe r.stage (r.held ++ b ∷ [])
    × ReadsWellFrom well pipe (read_byte pipe r b).0 bytes

-- from the beginning of a leg
abbrev pub ReadsWell : Answers → Option Pipe → List ℕ → Type 0
ReadsWell well pipe bytes = ReadsWellFrom well pipe (begin pipe) bytes

-- ---- texts

-- each front of the text reads well
abbrev pub TextIsWell : Answers → Option Pipe → List ℕ → Type 0
TextIsWell well pipe text = (front : List ℕ) → IsPrefix front text → ReadsWell well pipe front

-- and so it is of a message that is a text
abbrev pub IsWellText : Answers → Option Pipe → Message → Type 0
IsWellText well pipe (Text text) = TextIsWell well pipe text
IsWellText well pipe (Pdu pdu) = Unit {0}
IsWellText well pipe (Packet named) = Unit {0}
