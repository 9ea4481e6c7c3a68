-- CONN/C1 goes first on the OUT channel (MS-RPCH 3.2.5; profile)
use Rattle.std.specs.Prelude.{◌≡◌, List, true, IsTrue}
use Rattle.std.specs.List.{AllByRecursion}
use Rattle.rh_keep.specs.Meters.{started, may_put}
use Rattle.rh_rts.specs.declared.command.TheConstants.{TO_OUT_PROXY}
use Rattle.rh_sig.specs.declared.lengths.TheConstants.{CONN_C1_LEN}
use Rattle.rh_sig.specs.declared.named.Named.{Named}
use Rattle.rh_sig.specs.declared.named.Named.TheVariants.{ConnA2}
use Rattle.rh_shell.specs.Rules.{Message, Text, Pdu, Packet}
use Rattle.rh_server.specs.declared.opening.TheConstants.{BEFORE_FIRST}
use Rattle.law_moves.specs.Moves.{OnLeg}
use Rattle.law_role_server.specs.Counted.Counting.{is_ack_to}

-- the lifetime that CONN/A2 tells has room for CONN/C1 behind CONN/A3, and for the reserve
abbrev pub HasRoom : Named → Type 0
HasRoom (ConnA2 version connection cookie lifetime window) =
    IsTrue (may_put (started lifetime BEFORE_FIRST) CONN_C1_LEN)
HasRoom packet = Unit {0}

abbrev pub HasRoomIn : OnLeg → Type 0
HasRoomIn (leg, Text bytes) = Unit {0}
HasRoomIn (leg, Pdu pdu) = Unit {0}
HasRoomIn (leg, Packet packet) = HasRoom packet

abbrev pub HaveRoom : List OnLeg → Type 0
HaveRoom came = AllByRecursion HasRoomIn came

-- a greeting, or an acknowledgement to an out proxy
abbrev pub MayGoBefore : Message → Type 0
MayGoBefore (Text bytes) = Unit {0}
MayGoBefore (Pdu pdu) = ⊥
MayGoBefore (Packet packet) = is_ack_to TO_OUT_PROXY packet ≡ true
