-- the packet that a frame is on a pipe, or what is first wrong with it (MS-RPCH 2.2.3.6, 2.2.4)
use Rattle.std.specs.Prelude.{ℕ, List, Some, None, Ok, Err}
use Rattle.std.specs.declared.option.Option.{Option}
use Rattle.std.specs.declared.result.Result.{Result}
use Rattle.rh_rts.specs.declared.fault.RtsFault.{RtsFault}
use Rattle.rh_rts.specs.Packets.{Parts}
use Rattle.rh_rts.specs.Reading.{read_packet}
use Rattle.rh_sig.specs.declared.fault.SigFault.{SigFault}
use Rattle.rh_sig.specs.declared.fault.SigFault.TheVariants.{Unknown}
use Rattle.rh_sig.specs.declared.name.Pipe.{Pipe}
use Rattle.rh_sig.specs.declared.named.Named.{Named}
use Rattle.rh_sig.specs.Naming.{named_of}
use Rattle.rh_shell.specs.declared.reading.PacketFault.{PacketFault}
use Rattle.rh_shell.specs.declared.reading.PacketFault.TheVariants.{Rts, Sig}

abbrev pub named_by : Result Named SigFault → Result Named PacketFault
named_by (Ok named) = Ok named
named_by (Err fault) = Err (Sig fault)

abbrev pub packet_by : Pipe → Result Parts RtsFault → Result Named PacketFault
packet_by pipe (Ok parts) = named_by (named_of parts pipe)
packet_by pipe (Err fault) = Err (Rts fault)

abbrev pub packet_by_pipe : List ℕ → Option Pipe → Result Named PacketFault
packet_by_pipe frame (Some pipe) = packet_by pipe (read_packet frame)
packet_by_pipe frame None = named_by (Err Unknown)

-- on a leg where no packets come, none has a name
unfoldable pub packet_of : List ℕ → Option Pipe → Result Named PacketFault
packet_of frame pipe = packet_by_pipe frame pipe
