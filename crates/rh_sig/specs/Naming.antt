-- the named packet that a packet is on a pipe: its name by the table, its fields, and the first
-- value out of range
use Rattle.std.specs.Prelude.{◌==◌, ℕ, List, [], ◌∷◌, Bool, true}
use Rattle.std.specs.Prelude.{if◌then◌else◌, Some, None, Ok, Err}
use Rattle.std.specs.declared.option.Option.{Option}
use Rattle.std.specs.declared.result.Result.{Result}
use Rattle.rh_rts.specs.declared.command.Command.{Command}
use Rattle.rh_rts.specs.declared.command.Command.TheVariants as commands
use Rattle.rh_rts.specs.Commands.{kind_of}
use Rattle.rh_rts.specs.Packets.{Parts, packet_bytes}
use Rattle.rh_keep.specs.Lifetimes.{is_lifetime}
use Rattle.rh_sig.specs.declared.ranges.TheConstants.{PROTOCOL_VERSION}
use Rattle.rh_sig.specs.declared.fault.SigFault.{SigFault}
use Rattle.rh_sig.specs.declared.fault.SigFault.TheVariants.{Unknown, OutOfRange}
use Rattle.rh_sig.specs.declared.name.Name.{Name}
use Rattle.rh_sig.specs.declared.name.Pipe.{Pipe}
use Rattle.rh_sig.specs.declared.named.Named.{Named}
use Rattle.rh_sig.specs.Names.{types_of, unpadded}
use Rattle.rh_sig.specs.Looking.{names, found}
use Rattle.rh_sig.specs.Values.{is_window, is_timeout, is_keepalive, value_of, parts_of}
use Rattle.rh_sig.specs.Reading.{value}

-- ---- ranges

-- whether the value of the command is in range
abbrev pub is_in_range : Command → Bool
is_in_range (commands.ReceiveWindowSize n) = is_window n
is_in_range (commands.ConnectionTimeout n) = is_timeout n
is_in_range (commands.ChannelLifetime n) = is_lifetime n
is_in_range (commands.ClientKeepalive n) = is_keepalive n
is_in_range (commands.Version n) = n == PROTOCOL_VERSION
is_in_range _ = true

-- the first value out of range
abbrev pub first_out : List Command → Option SigFault
first_out [] = None
first_out (c ∷ cs) =
    if is_in_range c then first_out cs else Some (OutOfRange (kind_of c) (value_of c))

-- ---- the packet

-- the name by the flags and by the types of the commands, without the Padding
unfoldable pub name_on : Parts → Pipe → Option Name
name_on p pipe = found names pipe p.flags (types_of (unpadded p.commands))

-- the packet, unless this value of it is out of range
abbrev pub unless_out : Option SigFault → Named → Result Named SigFault
unless_out None n = Ok n
unless_out (Some fault) n = Err fault

abbrev pub named_by : Option Name → List Command → Result Named SigFault
named_by None cs = Err Unknown
named_by (Some name) cs = unless_out (first_out cs) (value name cs)

-- the named packet that a packet is on that pipe; else the fault
unfoldable pub named_of : Parts → Pipe → Result Named SigFault
named_of p pipe = named_by (name_on p pipe) (unpadded p.commands)

-- the bytes of a named packet
unfoldable pub named_bytes : Named → List ℕ
named_bytes n = packet_bytes (parts_of n)
