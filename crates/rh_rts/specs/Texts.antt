-- the names of commands and of faults, and the text of a fault
use Rattle.std.specs.Prelude.{ℕ, List, ◌++◌, codes}
use Rattle.std.specs.Fmt.{decimal}
use Rattle.rh_rts.specs.declared.command.Command.{Command}
use Rattle.rh_rts.specs.declared.command.Command.TheVariants as commands
use Rattle.rh_rts.specs.declared.fault.RtsFault.{RtsFault}
use Rattle.rh_rts.specs.declared.fault.RtsKind.{RtsKind}
use Rattle.rh_rts.specs.declared.fault.RtsKind.TheVariants as kinds

-- the name of a command (MS-RPCH 2.2.3.5)
abbrev pub command_name : Command → List ℕ
command_name (commands.ReceiveWindowSize _) = codes "ReceiveWindowSize"
command_name (commands.FlowControlAck _ _ _) = codes "FlowControlAck"
command_name (commands.ConnectionTimeout _) = codes "ConnectionTimeout"
command_name (commands.Cookie _) = codes "Cookie"
command_name (commands.ChannelLifetime _) = codes "ChannelLifetime"
command_name (commands.ClientKeepalive _) = codes "ClientKeepalive"
command_name (commands.Version _) = codes "Version"
command_name commands.Empty = codes "Empty"
command_name (commands.Padding _) = codes "Padding"
command_name commands.NegativeAnce = codes "NegativeANCE"
command_name commands.Ance = codes "ANCE"
command_name (commands.ClientAddress _ _) = codes "ClientAddress"
command_name (commands.AssociationGroupId _) = codes "AssociationGroupId"
command_name (commands.Destination _) = codes "Destination"
command_name (commands.PingTrafficSentNotify _) = codes "PingTrafficSentNotify"

-- the name of what is wrong
abbrev pub kind_name : RtsKind → List ℕ
kind_name kinds.BadHeader = codes "BadHeader"
kind_name kinds.BadLength = codes "BadLength"
kind_name kinds.BadFlags = codes "BadFlags"
kind_name kinds.CutShort = codes "CutShort"
kind_name kinds.BadType = codes "BadType"
kind_name kinds.BadAddressType = codes "BadAddressType"
kind_name kinds.BadCount = codes "BadCount"
kind_name kinds.Left = codes "Left"

-- a fault: its kind, and how many bytes stand before it
abbrev pub fault_text : RtsFault → List ℕ
fault_text wrong = codes "fault " ++ (kind_name wrong.kind ++ (codes " " ++ decimal wrong.place))
