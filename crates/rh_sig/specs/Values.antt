-- what named packets say, and which values are in range
use Rattle.std.specs.Prelude.{◌≡◌, ◌≤◌, ◌⊎◌, ◌++◌, ℕ, List, [], ◌∷◌, Some, None, IfSome}
use Rattle.std.specs.Prelude.{◌==◌, ◌&&◌, ◌||◌, Bool, nat_le}
use Rattle.std.specs.declared.option.Option.{Option}
use Rattle.rh_sig.specs.declared.name.Name.{Name}
use Rattle.rh_sig.specs.declared.name.Name.TheVariants.{ConnA1, ConnA2, ConnA3, ConnB1, ConnB2}
use Rattle.rh_sig.specs.declared.name.Name.TheVariants.{ConnB3, ConnC1, ConnC2, InR1A1, InR1A2}
use Rattle.rh_sig.specs.declared.name.Name.TheVariants.{InR1A3, InR1A4, InR1A5, InR1A6, InR1B1}
use Rattle.rh_sig.specs.declared.name.Name.TheVariants.{InR1B2, InR2A2, InR2A3, InR2A4}
use Rattle.rh_sig.specs.declared.name.Name.TheVariants.{OutR1A1, OutR1A2, OutR1A3, OutR2C1, OutR1A4}
use Rattle.rh_sig.specs.declared.name.Name.TheVariants.{OutR1A5, OutR1A6, OutR1A7, OutR1A8, OutR1A9}
use Rattle.rh_sig.specs.declared.name.Name.TheVariants.{OutR1A10, EndA1, EndA2, EndB1, EndB2, Ack}
use Rattle.rh_sig.specs.declared.name.Name.TheVariants.{AckTo, KeepAlive, PingTraffic, Ping}
use Rattle.rh_sig.specs.declared.named.Named.{Named}
use Rattle.rh_sig.specs.declared.named.Named.TheVariants as named
use Rattle.rh_sig.specs.declared.fault.SigFault.{SigFault}
use Rattle.rh_sig.specs.declared.fault.SigFault.TheVariants.{Unknown, OutOfRange}
use Rattle.rh_rts.specs.declared.command.Command.{Command}
use Rattle.rh_rts.specs.declared.command.Command.TheVariants as commands
use Rattle.rh_rts.specs.declared.command.TheConstants.{GREATEST_DESTINATION}
use Rattle.rh_rts.specs.Packets.{Parts}
use Rattle.rh_sig.specs.declared.name.Pipe.{Pipe}
use Rattle.rh_sig.specs.Names.{row_of, IsNamed, IsNameless, unpadded}
use Rattle.rh_rts.specs.Commands.{kind_of}
use Rattle.rh_window.specs.declared.range.TheConstants.{LEAST_WINDOW, GREATEST_WINDOW}
use Rattle.rh_window.specs.Sides.{IsWindow}
use Rattle.rh_sig.specs.declared.ranges.TheConstants.{LEAST_TIMEOUT, GREATEST_TIMEOUT}
pub use Rattle.rh_keep.specs.Lifetimes.{IsLifetime}
use Rattle.rh_sig.specs.declared.ranges.TheConstants.{DEFAULT_KEEPALIVE, LEAST_KEEPALIVE}
use Rattle.rh_sig.specs.declared.ranges.TheConstants.{GREATEST_KEEPALIVE}
use Rattle.rh_sig.specs.declared.ranges.TheConstants.{PROTOCOL_VERSION}

-- the name of a named packet
abbrev pub name_of_named : Named → Name
name_of_named (named.ConnA1 version connection channel window) = ConnA1
name_of_named (named.ConnA2 version connection channel lifetime window) = ConnA2
name_of_named (named.ConnA3 timeout) = ConnA3
name_of_named (named.ConnB1 version connection channel lifetime keepalive group) = ConnB1
name_of_named (named.ConnB2 version connection channel window timeout group address padding) =
    ConnB2
name_of_named (named.ConnB3 window version) = ConnB3
name_of_named (named.ConnC1 version window timeout) = ConnC1
name_of_named (named.ConnC2 version window timeout) = ConnC2
name_of_named (named.InR1A1 version connection predecessor successor) = InR1A1
name_of_named (named.InR1A2 version connection predecessor successor window timeout) = InR1A2
name_of_named (named.InR1A3 destination version window timeout) = InR1A3
name_of_named (named.InR1A4 destination version window timeout) = InR1A4
name_of_named (named.InR1A5 successor) = InR1A5
name_of_named (named.InR1A6 successor) = InR1A6
name_of_named named.InR1B1 = InR1B1
name_of_named (named.InR1B2 window) = InR1B2
name_of_named (named.InR2A2 successor) = InR2A2
name_of_named (named.InR2A3 destination) = InR2A3
name_of_named (named.InR2A4 destination) = InR2A4
name_of_named (named.OutR1A1 destination) = OutR1A1
name_of_named (named.OutR1A2 destination) = OutR1A2
name_of_named (named.OutR1A3 version connection predecessor successor window) = OutR1A3
name_of_named named.OutR2C1 = OutR2C1
name_of_named (named.OutR1A4 version connection predecessor successor lifetime window timeout) =
    OutR1A4
name_of_named (named.OutR1A5 destination version timeout) = OutR1A5
name_of_named (named.OutR1A6 destination version timeout) = OutR1A6
name_of_named (named.OutR1A7 destination successor) = OutR1A7
name_of_named (named.OutR1A8 destination successor) = OutR1A8
name_of_named named.OutR1A9 = OutR1A9
name_of_named named.OutR1A10 = OutR1A10
name_of_named named.EndA1 = EndA1
name_of_named named.EndA2 = EndA2
name_of_named named.EndB1 = EndB1
name_of_named named.EndB2 = EndB2
name_of_named (named.Ack received window cookie) = Ack
name_of_named (named.AckTo destination received window cookie) = AckTo
name_of_named (named.KeepAlive keepalive) = KeepAlive
name_of_named (named.PingTraffic bytes) = PingTraffic
name_of_named named.Ping = Ping

-- its commands, in the order of its row
abbrev pub commands_of : Named → List Command
commands_of (named.ConnA1 version connection channel window) =
    commands.Version version ∷ commands.Cookie connection ∷ commands.Cookie channel
    ∷ commands.ReceiveWindowSize window ∷ []
commands_of (named.ConnA2 version connection channel lifetime window) =
    commands.Version version ∷ commands.Cookie connection ∷ commands.Cookie channel
    ∷ commands.ChannelLifetime lifetime ∷ commands.ReceiveWindowSize window ∷ []
commands_of (named.ConnA3 timeout) = commands.ConnectionTimeout timeout ∷ []
commands_of (named.ConnB1 version connection channel lifetime keepalive group) =
    commands.Version version ∷ commands.Cookie connection ∷ commands.Cookie channel
    ∷ commands.ChannelLifetime lifetime ∷ commands.ClientKeepalive keepalive
    ∷ commands.AssociationGroupId group ∷ []
commands_of (named.ConnB2 version connection channel window timeout group address padding) =
    commands.Version version ∷ commands.Cookie connection ∷ commands.Cookie channel
    ∷ commands.ReceiveWindowSize window ∷ commands.ConnectionTimeout timeout
    ∷ commands.AssociationGroupId group ∷ commands.ClientAddress address padding ∷ []
commands_of (named.ConnB3 window version) =
    commands.ReceiveWindowSize window ∷ commands.Version version ∷ []
commands_of (named.ConnC1 version window timeout) =
    commands.Version version ∷ commands.ReceiveWindowSize window
    ∷ commands.ConnectionTimeout timeout ∷ []
commands_of (named.ConnC2 version window timeout) =
    commands.Version version ∷ commands.ReceiveWindowSize window
    ∷ commands.ConnectionTimeout timeout ∷ []
commands_of (named.InR1A1 version connection predecessor successor) =
    commands.Version version ∷ commands.Cookie connection ∷ commands.Cookie predecessor
    ∷ commands.Cookie successor ∷ []
commands_of (named.InR1A2 version connection predecessor successor window timeout) =
    commands.Version version ∷ commands.Cookie connection ∷ commands.Cookie predecessor
    ∷ commands.Cookie successor ∷ commands.ReceiveWindowSize window
    ∷ commands.ConnectionTimeout timeout ∷ []
commands_of (named.InR1A3 destination version window timeout) =
    commands.Destination destination ∷ commands.Version version
    ∷ commands.ReceiveWindowSize window ∷ commands.ConnectionTimeout timeout ∷ []
commands_of (named.InR1A4 destination version window timeout) =
    commands.Destination destination ∷ commands.Version version
    ∷ commands.ReceiveWindowSize window ∷ commands.ConnectionTimeout timeout ∷ []
commands_of (named.InR1A5 successor) = commands.Cookie successor ∷ []
commands_of (named.InR1A6 successor) = commands.Cookie successor ∷ []
commands_of named.InR1B1 = commands.Empty ∷ []
commands_of (named.InR1B2 window) = commands.ReceiveWindowSize window ∷ []
commands_of (named.InR2A2 successor) = commands.Cookie successor ∷ []
commands_of (named.InR2A3 destination) = commands.Destination destination ∷ []
commands_of (named.InR2A4 destination) = commands.Destination destination ∷ []
commands_of (named.OutR1A1 destination) = commands.Destination destination ∷ []
commands_of (named.OutR1A2 destination) = commands.Destination destination ∷ []
commands_of (named.OutR1A3 version connection predecessor successor window) =
    commands.Version version ∷ commands.Cookie connection ∷ commands.Cookie predecessor
    ∷ commands.Cookie successor ∷ commands.ReceiveWindowSize window ∷ []
commands_of named.OutR2C1 = commands.Empty ∷ []
commands_of (named.OutR1A4 version connection predecessor successor lifetime window timeout) =
    commands.Version version ∷ commands.Cookie connection ∷ commands.Cookie predecessor
    ∷ commands.Cookie successor ∷ commands.ChannelLifetime lifetime
    ∷ commands.ReceiveWindowSize window ∷ commands.ConnectionTimeout timeout ∷ []
commands_of (named.OutR1A5 destination version timeout) =
    commands.Destination destination ∷ commands.Version version
    ∷ commands.ConnectionTimeout timeout ∷ []
commands_of (named.OutR1A6 destination version timeout) =
    commands.Destination destination ∷ commands.Version version
    ∷ commands.ConnectionTimeout timeout ∷ []
commands_of (named.OutR1A7 destination successor) =
    commands.Destination destination ∷ commands.Cookie successor ∷ []
commands_of (named.OutR1A8 destination successor) =
    commands.Destination destination ∷ commands.Cookie successor ∷ []
commands_of named.OutR1A9 = commands.Ance ∷ []
commands_of named.OutR1A10 = commands.Ance ∷ []
commands_of named.EndA1 = commands.Empty ∷ []
commands_of named.EndA2 = commands.Empty ∷ []
commands_of named.EndB1 = commands.Empty ∷ []
commands_of named.EndB2 = commands.Empty ∷ []
commands_of (named.Ack received window cookie) = commands.FlowControlAck received window cookie ∷ []
commands_of (named.AckTo destination received window cookie) =
    commands.Destination destination ∷ commands.FlowControlAck received window cookie ∷ []
commands_of (named.KeepAlive keepalive) = commands.ClientKeepalive keepalive ∷ []
commands_of (named.PingTraffic bytes) = commands.PingTrafficSentNotify bytes ∷ []
commands_of named.Ping = []

-- its flags, of the row of its name, and its commands
abbrev pub parts_of : Named → Parts
parts_of n = record { flags = (row_of (name_of_named n)).flags; commands = commands_of n }

-- on that pipe the packet has this name, and these are its fields
abbrev pub ReadsAs : Parts → Pipe → Named → Type 0
ReadsAs p pipe n = IsNamed p pipe (name_of_named n) × (commands_of n ≡ unpadded p.commands)

-- its destination, where it has one
abbrev pub destination_of : Named → Option ℕ
destination_of (named.InR1A3 destination version window timeout) = Some destination
destination_of (named.InR1A4 destination version window timeout) = Some destination
destination_of (named.InR2A3 destination) = Some destination
destination_of (named.InR2A4 destination) = Some destination
destination_of (named.OutR1A1 destination) = Some destination
destination_of (named.OutR1A2 destination) = Some destination
destination_of (named.OutR1A5 destination version timeout) = Some destination
destination_of (named.OutR1A6 destination version timeout) = Some destination
destination_of (named.OutR1A7 destination successor) = Some destination
destination_of (named.OutR1A8 destination successor) = Some destination
destination_of (named.AckTo destination received window cookie) = Some destination
destination_of _ = None

-- it has no destination, or that of a role
abbrev pub MayBeWritten : Named → Type 0
MayBeWritten n = IfSome (destination_of n) (λ destination. destination ≤ GREATEST_DESTINATION)

-- a command that named packets have, with a destination that is one
abbrev pub IsPlain : Command → Type 0
IsPlain (commands.Padding bytes) = ⊥
IsPlain (commands.Destination n) = n ≤ GREATEST_DESTINATION
IsPlain _ = Unit {0}

abbrev pub ArePlain : List Command → Type 0
ArePlain [] = Unit {0}
ArePlain (c ∷ cs) = IsPlain c × ArePlain cs

-- ---- ranges

-- from the least to the greatest, both of them in range
abbrev pub IsWithin : ℕ → ℕ → ℕ → Type 0
IsWithin least greatest n = (least ≤ n) × (n ≤ greatest)

-- whether it is one of those from the least to the greatest
abbrev pub is_within : ℕ → ℕ → ℕ → Bool
is_within least greatest n = nat_le least n && nat_le n greatest

-- whether it is the size of a receive window, in bytes
abbrev pub is_window : ℕ → Bool
is_window n = is_within LEAST_WINDOW GREATEST_WINDOW n

-- a connection timeout, in milliseconds
abbrev pub IsTimeout : ℕ → Type 0
IsTimeout n = IsWithin LEAST_TIMEOUT GREATEST_TIMEOUT n

abbrev pub is_timeout : ℕ → Bool
is_timeout n = is_within LEAST_TIMEOUT GREATEST_TIMEOUT n

-- a keepalive interval, in milliseconds, or what stands for the one by default
abbrev pub IsKeepalive : ℕ → Type 0
IsKeepalive n = (n ≡ DEFAULT_KEEPALIVE) ⊎ IsWithin LEAST_KEEPALIVE GREATEST_KEEPALIVE n

abbrev pub is_keepalive : ℕ → Bool
is_keepalive n = (n == DEFAULT_KEEPALIVE) || is_within LEAST_KEEPALIVE GREATEST_KEEPALIVE n

-- the value of the command is in range; the window of an acknowledgement has none
abbrev pub IsInRange : Command → Type 0
IsInRange (commands.ReceiveWindowSize n) = IsWindow n
IsInRange (commands.ConnectionTimeout n) = IsTimeout n
IsInRange (commands.ChannelLifetime n) = IsLifetime n
IsInRange (commands.ClientKeepalive n) = IsKeepalive n
IsInRange (commands.Version n) = n ≡ PROTOCOL_VERSION
IsInRange _ = Unit {0}

-- each value is in range
abbrev pub AreInRange : List Command → Type 0
AreInRange [] = Unit {0}
AreInRange (c ∷ cs) = IsInRange c × AreInRange cs

-- the value of a command that has a number alone
abbrev pub value_of : Command → ℕ
value_of (commands.ReceiveWindowSize n) = n
value_of (commands.ConnectionTimeout n) = n
value_of (commands.ChannelLifetime n) = n
value_of (commands.ClientKeepalive n) = n
value_of (commands.Version n) = n
value_of (commands.Destination n) = n
value_of (commands.PingTrafficSentNotify n) = n
value_of _ = 0

-- this is the first command whose value is out of range
pub record FirstOut (cs : List Command) (c : Command) : Type 0 where
  pub before : List Command
  pub after : List Command
  pub split : cs ≡ before ++ (c ∷ after)
  pub fine : AreInRange before
  pub wrong : ¬ IsInRange c

-- it is told by its type and its value
abbrev pub IsOut : List Command → SigFault → Type 0
IsOut cs Unknown = ⊥
IsOut cs (OutOfRange command value) =
    (c : Command) × FirstOut cs c × (kind_of c ≡ command) × (value_of c ≡ value)

-- no name fits; or one does, and this is the first value that is out of range
abbrev pub IsRefused : Parts → Pipe → SigFault → Type 0
IsRefused p pipe Unknown = IsNameless p pipe
IsRefused p pipe (OutOfRange command value) =
    ((name : Name) × IsNamed p pipe name) × IsOut p.commands (OutOfRange command value)
