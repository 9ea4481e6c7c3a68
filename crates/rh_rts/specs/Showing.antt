-- a command whose padding stands elsewhere, and the next of commands
use Rattle.std.specs.Prelude.{◌≡◌, List, [], ◌∷◌, Some, None}
use Rattle.std.specs.declared.option.Option.{Option}
use Rattle.rh_rts.specs.declared.command.Command.{Command}
use Rattle.rh_rts.specs.declared.command.Command.TheVariants as commands
use Rattle.rh_rts.specs.declared.command.CommandRef.{CommandRef}
use Rattle.rh_rts.specs.declared.command.CommandRef.TheVariants as refs

-- a command whose padding stands elsewhere
abbrev pub shown : CommandRef → Command
shown (refs.ReceiveWindowSize n) = commands.ReceiveWindowSize n
shown (refs.FlowControlAck received window cookie) = commands.FlowControlAck received window cookie
shown (refs.ConnectionTimeout n) = commands.ConnectionTimeout n
shown (refs.Cookie cookie) = commands.Cookie cookie
shown (refs.ChannelLifetime n) = commands.ChannelLifetime n
shown (refs.ClientKeepalive n) = commands.ClientKeepalive n
shown (refs.Version n) = commands.Version n
shown refs.Empty = commands.Empty
shown (refs.Padding bytes) = commands.Padding bytes.now
shown refs.NegativeAnce = commands.NegativeAnce
shown refs.Ance = commands.Ance
shown (refs.ClientAddress address padding) = commands.ClientAddress address padding
shown (refs.AssociationGroupId cookie) = commands.AssociationGroupId cookie
shown (refs.Destination n) = commands.Destination n
shown (refs.PingTrafficSentNotify n) = commands.PingTrafficSentNotify n

-- the next command, where there is one
abbrev pub Gives : List Command → Option CommandRef → List Command → Type 0
Gives before None after = (before ≡ []) × (after ≡ [])
Gives before (Some command) after = before ≡ shown command ∷ after
