-- named packets that were read, and that may be put
use Rattle.law_order.proofs.Vocabulary.{List, [], ◌∷◌}
use Rattle.rh_rts.specs.declared.command.Command.TheVariants as commands
use Rattle.rh_sig.specs.declared.named.Named.TheVariants as named
use Rattle.law_moves.proofs.Vocabulary.{Command, AreCommands, HaveSizes, HasSize, IsCommand, Named, unpadded, MayBeWritten, commands_of}

-- the commands without their padding are commands too
pub unpadded_are : (cs : List Command) → AreCommands cs → AreCommands (unpadded cs)
unpadded_are [] h = tt
unpadded_are (commands.Padding bytes ∷ cs) h = unpadded_are cs h.1
unpadded_are (c ∷ cs) h = (h.0, unpadded_are cs h.1)

size_of : (c : Command) → IsCommand c → HasSize c
size_of (commands.ReceiveWindowSize n) h = h.0
size_of (commands.FlowControlAck received window cookie) h = h.0
size_of (commands.ConnectionTimeout n) h = h.0
size_of (commands.Cookie cookie) h = h.0
size_of (commands.ChannelLifetime n) h = h.0
size_of (commands.ClientKeepalive n) h = h.0
size_of (commands.Version n) h = h.0
size_of (commands.Padding bytes) h = h.0
size_of (commands.ClientAddress address padding) h = h.0
size_of (commands.AssociationGroupId cookie) h = h.0
size_of (commands.Destination n) h = h.0
size_of (commands.PingTrafficSentNotify n) h = h.0
size_of c h = tt

pub sizes_of : (cs : List Command) → AreCommands cs → HaveSizes cs
sizes_of [] h = tt
sizes_of (c ∷ cs) h = (size_of c h.0, sizes_of cs h.1)

-- a destination is a packet's first command
pub destination_is : (n : Named) → AreCommands (commands_of n) → MayBeWritten n
destination_is (named.InR1A3 destination version window timeout) h = h.0.1
destination_is (named.InR1A4 destination version window timeout) h = h.0.1
destination_is (named.InR2A3 destination) h = h.0.1
destination_is (named.InR2A4 destination) h = h.0.1
destination_is (named.OutR1A1 destination) h = h.0.1
destination_is (named.OutR1A2 destination) h = h.0.1
destination_is (named.OutR1A5 destination version timeout) h = h.0.1
destination_is (named.OutR1A6 destination version timeout) h = h.0.1
destination_is (named.OutR1A7 destination successor) h = h.0.1
destination_is (named.OutR1A8 destination successor) h = h.0.1
destination_is (named.AckTo destination received window cookie) h = h.0.1
destination_is n h = tt
