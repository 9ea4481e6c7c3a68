use Rattle.std.proofs.Common.{◌≡◌, drop}
use Rattle.rh_rts.specs.Packets.{bad_destination}
use Rattle.rh_rts.proofs.packet.bad_destination.Given as goal

abbrev pub invariant-loop-command : goal.invariant-loop-command
invariant-loop-command l =
    bad_destination l.commands ≡ bad_destination (drop l.command-index l.commands)
