-- the flags and the commands so far are written, and the other commands are left
use Rattle.std.proofs.Common.{length, string_bytes}
use Rattle.rh_text.proofs.Appending.{IsWritten}
use Rattle.rh_show.specs.Shown.{commands_text, packet_text}
use Rattle.rh_show.proofs.commands.write_packet.Given as goal

abbrev pub invariant-loop-command : goal.invariant-loop-command
invariant-loop-command l =
    IsWritten (packet_text l.packet) (string_bytes l.fn.out) (string_bytes l.out)
    (commands_text l.commands)

abbrev pub decreases-loop-command : goal.decreases-loop-command
decreases-loop-command l = length l.commands
