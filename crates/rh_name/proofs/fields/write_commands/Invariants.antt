-- the commands so far are written, and the others are left
use Rattle.std.proofs.Common.{length, string_bytes}
use Rattle.rh_text.proofs.Appending.{IsWritten}
use Rattle.rh_name.specs.Fields.{commands_text}
use Rattle.rh_name.proofs.fields.write_commands.Given as goal

abbrev pub invariant-loop-command : goal.invariant-loop-command
invariant-loop-command l =
    IsWritten (commands_text l.packet.commands) (string_bytes l.fn.out) (string_bytes l.out)
    (commands_text l.commands)

abbrev pub decreases-loop-command : goal.decreases-loop-command
decreases-loop-command l = length l.commands
