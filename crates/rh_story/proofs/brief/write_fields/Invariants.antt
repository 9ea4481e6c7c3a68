-- the fields of the commands so far are written, and those of the others are left
use Rattle.std.proofs.Common.{length, string_bytes}
use Rattle.rh_text.proofs.Appending.{IsWritten}
use Rattle.rh_story.specs.Brief.{brief_fields}
use Rattle.rh_story.proofs.brief.write_fields.Given as goal

abbrev pub invariant-loop-command : goal.invariant-loop-command
invariant-loop-command l =
    IsWritten (brief_fields l.name 0 l.packet.commands) (string_bytes l.fn.out) (string_bytes l.out)
    (brief_fields l.name l.number l.commands)

abbrev pub decreases-loop-command : goal.decreases-loop-command
decreases-loop-command l = length l.commands
