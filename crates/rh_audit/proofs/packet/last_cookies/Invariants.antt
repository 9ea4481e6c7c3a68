use Rattle.std.proofs.Common.{◌≡◌, length}
use Rattle.rh_audit.specs.Packets.{latest}
use Rattle.rh_audit.proofs.packet.last_cookies.Given as goal

abbrev pub invariant-loop-command : goal.invariant-loop-command
invariant-loop-command l = latest l.found l.left ≡ latest l.initial.found l.initial.left

abbrev pub decreases-loop-command : goal.decreases-loop-command
decreases-loop-command l = length l.left
