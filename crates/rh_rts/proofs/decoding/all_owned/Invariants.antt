use Rattle.std.proofs.Common.{◌≡◌, ◌++◌, length}
use Rattle.rh_rts.proofs.decoding.all_owned.Given as goal

abbrev pub invariant-loop-command : goal.invariant-loop-command
invariant-loop-command l = l.all.items ++ l.left ≡ l.initial.left

abbrev pub decreases-loop-command : goal.decreases-loop-command
decreases-loop-command l = length l.left
