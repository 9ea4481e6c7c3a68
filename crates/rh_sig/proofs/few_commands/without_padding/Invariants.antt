use Rattle.std.proofs.Common.{◌≡◌, ◌++◌, length}
use Rattle.rh_sig.specs.Names.{unpadded}
use Rattle.rh_sig.proofs.few_commands.without_padding.Given as goal

abbrev pub invariant-loop-command : goal.invariant-loop-command
invariant-loop-command l = l.kept ++ unpadded l.left ≡ unpadded l.initial.left

abbrev pub decreases-loop-command : goal.decreases-loop-command
decreases-loop-command l = length l.left
