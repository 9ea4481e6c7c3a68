use Rattle.std.proofs.Common.{◌≡◌, drop}
use Rattle.rh_sig.specs.Reading.{all_shown}
use Rattle.rh_sig.specs.Naming.{first_out}
use Rattle.rh_sig.proofs.ranges.first_out_of_range.Given as goal

abbrev pub invariant-loop-command : goal.invariant-loop-command
invariant-loop-command l =
    first_out (all_shown l.commands) ≡ first_out (all_shown (drop l.command-index l.commands))
