use Rattle.std.proofs.Common.{◌≡◌, ◌++◌, drop}
use Rattle.std.specs.List.{flat_map}
use Rattle.rh_audit.specs.Reads.{left_of}
use Rattle.rh_audit.proofs.auditing.tell_unchained.Given as goal

abbrev pub invariant-loop-leg : goal.invariant-loop-leg
invariant-loop-leg l =
    l.faults.items ++ flat_map (left_of l.chains) (drop l.leg-index l.begun)
    ≡ l.fn.faults.items ++ flat_map (left_of l.chains) l.begun
