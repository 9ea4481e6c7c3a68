use Rattle.std.proofs.Common.{◌≡◌, ◌++◌, drop, take}
use Rattle.rh_audit.specs.Chains.{joined}
use Rattle.rh_audit.specs.Links.{legs_of}
use Rattle.rh_audit.specs.Walks.{all_pdus}
use Rattle.rh_audit.proofs.walk.up_to_unmarked.Given as goal

abbrev pub invariant-loop-i : goal.invariant-loop-i
invariant-loop-i l =
    joined (legs_of l.links)
    ≡ all_pdus (legs_of (take l.i l.links)) ++ joined (legs_of (drop l.i l.links))
