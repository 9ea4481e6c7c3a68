use Rattle.std.proofs.Common.{take}
use Rattle.rh_audit.specs.Links.{legs_of}
use Rattle.rh_audit.specs.Waiting.{IsSorted, waiting_for}
use Rattle.rh_audit.proofs.chain.sort_out.Given as goal

abbrev pub invariant-loop-link : goal.invariant-loop-link
invariant-loop-link l = IsSorted (legs_of (take l.link-index l.links)) l.start
    (waiting_for l.waiting)
