use Rattle.rh_audit.specs.Waiting.{waiting_for}
use Rattle.rh_audit.proofs.Waiting.{Going}
use Rattle.rh_audit.proofs.chain.follow.Given as goal

abbrev pub invariant-links : goal.invariant-links
invariant-links l =
    Going (waiting_for l.fn.waiting) (waiting_for l.waiting) l.fn.start l.most l.found.items l.left
    l.newest

abbrev pub decreases-links : goal.decreases-links
decreases-links l = l.left
