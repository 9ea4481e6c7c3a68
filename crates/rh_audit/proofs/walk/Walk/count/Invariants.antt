use Rattle.std.proofs.Common.{◌≡◌, ◌+◌, drop, length}
use Rattle.rh_audit.specs.Links.{legs_of}
use Rattle.rh_audit.specs.Walks.{all_pdus}
use Rattle.rh_audit.proofs.walk.Walk.count.Given as goal

abbrev pub invariant-loop-link : goal.invariant-loop-link
invariant-loop-link l =
    l.count + length (all_pdus (legs_of (drop l.link-index l.link-items))) ≡ length l.fn.self.pdus
