use Rattle.std.proofs.Common.{◌≡◌, take}
use Rattle.rh_audit.specs.Links.{legs_of}
use Rattle.rh_audit.specs.Reads.{legs_read}
use Rattle.rh_audit.proofs.kept.links_of.Given as goal

abbrev pub invariant-loop-leg : goal.invariant-loop-leg
invariant-loop-leg l = legs_of l.links.items ≡ legs_read (take l.leg-index l.legs)
