use Rattle.std.proofs.Common.{◌≡◌, map, take}
use Rattle.rh_audit.proofs.kept.tags_of.Given as goal

abbrev pub invariant-loop-link : goal.invariant-loop-link
invariant-loop-link l = l.tags.items ≡ map (λ link. link.tag) (take l.link-index l.links)
