-- the bytes from a place on are still to be heard
use Rattle.std.proofs.Common.{◌≡◌, drop}
use Rattle.rh_play.specs.Nodes as seen
use Rattle.rh_play.proofs.node.Node.hear_each.Given as goal

abbrev pub invariant-bytes : goal.invariant-bytes
invariant-bytes l =
    seen.each_from l.leg (drop l.byte-index l.bytes) (l.self, l.verdict)
    ≡ seen.heard_each l.fn.self l.leg l.bytes
