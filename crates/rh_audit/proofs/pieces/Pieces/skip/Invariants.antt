use Rattle.std.proofs.Common.{◌≡◌, ◌++◌, drop}
use Rattle.rh_audit.proofs.pieces.Pieces.skip.Given as goal

abbrev pub invariant-pieces : goal.invariant-pieces
invariant-pieces l =
    drop l.left (l.piece ++ l.self.bytes) ≡ drop l.fn.count (l.fn.piece ++ l.fn.self.bytes)

abbrev pub decreases-pieces : goal.decreases-pieces
decreases-pieces l = l.self.lines
