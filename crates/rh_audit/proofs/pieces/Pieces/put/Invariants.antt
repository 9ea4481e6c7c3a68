use Rattle.std.proofs.Common.{◌≡◌, ◌++◌, drop, take}
use Rattle.rh_audit.proofs.pieces.Pieces.put.Given as goal

abbrev pub invariant-pieces : goal.invariant-pieces
invariant-pieces l =
    (l.room.items ++ take l.left (l.piece ++ l.self.bytes)
    ≡ take l.fn.count (l.fn.piece ++ l.fn.self.bytes))
    × (drop l.left (l.piece ++ l.self.bytes)
    ≡ drop l.fn.count (l.fn.piece ++ l.fn.self.bytes))

abbrev pub decreases-pieces : goal.decreases-pieces
decreases-pieces l = l.self.lines
