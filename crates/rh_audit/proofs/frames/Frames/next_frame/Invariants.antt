use Rattle.std.proofs.Common.{◌≡◌, ◌++◌}
use Rattle.rh_audit.proofs.frames.Frames.next_frame.Given as goal

abbrev pub invariant-pieces : goal.invariant-pieces
invariant-pieces l =
    l.self-inside.framer.rest ++ (l.self-inside.piece.now ++ l.self-inside.pieces.bytes)
    ≡ l.fn.self.bytes

abbrev pub decreases-pieces : goal.decreases-pieces
decreases-pieces l = l.self-inside.pieces.lines
