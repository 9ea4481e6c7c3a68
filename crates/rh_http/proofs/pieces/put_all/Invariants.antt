use Rattle.std.proofs.Common.{◌≡◌, length, take}
use Rattle.rh_rts.specs.Writing.{over}
use Rattle.rh_http.proofs.Joined.{joined}
use Rattle.rh_http.proofs.pieces.put_all.Given as goal

abbrev pub invariant-loop-piece : goal.invariant-loop-piece
invariant-loop-piece l =
    (l.at ≡ length (joined (take l.piece-index l.pieces)))
    × (l.room ≡ over l.fn.room 0 (joined (take l.piece-index l.pieces)))
