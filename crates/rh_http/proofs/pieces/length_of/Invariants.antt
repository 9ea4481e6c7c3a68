use Rattle.std.proofs.Common.{◌≡◌, length, take}
use Rattle.rh_http.proofs.Joined.{joined}
use Rattle.rh_http.proofs.pieces.length_of.Given as goal

abbrev pub invariant-loop-piece : goal.invariant-loop-piece
invariant-loop-piece l = l.length ≡ length (joined (take l.piece-index l.pieces))
