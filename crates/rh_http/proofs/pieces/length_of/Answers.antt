use Rattle.std.proofs.Common.{arith}
use Rattle.rh_http.proofs.Joined.{joined_fits, nothing}
use Rattle.rh_http.proofs.pieces.length_of.Goals as goal

pub overflow_add-length : goal.overflow_add-length
overflow_add-length c =
    let fits =
    joined_fits c.args.pieces.now c.loop-piece.piece-index nothing c.loop-piece-test.true in
    omega (arith, fits, c.loop-piece.invariant, c.requires)
