use Rattle.std.proofs.Common.{refl, sym, ◌∙◌, arith}
use Rattle.rh_rts.proofs.Overs.{over_nothing}
use Rattle.rh_http.proofs.Joined.{joined_fits, nothing, over_more}
use Rattle.rh_http.proofs.pieces.put_all.Goals as goal

pub loop-piece-init : goal.loop-piece-init
loop-piece-init c = (refl, sym (over_nothing c.args.room.now 0))

pub put-at-requires : goal.put-at-requires
put-at-requires c =
    let fits =
    joined_fits c.args.pieces.now c.loop-piece.piece-index nothing c.loop-piece-test.true in
    omega (arith, fits, c.loop-piece.invariant.0, c.loop-piece.auto.room, c.requires)

pub loop-piece-preserved : goal.loop-piece-preserved
loop-piece-preserved c =
    let more =
    over_more c.args.room.now c.loop-piece.room c.put-at.new.room c.args.pieces.now
    c.loop-piece.piece-index _ c.loop-piece.at c.loop-piece-test.true
    c.loop-piece.invariant.0 c.loop-piece.invariant.1 c.put-at.ensures.room in
    (c.put-at.ensures.end ∙ more.0, more.1)
