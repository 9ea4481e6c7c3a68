-- what was taken is a longer front of the piece
use Rattle.std.proofs.Common.{arith}
use Rattle.std.proofs.lemmas.Grind.{common_steps}
use Rattle.rh_io.proofs.Written.{front-grows}
use Rattle.rh_io.proofs.whole.write_whole.Goals as goal

pub writes-preserved : goal.writes-preserved
writes-preserved g c =
    let now = c.writes.invariant in
    let came = c.in_ok-count in
    let grown =
    front-grows _ _ _ c.args.piece.now c.writes.rest.now c.split_at.result.1.now came.count
    came.ensures.bound now.shorter now.behind c.split_at.ensures.back now.done came.ensures.bytes in
    record {
      shorter = grind (arith, common_steps);
      behind = grown.0;
      done = grown.1;
      faults = grind (arith, common_steps);
      takes = grind (arith, common_steps);
      still = grind (arith, common_steps);
    }
