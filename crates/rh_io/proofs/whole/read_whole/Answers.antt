-- where memory ran out, the bytes of the last read came too
use Rattle.std.proofs.Common.{arith}
use Rattle.std.proofs.lemmas.Grind.{common_steps}
use Rattle.rh_io.proofs.Moved.{Moves-more}
use Rattle.rh_io.proofs.whole.read_whole.Goals as goal

pub returns-in_default-clause-came : goal.returns-in_default-clause-came
returns-in_default-clause-came g c =
    let came = c.in-Ok.ensures.bytes in
    let moved = Moves-more _ _ _ _ _ _ _ _ c.reads.invariant.moved came in
    (_, moved, grind (arith, common_steps))
