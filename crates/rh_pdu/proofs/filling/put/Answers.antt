-- what is put stands behind what was held
use Rattle.std.proofs.Common.{arith}
use Rattle.std.proofs.lemmas.Grind.{common_steps}
use Rattle.rh_pdu.proofs.Puts.{take_put}
use Rattle.rh_pdu.proofs.filling.put.Goals as goal

pub returns-clause-bytes : goal.returns-clause-bytes
returns-clause-bytes c =
    let e = take_put c.args.held c.min-count.result c.args.buf.now c.args.piece.now (omega arith) in
    rw e (grind (arith, common_steps))
