-- the bytes from the position on are moved
use Rattle.std.proofs.Common.{arith}
use Rattle.std.proofs.lemmas.Grind.{common_steps}
use Rattle.rh_io.proofs.Moved.{moved_next}
use Rattle.rh_io.proofs.memory.MemSourceSource.read.Goals as goal

pub returns-clause-bytes : goal.returns-clause-bytes
returns-clause-bytes c =
    moved_next c.args.self.now.bytes.items c.args.room.now c.copy_from_slice.new.self
    c.args.self.now.position c.min-count.result
    (omega arith)
    (grind (arith, common_steps))
