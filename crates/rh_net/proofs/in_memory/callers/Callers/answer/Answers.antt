-- the caller found is the one that is written over
use Rattle.rh_net.proofs.Memory.{set_taken}
use Rattle.rh_net.proofs.in_memory.callers.Callers.answer.Goals as goal

pub returns-clause-taken : goal.returns-clause-taken
returns-clause-taken c =
    set_taken c.in_ok-place.place c.args.self.now.callers.items c.index_mut.result.now
    c.index_mut.ensures.value
