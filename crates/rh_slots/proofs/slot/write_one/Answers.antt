-- shutting a sink changes no told byte and not its count
use Rattle.std.proofs.Common.{ap}
use Rattle.rh_turn.specs.Values.{TurnValue}
use Rattle.rh_slots.proofs.Legs.{write-done}
use Rattle.rh_slots.proofs.slot.write_one.Goals as goal

pub returns-clause-written : goal.returns-clause-written
returns-clause-written g c =
    let done = c.write_leg-end.ensures in
    write-done _ _ _ _ _ _ _ _ _ _ _ _ _ done.written.0
    (ap (λ (t : TurnValue _). t.first) c.deref.ensures) c.of.ensures
    done.written.1 done.failed done.no_end c.shut.ensures.bytes c.shut.ensures.count
