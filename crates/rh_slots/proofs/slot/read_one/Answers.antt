-- shutting a source changes no told byte and no count
use Rattle.std.proofs.Common.{ap, ◌∙◌}
use Rattle.std.specs.Arc.{arc_value}
use Rattle.rh_turn.specs.Values.{TurnValue}
use Rattle.rh_slots.proofs.Legs.{read-done}
use Rattle.rh_slots.proofs.slot.read_one.Goals as goal

pub returns-clause-read : goal.returns-clause-read
returns-clause-read g c =
    let done = c.read_leg-end.ensures in
    let shut = c.shut.ensures in
    read-done _ _ _ _ _ _ _ _ _ _ _ _ _ _ done.read.0
    (ap (λ (t : TurnValue _). t.first) c.deref.ensures
    ∙ ap (λ t. (arc_value {X = TurnValue _} t).first) c.feed_first-room.ensures.turn)
    c.feed_first-room.ensures.begun done.read.1 done.ended done.failed
    shut.bytes.same_read shut.counts.0 shut.counts.1
