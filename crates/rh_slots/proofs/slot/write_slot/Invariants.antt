-- the legs that were kept are those that were served
use Rattle.std.proofs.Common.{◌≡◌}
use Rattle.std.specs.Arc.{arc_value}
use Rattle.rh_slots.specs.Slots.{Serves, WritesLeg}
use Rattle.rh_slots.proofs.slot.write_slot.Given as goal

abbrev pub invariant-legs : goal.invariant-legs
invariant-legs g l =
    let o = g.O.Sink in
    record {
      written : Serves (WritesLeg g.M.Machine.next g.M.Machine.reply
          (arc_value l.fn.actor.turn).first o.written o.faults)
          l.fn.actor.seat l.actor.seat l.kept.items;
      turn : l.actor.turn ≡ l.fn.actor.turn;
    }
