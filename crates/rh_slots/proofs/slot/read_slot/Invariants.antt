-- the legs that were kept are those that were served
use Rattle.std.proofs.Common.{◌≡◌}
use Rattle.std.specs.Arc.{arc_value}
use Rattle.rh_slots.specs.Slots.{ReadsLeg, Serves}
use Rattle.rh_slots.proofs.slot.read_slot.Given as goal

abbrev pub invariant-legs : goal.invariant-legs
invariant-legs g l =
    let i = g.I.Source in
    record {
      read : Serves (ReadsLeg g.M.Machine.next g.M.Machine.reply
          (arc_value l.fn.actor.turn).first i.taken i.faults i.ends)
          l.fn.actor.seat l.actor.seat l.kept.items;
      turn : l.actor.turn ≡ l.fn.actor.turn;
    }
