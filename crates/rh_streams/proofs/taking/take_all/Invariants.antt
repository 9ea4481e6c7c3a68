-- what was taken so far was written
use Rattle.std.proofs.Common.{◌≡◌, ◌≤◌}
use Rattle.std.specs.Arc.{arc_value}
use Rattle.rh_streams.proofs.TakerCalls.{TakesOn}
use Rattle.rh_streams.proofs.taking.take_all.Given as goal

abbrev pub invariant-batches : goal.invariant-batches
invariant-batches g l =
    let w = g.W.Sink in
    record {
      taking : TakesOn g.M.Machine.next g.M.Machine.reply (arc_value l.fn.actor.turn).first
          l.fn.actor.seat l.actor.seat (w.written l.fn.output) (w.written l.output);
      turn : l.actor.turn ≡ l.fn.actor.turn;
      faults : w.faults l.fn.output ≤ w.faults l.output;
    }
