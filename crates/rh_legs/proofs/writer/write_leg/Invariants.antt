-- what was drawn so far was written
use Rattle.std.proofs.Common.{◌≡◌, ◌≤◌}
use Rattle.rh_legs.proofs.Writing.{WritesOn}
use Rattle.rh_legs.proofs.writer.write_leg.Given as goal

abbrev pub invariant-writes : goal.invariant-writes
invariant-writes g l =
    let w = g.W.Sink in
    record {
      writing : WritesOn g.M.Machine.next g.M.Machine.reply l.turn.first l.leg
          l.fn.seat l.seat (w.written l.fn.sink) (w.written l.sink);
      turn : l.seat.turn ≡ l.fn.seat.turn;
      faults : w.faults l.fn.sink ≤ w.faults l.sink;
    }
