-- what was read so far was fed, and fewer pieces were late than may be
use Rattle.std.proofs.Common.{◌≡◌, ◌≤◌, ◌<◌}
use Rattle.rh_legs.proofs.Reading.{ReadsOn}
use Rattle.rh_legs.proofs.reader.read_leg.Given as goal

abbrev pub invariant-reads : goal.invariant-reads
invariant-reads g l =
    let s = g.S.Source in
    record {
      reading : ReadsOn g.M.Machine.next g.M.Machine.reply l.turn.first l.leg
          l.fn.seat l.seat (s.taken l.fn.source) (s.taken l.source) l.late;
      few : l.late < 256;
      turn : l.seat.turn ≡ l.fn.seat.turn;
      faults : s.faults l.fn.source ≤ s.faults l.source;
      ends : s.ends l.fn.source ≤ s.ends l.source;
    }
