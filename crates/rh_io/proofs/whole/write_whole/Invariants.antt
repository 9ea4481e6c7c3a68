-- what isn't written is the rest of the piece
use Rattle.std.proofs.Common.{◌≡◌, ◌≤◌, ◌+◌, ◌-◌, length, take, drop}
use Rattle.std.specs.Io.KnownBytes.{Appends}
use Rattle.rh_io.proofs.whole.write_whole.Given as goal

abbrev pub decreases-writes : goal.decreases-writes
decreases-writes g l = length l.rest

abbrev pub invariant-writes : goal.invariant-writes
invariant-writes g l =
    let w = g.W.Sink in
    let gone = length l.fn.piece - length l.rest in
    record {
      shorter : length l.rest ≤ length l.fn.piece;
      behind : l.rest ≡ drop gone l.fn.piece;
      done : Appends (w.written l.fn.sink) (w.written l.sink) (take gone l.fn.piece);
      faults : w.faults l.sink ≡ w.faults l.fn.sink;
      takes : w.takes l.fn.sink ≤ w.takes l.sink + (length l.fn.piece - length l.rest);
      still : length l.fn.piece ≡ 0 → l.sink ≡ l.fn.sink;
    }
