-- nothing was given and read so far
use Rattle.std.proofs.Common.{◌≡◌, []}
use Rattle.std.specs.Arc.{arc_value}
use Rattle.rh_io.specs.Bytes.{Stays}
use Rattle.rh_streams.specs.Givers.{GivesOn}
use Rattle.rh_streams.proofs.giving.awaits_input.Given as goal

abbrev pub invariant-looks : goal.invariant-looks
invariant-looks g l =
    let s = g.S.Source in
    record {
      asked : GivesOn g.M.Machine.next g.M.Machine.reply (arc_value l.fn.actor.turn).first
          l.fn.actor.seat l.actor.seat [];
      bytes : Stays (s.left l.fn.input) (s.left l.input) (s.taken l.fn.input) (s.taken l.input);
      faults : s.faults l.input ≡ s.faults l.fn.input;
      turn : l.actor.turn ≡ l.fn.actor.turn;
    }
