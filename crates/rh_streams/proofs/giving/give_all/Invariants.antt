-- of what came so far the first PDUs were given
use Rattle.std.proofs.Common.{◌≡◌, ◌≤◌, ℕ, List}
use Rattle.std.specs.Arc.{arc_value}
use Rattle.rh_io.specs.Bytes.{Moves}
use Rattle.rh_streams.specs.Givers.{GaveOf}
use Rattle.rh_streams.proofs.giving.give_all.Given as goal

abbrev pub invariant-reads : goal.invariant-reads
invariant-reads g l =
    let s = g.S.Source in
    record {
      giving : (came : List ℕ)
          × Moves (s.left l.fn.input) (s.left l.input) (s.taken l.fn.input) (s.taken l.input) came
          × GaveOf g.M.Machine.next g.M.Machine.reply (arc_value l.fn.actor.turn).first
          l.fn.actor.seat l.actor.seat came l.reader.framer.rest;
      faults : s.faults l.fn.input ≤ s.faults l.input;
      turn : l.actor.turn ≡ l.fn.actor.turn;
    }
