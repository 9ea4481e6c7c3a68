-- what was given so far stands before what is held and left of the piece
use Rattle.std.proofs.Common.{◌≡◌, ◌++◌, length}
use Rattle.std.specs.Arc.{arc_value}
use Rattle.rh_streams.specs.Givers.{GaveOf}
use Rattle.rh_streams.proofs.giving.give_piece.Given as goal

abbrev pub invariant-frames : goal.invariant-frames
invariant-frames g l = record {
  gave : GaveOf g.M.Machine.next g.M.Machine.reply (arc_value l.fn.actor.turn).first
      l.fn.actor.seat l.actor.seat
      (l.fn.reader.framer.rest ++ l.piece) (l.reader.framer.rest ++ l.rest);
  turn : l.actor.turn ≡ l.fn.actor.turn;
}

abbrev pub decreases-frames : goal.decreases-frames
decreases-frames g l = length l.rest
