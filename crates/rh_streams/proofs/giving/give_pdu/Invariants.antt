-- nothing was given so far
use Rattle.std.proofs.Common.{◌≡◌, []}
use Rattle.std.specs.Arc.{arc_value}
use Rattle.rh_streams.specs.Givers.{GivesOn}
use Rattle.rh_streams.proofs.giving.give_pdu.Given as goal

abbrev pub invariant-gives : goal.invariant-gives
invariant-gives g l = record {
  giving : GivesOn g.M.Machine.next g.M.Machine.reply (arc_value l.fn.actor.turn).first
      l.fn.actor.seat l.actor.seat [];
  turn : l.actor.turn ≡ l.fn.actor.turn;
}
