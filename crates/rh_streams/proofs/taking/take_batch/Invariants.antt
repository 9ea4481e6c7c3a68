-- what was taken so far stands in the batch
use Rattle.std.proofs.Common.{◌≡◌}
use Rattle.std.specs.Arc.{arc_value}
use Rattle.rh_streams.specs.Takers.{TookInto}
use Rattle.rh_streams.proofs.taking.take_batch.Given as goal

abbrev pub invariant-takes : goal.invariant-takes
invariant-takes g l = record {
  took : TookInto g.M.Machine.next g.M.Machine.reply (arc_value l.fn.actor.turn).first
      l.fn.actor.seat l.actor.seat l.fn.batch l.batch;
  turn : l.actor.turn ≡ l.fn.actor.turn;
}
