-- what it did so far
use Rattle.rh_keepers.specs.Keepers.{KeptOn, of_others}
use Rattle.rh_keepers.proofs.keeper.Keeper.meet_all.Given as goal

abbrev pub invariant-callers : goal.invariant-callers
invariant-callers g l = KeptOn g.M.Machine.next g.M.Machine.reply
    (of_others g.M.Machine.reply g.C.Clock.moment g.N.Net.counts g.N.In.Source.faults)
    l.fn.self.actor.turn l.self.actor.turn l.fn.self.actor.seat l.self.actor.seat
