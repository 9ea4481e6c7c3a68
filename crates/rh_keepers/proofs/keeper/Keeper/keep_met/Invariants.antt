-- what it did so far
use Rattle.rh_keepers.specs.Faults.{CookiesFail, NetFails}
use Rattle.rh_keepers.specs.Keepers.{IsKeepersEnd, KeptOn, of_others}
use Rattle.rh_keepers.proofs.keeper.Keeper.keep_met.Given as goal

abbrev pub invariant-rounds : goal.invariant-rounds
invariant-rounds g l = record {
  kept : KeptOn g.M.Machine.next g.M.Machine.reply
      (of_others g.M.Machine.reply g.C.Clock.moment g.N.Net.counts g.N.In.Source.faults)
      l.fn.self.actor.turn l.self.actor.turn l.fn.self.actor.seat l.self.actor.seat;
  end : IsKeepersEnd (NetFails g.N.Net.counts) (CookiesFail g.K.Cookies.faults) l.end;
}
