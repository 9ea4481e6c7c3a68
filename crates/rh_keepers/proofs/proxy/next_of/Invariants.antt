-- what it did so far
use Rattle.rh_keepers.specs.Keepers.{KeptOn, no_causes}
use Rattle.rh_keepers.proofs.proxy.next_of.Given as goal

abbrev pub invariant-waits : goal.invariant-waits
invariant-waits g l = KeptOn g.M.Machine.next g.M.Machine.reply no_causes
    l.fn.actor.turn l.actor.turn l.fn.actor.seat l.actor.seat
