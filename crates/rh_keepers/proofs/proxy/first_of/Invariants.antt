-- it didn't fail so far
use Rattle.std.proofs.Common.{◌≡◌}
use Rattle.rh_keepers.proofs.proxy.first_of.Given as goal

abbrev pub invariant-looks : goal.invariant-looks
invariant-looks g l = g.I.Source.faults l.source ≡ g.I.Source.faults l.fn.source
