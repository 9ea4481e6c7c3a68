-- the first end is what is told of those before a place
use Rattle.std.proofs.Common.{take}
use Rattle.rh_role_words.specs.Tellings.{IsToldOf}
use Rattle.rh_role_words.proofs.status.status_of_ends.Given as goal

abbrev pub invariant-loop-end : goal.invariant-loop-end
invariant-loop-end l = IsToldOf (take l.end-index l.ends) l.first
