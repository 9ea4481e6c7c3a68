-- what was added are the answers before the place
use Rattle.std.proofs.Common.{◌≡◌, take}
use Rattle.rh_made.specs.Tallies.{with}
use Rattle.rh_made.proofs.tally.Tally.add.Given as goal

abbrev pub invariant-loop-answer : goal.invariant-loop-answer
invariant-loop-answer l = l.self ≡ with l.fn.self (take l.answer-index l.answers)
