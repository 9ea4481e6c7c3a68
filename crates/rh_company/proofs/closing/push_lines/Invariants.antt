-- the lines so far were added
use Rattle.std.proofs.Common.{drop}
use Rattle.rh_company.specs.Closings.{lines}
use Rattle.rh_company.proofs.Appending.{IsAdded}
use Rattle.rh_company.proofs.closing.push_lines.Given as goal

abbrev pub invariant-loop-at : goal.invariant-loop-at
invariant-loop-at l = IsAdded (lines l.list) l.fn.report l.report (lines (drop l.at l.list))
