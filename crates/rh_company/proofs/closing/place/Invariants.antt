-- the place among those that are left
use Rattle.std.proofs.Common.{◌≡◌, ◌+◌, drop}
use Rattle.rh_company.specs.Closings.{place}
use Rattle.rh_company.proofs.closing.place.Given as goal

abbrev pub invariant-loop-at : goal.invariant-loop-at
invariant-loop-at l = l.at + place l.who (drop l.at l.list) ≡ place l.who l.list
