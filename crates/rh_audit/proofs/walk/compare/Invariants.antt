use Rattle.std.proofs.Common.{◌≡◌, ◌+◌, length}
use Rattle.rh_audit.specs.Audits.{prefixed}
use Rattle.rh_audit.specs.Walks.{prefixed_from}
use Rattle.rh_audit.proofs.walk.compare.Given as goal

abbrev pub invariant-pdus : goal.invariant-pdus
invariant-pdus l =
    (prefixed_from l.place l.far.pdus l.near.pdus ≡ prefixed l.fn.far.pdus l.fn.near.pdus)
    × (l.place + length l.far.pdus ≡ length l.fn.far.pdus)
    × (l.place + length l.near.pdus ≡ length l.fn.near.pdus)

abbrev pub decreases-pdus : goal.decreases-pdus
decreases-pdus l = length l.far.pdus
