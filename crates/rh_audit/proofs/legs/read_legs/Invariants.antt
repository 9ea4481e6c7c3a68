use Rattle.std.proofs.Common.{◌≤◌, ◌-◌, drop, length}
use Rattle.rh_audit.specs.Pieces.{all_seen}
use Rattle.rh_audit.proofs.ReadLaws.{InReading}
use Rattle.rh_audit.proofs.legs.read_legs.Given as goal

abbrev pub invariant-tags : goal.invariant-tags
invariant-tags l =
    (l.from ≤ length l.lines)
    × InReading (all_seen l.lines) (all_seen (drop l.from l.lines)) l.legs l.fn.faults.items
    l.faults.items

abbrev pub decreases-tags : goal.decreases-tags
decreases-tags l = length l.lines - l.from
