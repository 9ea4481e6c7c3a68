use Rattle.std.proofs.Common.{◌≡◌, ◌++◌, length}
use Rattle.rh_audit.specs.Cursors.{all_left_at}
use Rattle.rh_audit.specs.Links.{legs_of}
use Rattle.rh_audit.specs.Places.{AreBehind}
use Rattle.rh_audit.specs.Walks.{all_pdus}
use Rattle.rh_audit.proofs.walk.Walk.next_pdu.Given as goal

abbrev pub invariant-links : goal.invariant-links
invariant-links l =
    (all_left_at l.self-inside.cursor.at l.self-inside.cursor.bytes l.self-inside.places.now
    ++ all_pdus (legs_of l.self-inside.links.now)
    ≡ l.fn.self.pdus)
    × AreBehind l.self-inside.cursor.at l.self-inside.places.now

abbrev pub decreases-links : goal.decreases-links
decreases-links l = length l.self-inside.links.now
