use Rattle.std.proofs.Common.{◌≡◌, ◌≤◌, length}
use Rattle.rh_audit.specs.Captures.{carried}
use Rattle.rh_audit.specs.Pieces.{all_seen}
use Rattle.rh_audit.proofs.pieces.Pieces.next_piece.Given as goal

abbrev pub invariant-loop-self : goal.invariant-loop-self
invariant-loop-self l =
    (l.self-inside.pipe ≡ l.initial.self-inside.pipe)
    × (carried l.self-inside.pipe (all_seen l.self-inside.lines.now)
    ≡ carried l.initial.self-inside.pipe (all_seen l.initial.self-inside.lines.now))
    × (length l.self-inside.lines.now ≤ length l.initial.self-inside.lines.now)

abbrev pub decreases-loop-self : goal.decreases-loop-self
decreases-loop-self l = length l.self-inside.lines.now
