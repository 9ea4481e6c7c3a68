use Rattle.std.proofs.Common.{◌≡◌, take}
use Rattle.rh_audit.specs.Pieces.{all_seen}
use Rattle.rh_audit.proofs.sorting.pieces_of.Given as goal

abbrev pub invariant-loop-line : goal.invariant-loop-line
invariant-loop-line l = all_seen l.pieces.items ≡ take l.line-index l.seen
