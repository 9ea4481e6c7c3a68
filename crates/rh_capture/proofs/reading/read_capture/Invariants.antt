-- the lines so far are in the grammar
use Rattle.std.proofs.Common.{length}
use Rattle.rh_capture.proofs.ReadLaws.{Reading}
use Rattle.rh_capture.proofs.reading.read_capture.Given as goal

abbrev pub invariant-lines : goal.invariant-lines
invariant-lines l = Reading l.text l.rest l.number l.seen.items l.kinds

abbrev pub decreases-lines : goal.decreases-lines
decreases-lines l = length l.rest
