use Rattle.std.proofs.Common.{length}
use Rattle.rh_audit.specs.Captures.{carried}
use Rattle.rh_audit.specs.Chains.{stream_in}
use Rattle.rh_audit.specs.Pieces.{all_seen}
use Rattle.rh_audit.proofs.Places.{InRead}
use Rattle.rh_audit.proofs.summary.read_frames.Given as goal

abbrev pub invariant-frames : goal.invariant-frames
invariant-frames l =
    InRead l.fn.pipe (carried l.fn.pipe (all_seen l.fn.lines))
    (stream_in l.fn.pipe (all_seen l.fn.lines)) l.left l.begins l.says l.places.items

abbrev pub decreases-frames : goal.decreases-frames
decreases-frames l = length l.left.stream.frames
