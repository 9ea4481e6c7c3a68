use Rattle.std.proofs.Common.{arith}
use Rattle.rh_audit.specs.Pieces.{all_seen}
use Rattle.rh_audit.proofs.Weights.{carried_few}
use Rattle.rh_audit.proofs.leg.read_stream.Goals as goal

pub read_frames-requires : goal.read_frames-requires
read_frames-requires c =
    omega (arith, carried_few c.args.pipe (all_seen c.args.lines.now), c.requires)
