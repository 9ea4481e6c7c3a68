use Rattle.law_world_ways.proofs.DirectKept.{directly}
use Rattle.law_world_ways.proofs.direct_ways.direct_recordings_keep_all.Goals as goal

pub returns : goal.returns
returns c = directly
