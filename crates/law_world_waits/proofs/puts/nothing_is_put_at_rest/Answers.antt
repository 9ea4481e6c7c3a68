use Rattle.law_world_waits.proofs.Nodes.{put_nothing}
use Rattle.law_world_waits.proofs.puts.nothing_is_put_at_rest.Goals as goal

pub returns : goal.returns
returns g c = put_nothing
