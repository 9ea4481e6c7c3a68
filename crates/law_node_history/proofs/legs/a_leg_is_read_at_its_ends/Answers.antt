use Rattle.law_node_history.proofs.Recordings.{elsewhere}
use Rattle.law_node_history.proofs.legs.a_leg_is_read_at_its_ends.Goals as goal

pub returns : goal.returns
returns g c = elsewhere
