use Rattle.rh_client.specs.Client.{acts, rooms, rules}
use Rattle.rh_client.specs.State.{first}
use Rattle.law_world_downwards.proofs.DrawnWhole.{all_drawn}
use Rattle.law_world_downwards.proofs.drawing.what_a_client_drew_at_once_is_drawn.Goals as goal

pub returns : goal.returns
returns c = λ config events leg.
    all_drawn rules leg acts c.ends_move_by_their_rules.ensures.event (first config) rooms events
