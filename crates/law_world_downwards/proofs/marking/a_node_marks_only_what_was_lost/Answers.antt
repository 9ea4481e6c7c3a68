use Rattle.law_world_downwards.proofs.Unmarked.{unmarked}
use Rattle.law_world_downwards.proofs.marking.a_node_marks_only_what_was_lost.Goals as goal

pub returns : goal.returns
returns g c = λ first rooms events leg.
    unmarked g.R.Role.rules leg c.roles_move_by_their_rules.ensures.event first rooms events
