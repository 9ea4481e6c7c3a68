use Rattle.law_world_downwards.proofs.Unmarked.{unmarked_at_end}
use Rattle.law_world_downwards.proofs.marking.an_end_marks_only_what_was_lost.Goals as goal

pub returns : goal.returns
returns g c = λ first rooms events leg.
    let rules = g.R.Role.rules in
    unmarked_at_end rules leg g.R.EndRole.acts c.ends_move_by_their_rules.ensures.event first rooms
    events
