use Rattle.law_node_traces.proofs.Vocabulary.{deeds, rules}
use Rattle.law_world_order.proofs.Moments.{Known, directions}
use Rattle.law_world_order.proofs.directions.directions_are_joined.Goals as goal

pub returns : goal.returns
returns g c = λ m w new ours ranges v lines.
    let known : Known g.row.K.Denot = record {
      known = c.a_recording_of_roles_is_known.ensures.changes;
      once = λ m w. c.legs_of_roles_come_up_once.ensures m w.company w.cast;
      order = λ m. c.channels_come_up_in_order.ensures.changes rules m deeds;
    } in
    directions (λ m. c.a_leg_is_read_at_its_ends.ensures rules m deeds)
    (λ m w v h. c.what_is_heard_was_drawn.ensures rules m deeds w.company v h) known m w new ours v
    lines (c.what_is_put_is_legible.ensures m w new ours ranges v lines)
