use Rattle.law_node_traces.proofs.Vocabulary.{deeds, rules}
use Rattle.law_world_expected.proofs.IsLegs.{are_connected}
use Rattle.law_world_expected.proofs.connected.is_legs_of_lines_are_connected.Goals as goal

pub returns : goal.returns
returns g c = λ m w new ours v by lines flowing.
    are_connected m w v ours by.leads
    (c.a_recording_of_roles_is_known.ensures.changes m w v new ours by.leads)
    (c.channels_come_up_in_order.ensures.lines rules m deeds w v new
    (c.legs_of_roles_come_up_once.ensures m w.company w.cast ours)
    (record { leads = by.leads; work = lines })) flowing
