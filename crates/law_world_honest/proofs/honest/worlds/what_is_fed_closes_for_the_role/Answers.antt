use Rattle.law_node_history.proofs.Vocabulary.{IsFed}
use Rattle.law_node_traces.proofs.Vocabulary.{history_at}
use Rattle.law_world_honest.proofs.Honesty.Fed.{EachCloses, fed_closes}
use Rattle.law_world_honest.proofs.honest.worlds.what_is_fed_closes_for_the_role.Goals as goal

pub returns : goal.returns
returns g c = λ m w new ours ranges v by leg dir count node why may closes.
    let each : EachCloses = record {
      client = c.what_is_heard_well_closes_for_the_role.ensures;
      server = c.what_is_heard_well_closes_for_the_role-2.ensures;
      ins = c.what_is_heard_well_closes_for_the_role-3.ensures;
      outs = c.what_is_heard_well_closes_for_the_role-4.ensures;
    } in
    let known = c.a_recording_of_roles_is_known.ensures.changes m w v new ours by.leads in
    fed_closes each m w v ours (history_at m w v by.leads) known.traced
    (c.what_is_put_is_legible.ensures m w new ours ranges v by) leg dir count
    (c.what_is_heard_reads_well.ensures m w new ours ranges v by (IsFed leg dir count) may leg
    dir) why node closes
