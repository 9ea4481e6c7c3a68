use Rattle.law_world_calm.proofs.NoBreaks.{no_break_by_settling}
use Rattle.law_world_calm.proofs.settling.no_leg_breaks_for_a_node_by_settling.Goals as goal

pub returns : goal.returns
returns g c = λ m first w new ours leads both none rounds node leg.
    no_break_by_settling m first
    (λ v to. c.a_recording_of_roles_is_known.ensures.changes m first v new ours to)
    (record {
      client = c.causes_come_from_their_events.ensures;
      server = c.causes_come_from_their_events-2.ensures;
      in_proxy = c.causes_come_from_their_events-3.ensures;
      out_proxy = c.causes_come_from_their_events-4.ensures;
    }) node leg w leads both none rounds
