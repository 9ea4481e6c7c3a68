use Rattle.rh_world.specs.Roles as roles
use Rattle.law_world_order.proofs.FirstTexts.Taken.{recorded_port}
use Rattle.law_world_order.proofs.Recorded.{in_range, new, ours}
use Rattle.law_world_unclosed.proofs.Recorded.{RecordLaws, makes_going, none_closes}
use Rattle.law_world_unclosed.proofs.recordings.a_calm_recording_closes_no_node_unless_one_late.Goals as goal

pub returns : goal.returns
returns c = none_closes law
  where
    law : RecordLaws
    law = record {
      along = λ config ranges. record {
        known = λ v leads.
            c.a_recording_of_roles_is_known.ensures.changes roles.makers (roles.begun config) v
            (new config) (ours config) leads;
        go = λ v leads.
            c.nodes_that_nothing_closed_go_on.ensures roles.makers (roles.begun config) v
            (new config) (ours config) makes_going leads;
        over = λ v ends.
            c.nodes_go_on_where_legs_are_over_upwards.ensures roles.makers (roles.begun config)
            (new config) (ours config) (in_range config ranges) (recorded_port config) v ends;
        events = record {
          client = c.causes_come_from_their_events.ensures;
          server = c.causes_come_from_their_events-2.ensures;
          in_proxy = c.causes_come_from_their_events-3.ensures;
          out_proxy = c.causes_come_from_their_events-4.ensures;
        };
        reported =
            c.what_is_reported_closed_was_closed.ensures.reported roles.rules roles.makers
            roles.deeds;
      };
      ends = c.a_node_of_a_calm_recording_closes_for_an_end.ensures.ends;
      licensed = c.each_close_of_a_recording_shows.ensures;
    }
