use Rattle.law_order.proofs.Vocabulary.{refl}
use Rattle.rh_world.specs.Roles as roles
use Rattle.law_node_traces.proofs.Traced.ByChanges.{lines_by_changes}
use Rattle.law_world_order.proofs.Recorded.{in_range, new, ours}
use Rattle.law_world_rest.proofs.Recorded.{Laws, settle_line_rests}
use Rattle.law_world_rest.proofs.recordings.a_quiet_recording_is_at_rest.Goals as goal

pub returns : goal.returns
returns c = settle_line_rests laws
  where
    laws : Laws
    laws = record {
      steady = λ config ranges world lines.
          c.nodes_of_roles_are_steady.ensures roles.makers (roles.begun config) (new config)
          (ours config) (in_range config ranges) world
          (lines_by_changes roles.rules roles.makers roles.deeds (roles.begun config) world
          lines);
      round = c.settling_ends_legs_in_time.ensures.round roles.rules roles.makers roles.deeds;
      both = c.settling_ends_legs_in_time.ensures.both roles.rules roles.makers roles.deeds;
      first = λ config. c.lines_end_legs_in_time.ensures.first (roles.begun config) refl;
      line = c.lines_end_legs_in_time.ensures.both roles.rules roles.makers roles.deeds;
      same = c.a_silent_round_leaves_the_world_at_rest.ensures.same roles.rules roles.makers
          roles.deeds;
      rests = c.a_silent_round_leaves_the_world_at_rest.ensures.rest roles.rules roles.makers
          roles.deeds;
    }
