use Rattle.law_order.proofs.Vocabulary.{refl}
use Rattle.rh_world.specs.Roles as roles
use Rattle.law_node_history.proofs.Vocabulary.{ByLines}
use Rattle.law_node_traces.proofs.Traced.ByChanges.{lines_by_changes}
use Rattle.law_world_reports.proofs.Vocabulary.{AreInRange, WorldConfig}
use Rattle.law_world_order.proofs.Recorded.{in_range, new, ours}
use Rattle.law_world_rest.proofs.Recorded.{Laws as RestLaws}
use Rattle.law_world_rest.specs.Steady.{AreSteady}
use Rattle.law_world_waits.proofs.Recorded.{Laws, waits_where_quiet}
use Rattle.law_world_waits.proofs.recordings.what_is_not_taken_waits_at_nodes.Goals as goal

pub returns : goal.returns
returns c = waits_where_quiet laws
  where
    steady : (config : WorldConfig) → AreInRange config → (world : roles.World)
        → ByLines roles.rules roles.makers roles.deeds (roles.begun config) world
        → AreSteady roles.rules roles.deeds world.company
    steady config ranges world lines =
        c.nodes_of_roles_are_steady.ensures roles.makers (roles.begun config) (new config)
        (ours config) (in_range config ranges) world
        (lines_by_changes roles.rules roles.makers roles.deeds (roles.begun config) world lines)

    resting : RestLaws
    resting = record {
      steady = steady;
      round = c.settling_ends_legs_in_time.ensures.round roles.rules roles.makers roles.deeds;
      both = c.settling_ends_legs_in_time.ensures.both roles.rules roles.makers roles.deeds;
      first = λ config. c.lines_end_legs_in_time.ensures.first (roles.begun config) refl;
      line = c.lines_end_legs_in_time.ensures.both roles.rules roles.makers roles.deeds;
      same = c.a_silent_round_leaves_the_world_at_rest.ensures.same roles.rules roles.makers
          roles.deeds;
      rests = c.a_silent_round_leaves_the_world_at_rest.ensures.rest roles.rules roles.makers
          roles.deeds;
    }

    laws : Laws
    laws = record {
      steady = steady;
      known = λ config world by.
          c.a_recording_of_roles_is_known.ensures.changes roles.makers (roles.begun config) world
          (new config) (ours config) by.leads;
      puts = c.nothing_is_put_at_rest.ensures roles.rules roles.makers roles.deeds;
      knows = record {
        client = c.a_leg_that_came_up_is_known.ensures.client;
        server = c.a_leg_that_came_up_is_known.ensures.server;
        ins = c.a_leg_that_came_up_is_known.ensures.in_proxy;
        outs = c.a_leg_that_came_up_is_known.ensures.out_proxy;
        in_pipes = c.proxies_keep_their_pipes.ensures.in_proxy;
        out_pipes = c.proxies_keep_their_pipes.ensures.out_proxy;
      };
      tells = c.a_recording_tells_all_that_it_keeps.ensures.losses;
      rests = c.a_quiet_recording_is_at_rest.ensures;
      resting = resting;
    }
