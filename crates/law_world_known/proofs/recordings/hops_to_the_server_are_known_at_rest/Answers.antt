use Rattle.law_order.proofs.Vocabulary.{refl}
use Rattle.rh_world.specs.Roles as roles
use Rattle.law_node_history.proofs.Vocabulary.{ByLines}
use Rattle.law_node_traces.proofs.Traced.ByChanges.{lines_by_changes}
use Rattle.law_node_traces.specs.Traced.Cookies.{ByChanges}
use Rattle.law_world_reports.proofs.Vocabulary.{AreInRange, WorldConfig}
use Rattle.law_world_order.proofs.FirstTexts.Taken.{recorded_port}
use Rattle.law_world_order.proofs.Recorded.{in_range, new, ours}
use Rattle.law_world_rest.proofs.Recorded.{Laws as RestLaws}
use Rattle.law_world_rest.specs.Steady.{AreSteady}
use Rattle.law_world_known.proofs.Hops.{Counting, Telling}
use Rattle.law_world_known.proofs.Recorded.{known_where_quiet}
use Rattle.law_world_known.proofs.Worlds.{Laws}
use Rattle.law_world_known.proofs.recordings.hops_to_the_server_are_known_at_rest.Goals as goal

pub returns : goal.returns
returns c = known_where_quiet laws counting telling resting c.a_quiet_recording_is_at_rest.ensures
  where
    changes : (config : WorldConfig) (world : roles.World)
        → ByLines roles.rules roles.makers roles.deeds (roles.begun config) world
        → ByChanges roles.rules roles.makers roles.deeds (roles.begun config) world
    changes config world by =
        lines_by_changes roles.rules roles.makers roles.deeds (roles.begun config) world by

    steady : (config : WorldConfig) → AreInRange config → (world : roles.World)
        → ByLines roles.rules roles.makers roles.deeds (roles.begun config) world
        → AreSteady roles.rules roles.deeds world.company
    steady config ranges world by =
        c.nodes_of_roles_are_steady.ensures roles.makers (roles.begun config) (new config)
        (ours config) (in_range config ranges) world (changes config world by)

    resting : RestLaws
    resting = record {
      steady = steady;
      round = c.settling_ends_legs_in_time.ensures.round roles.rules roles.makers roles.deeds;
      both = c.settling_ends_legs_in_time.ensures.both roles.rules roles.makers roles.deeds;
      first = λ config. c.lines_end_legs_in_time.ensures.first (roles.begun config) refl;
      line = c.lines_end_legs_in_time.ensures.both roles.rules roles.makers roles.deeds;
      same = c.a_silent_round_leaves_the_world_at_rest.ensures.same roles.rules roles.makers
          roles.deeds;
      rests = c.a_silent_round_leaves_the_world_at_rest.ensures.rest roles.rules roles.makers
          roles.deeds;
    }

    laws : Laws
    laws = record {
      steady = steady;
      known = λ config world by.
          c.a_recording_of_roles_is_known.ensures.changes roles.makers (roles.begun config) world
          (new config) (ours config) by.leads;
      puts = c.nothing_is_put_at_rest.ensures roles.rules roles.makers roles.deeds;
      flowing = λ config ranges world by.
          c.what_is_put_is_legible.ensures roles.makers (roles.begun config) (new config)
          (ours config) (in_range config ranges) world (changes config world by);
      whole = c.all_that_was_put_is_read.ensures.whole;
      server_reads = λ config world by leg.
          c.what_comes_is_read.ensures.server roles.makers (roles.begun config) (new config)
          (ours config) world (changes config world by) leg;
      ins_read = λ config ranges world by n leg.
          c.what_comes_is_read.ensures.ins roles.makers (roles.begun config) (new config)
          (ours config) (in_range config ranges) (recorded_port config) world
          (changes config world by) n leg;
      outs_read = λ config ranges world by n leg.
          c.what_comes_is_read.ensures.outs roles.makers (roles.begun config) (new config)
          (ours config) (in_range config ranges) (recorded_port config) world
          (changes config world by) n leg;
      server_knows = λ config events leg.
          c.a_leg_that_came_up_is_known.ensures.server (ours config).window events leg;
      ins_know = λ config n events leg.
          c.a_leg_that_came_up_is_known.ensures.in_proxy ((ours config).in_config n) events leg;
      outs_know = λ config n events leg.
          c.a_leg_that_came_up_is_known.ensures.out_proxy ((ours config).out_config n) events leg;
    }

    counting : Counting
    counting = record {
      in_sent = c.an_in_proxy_counts_what_it_sends.ensures;
      in_told = c.an_in_proxy_knows_of_a_window_that_was_told.ensures;
      out_received = c.an_out_proxy_counts_what_it_receives.ensures;
      server_sent = λ window n moves leg at.
          c.a_server_counts_what_it_sends.ensures window n moves leg at;
      server_received = c.a_server_counts_what_it_receives.ensures;
    }

    telling : Telling
    telling = record {
      in_knows = c.an_in_proxy_knows_what_the_server_told.ensures;
      out_tells = c.an_out_proxy_told_what_its_window_told.ensures;
      server_knows = c.a_server_knows_what_out_proxies_told.ensures;
      server_tells = c.a_server_told_what_its_window_told.ensures;
    }
