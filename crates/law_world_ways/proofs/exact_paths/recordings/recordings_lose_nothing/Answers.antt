use Rattle.rh_world.specs.Roles as roles
use Rattle.law_node_traces.proofs.Traced.ByChanges.{lines_by_changes}
use Rattle.law_world_reports.proofs.Vocabulary.{Before, after}
use Rattle.law_world_order.proofs.FirstTexts.Taken.{recorded_port}
use Rattle.law_world_order.proofs.Recorded.{in_range, new, ours}
use Rattle.law_world_ways.proofs.ExactPaths.Recorded.{Laws, each_keeps}
use Rattle.law_world_ways.proofs.exact_paths.recordings.recordings_lose_nothing.Goals as goal

pub returns : goal.returns
returns c = record {
  losses = λ before lose.
      each_keeps law (after Before before)
      (c.recordings_end_legs_in_time.ensures.losses before lose);
  none = λ before none.
      each_keeps law (after Before before) (c.recordings_end_legs_in_time.ensures.none before none);
}
  where
    law : Laws
    law = record {
      ways = λ config ranges world ends.
          c.nothing_on_its_way_is_lost.ensures roles.makers (roles.begun config) (new config)
          (ours config) (in_range config ranges) world
          (lines_by_changes roles.rules roles.makers roles.deeds (roles.begun config) world
          ends.lines);
      exact = λ config ranges world.
          c.what_was_given_is_taken_or_on_its_way.ensures roles.makers (roles.begun config)
          (new config) (ours config) (in_range config ranges) (recorded_port config) world;
    }
