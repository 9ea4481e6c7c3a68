use Rattle.std.proofs.Common.{◌∷◌, true}
use Rattle.rh_record.specs.declared.line.Line.TheVariants.{First}
use Rattle.rh_world.specs.declared.any_world.AnyWorld.TheVariants.{Before}
use Rattle.rh_world.specs.Roles as roles
use Rattle.law_node_traces.proofs.Traced.ByChanges.{lines_by_changes}
use Rattle.law_world_order.proofs.FirstTexts.Taken.{recorded_port}
use Rattle.law_world_order.proofs.Recorded.{in_range, new, ours}
use Rattle.law_world_ways.proofs.EndsInTime.Recorded.{none_lose}
use Rattle.law_world_ways.proofs.EndsInTime.ToldRecorded.{ExactLaws, recording_tells_all}
use Rattle.law_world_ways.proofs.told_exactly.a_recording_tells_all_that_it_keeps.Goals as goal

pub returns : goal.returns
returns c = record {
  losses = recording_tells_all law;
  none = λ behind is.
      recording_tells_all law behind (none_lose Before (First true ∷ behind) is);
}
  where
    law : ExactLaws
    law = record {
      ways = λ config ranges world by.
          c.nothing_on_its_way_is_lost.ensures roles.makers (roles.begun config) (new config)
          (ours config) (in_range config ranges) world
          (lines_by_changes roles.rules roles.makers roles.deeds (roles.begun config) world by);
      exact = λ config ranges world by in_time.
          c.what_was_given_is_taken_or_on_its_way.ensures roles.makers (roles.begun config)
          (new config) (ours config) (in_range config ranges) (recorded_port config) world
          (record { lines = by; in_time = in_time });
    }
