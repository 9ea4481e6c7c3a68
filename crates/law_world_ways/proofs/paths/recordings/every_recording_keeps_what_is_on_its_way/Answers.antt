use Rattle.rh_world.specs.Roles as roles
use Rattle.law_world_order.proofs.Recorded.{in_range, new, ours}
use Rattle.law_world_ways.proofs.OnPaths.Recorded.{WayLaws, lines_keep}
use Rattle.law_world_ways.proofs.paths.recordings.every_recording_keeps_what_is_on_its_way.Goals as goal

pub returns : goal.returns
returns c =
    let law : WayLaws = record {
      settings = c.windows_hold_in_a_world_of_roles.ensures.cast;
      marks = λ config ranges world by.
          c.marks_are_last.ensures roles.makers (roles.begun config) (new config) (ours config)
          (in_range config ranges) world by;
      ways = λ config ranges world by.
          c.nothing_on_its_way_is_lost.ensures roles.makers (roles.begun config) (new config)
          (ours config) (in_range config ranges) world by;
    } in
    lines_keep law
