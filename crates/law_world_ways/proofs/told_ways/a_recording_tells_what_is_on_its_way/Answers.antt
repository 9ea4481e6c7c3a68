use Rattle.rh_world.specs.Roles as roles
use Rattle.law_node_traces.proofs.Traced.ByChanges.{lines_by_changes}
use Rattle.law_world_order.proofs.Recorded.{in_range, new, ours}
use Rattle.law_world_ways.proofs.OnToldWays.{tells_ways}
use Rattle.law_world_ways.proofs.told_ways.a_recording_tells_what_is_on_its_way.Goals as goal

pub returns : goal.returns
returns c =
    tells_ways
    (λ config ranges world by.
    c.nothing_on_its_way_is_lost.ensures roles.makers (roles.begun config) (new config)
    (ours config) (in_range config ranges) world
    (lines_by_changes roles.rules roles.makers roles.deeds (roles.begun config) world by))
    c.a_recording_tells_its_history.ensures
