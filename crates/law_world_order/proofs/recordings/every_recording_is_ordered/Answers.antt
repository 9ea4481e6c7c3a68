use Rattle.rh_world.specs.Roles as roles
use Rattle.law_world_order.proofs.Kept.{lines_keep_order}
use Rattle.law_world_order.proofs.Recorded.{in_range, new, ours}
use Rattle.law_world_order.proofs.recordings.every_recording_is_ordered.Goals as goal

pub returns : goal.returns
returns c =
    c.a_recording_is_ordered.ensures
    (λ config range. lines_keep_order roles.makers (roles.begun config)
    (c.roles_keep_order.ensures roles.makers (roles.begun config) (new config) (ours config)
    (in_range config range)))
