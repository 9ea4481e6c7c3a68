use Rattle.rh_world.specs.Roles as roles
use Rattle.law_world_order.proofs.Kept.{lines_keep_order}
use Rattle.law_world_order.proofs.Recorded.{in_range, new, ours}
use Rattle.law_world_order.proofs.final_ends.every_recording_ends_for_good.Goals as goal

pub returns : goal.returns
returns c =
    c.a_recording_ends_for_good.ensures
    (λ config range. lines_keep_order roles.makers (roles.begun config)
    (c.roles_keep_order.ensures roles.makers (roles.begun config) (new config) (ours config)
    (in_range config range)))
