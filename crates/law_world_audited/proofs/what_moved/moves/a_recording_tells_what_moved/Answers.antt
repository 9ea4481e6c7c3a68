use Rattle.rh_world.specs.Roles as roles
use Rattle.law_world_order.proofs.Recorded.{new, ours}
use Rattle.law_world_audited.proofs.Moving.ToldMoves.{recording_moves}
use Rattle.law_world_audited.proofs.what_moved.moves.a_recording_tells_what_moved.Goals as goal

pub returns : goal.returns
returns c =
    recording_moves
    (λ config world leads.
    c.a_recording_of_roles_is_known.ensures.changes roles.makers (roles.begun config) world
    (new config) (ours config) leads)
