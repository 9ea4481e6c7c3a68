use Rattle.rh_line.specs.declared.cause.Cause.TheVariants as cause
use Rattle.rh_world.specs.Roles as roles
use Rattle.law_world_order.proofs.Recorded.{new, ours}
use Rattle.law_world_order.proofs.FirstTexts.Taken.{recorded_port}
use Rattle.law_world_honest.proofs.Honesty.Recorded.{of_recording}
use Rattle.law_world_bodies.proofs.recordings.no_body_of_a_recording_is_too_long.Goals as goal

pub returns : goal.returns
returns c = λ before line node leg count told closed.
    let why = cause.BodyOver leg count told in
    of_recording node why ⊥ (λ config range v by change may closes.
    c.no_change_closes_a_node_for_a_long_body.ensures roles.makers (roles.begun config)
    (new config) (ours config) range (recorded_port config) v by change node leg count told may
    closes) before line (c.each_close_of_a_recording_shows.ensures before line node why closed)
