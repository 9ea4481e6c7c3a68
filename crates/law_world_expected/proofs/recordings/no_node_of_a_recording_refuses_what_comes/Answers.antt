use Rattle.rh_line.specs.declared.cause.Cause.TheVariants as cause
use Rattle.rh_world.specs.Roles as roles
use Rattle.law_world_order.proofs.Recorded.{new, ours}
use Rattle.law_world_order.proofs.FirstTexts.Taken.{recorded_port}
use Rattle.law_world_expected.proofs.Recorded.{of_recording}
use Rattle.law_world_expected.proofs.recordings.no_node_of_a_recording_refuses_what_comes.Goals as goal

pub returns : goal.returns
returns c = record {
  unexpected = λ before line node leg place told.
      let why = cause.Unexpected leg place in
      of_recording node why ⊥ (λ config range v by lines have change may closes.
      c.no_node_refuses_what_comes.ensures.unexpected roles.makers (roles.begun config)
      (new config) (ours config) range (recorded_port config) v by lines have change may node leg
      place closes) before line (c.cookies_of_a_recording_are_left.ensures before line)
      (c.each_close_of_a_recording_shows.ensures before line node why told);
  cookie = λ before line node leg expected got told.
      let why = cause.CookieMismatch leg expected got in
      of_recording node why ⊥ (λ config range v by lines have change may closes.
      c.no_node_refuses_what_comes.ensures.cookie roles.makers (roles.begun config)
      (new config) (ours config) range (recorded_port config) v by lines have change may node leg
      expected got closes) before line (c.cookies_of_a_recording_are_left.ensures before line)
      (c.each_close_of_a_recording_shows.ensures before line node why told);
}
