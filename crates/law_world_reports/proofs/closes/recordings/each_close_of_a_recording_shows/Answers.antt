use Rattle.rh_world.specs.Roles as roles
use Rattle.law_world_reports.proofs.Closed.Recorded.{recording_licenses}
use Rattle.law_world_reports.proofs.closes.recordings.each_close_of_a_recording_shows.Goals as goal

pub returns : goal.returns
returns c = λ before line node why.
    recording_licenses node why
    (λ one w none h. c.each_close_shows.ensures roles.makers roles.deeds one w node why none h)
    before line
