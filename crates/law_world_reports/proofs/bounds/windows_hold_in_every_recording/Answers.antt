use Rattle.law_world_reports.proofs.Bounded.Windows.{windows_hold, windows_hold_from}
use Rattle.law_world_reports.proofs.bounds.windows_hold_in_every_recording.Goals as goal

pub returns : goal.returns
returns c =
    let law = c.windows_hold_in_a_world_of_roles.ensures.windows in
    record { recording = windows_hold law; settings = windows_hold_from law }
