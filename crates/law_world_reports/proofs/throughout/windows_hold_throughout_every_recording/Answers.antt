use Rattle.law_world_reports.proofs.Bounded.Onwards.{windows_hold_onwards}
use Rattle.law_world_reports.proofs.throughout.windows_hold_throughout_every_recording.Goals as goal

pub returns : goal.returns
returns c = windows_hold_onwards c.windows_hold_in_a_world_of_roles.ensures.windows
