use Rattle.law_world_reports.proofs.Telling.Shut.{stands_still}
use Rattle.law_world_reports.proofs.told.what_a_closed_end_takes_and_gives.Goals as goal

pub returns : goal.returns
returns g c = stands_still
