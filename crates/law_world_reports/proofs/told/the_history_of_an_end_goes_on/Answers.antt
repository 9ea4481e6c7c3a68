use Rattle.law_world_reports.proofs.Telling.GoingOn.{goes_on, goes_on_closed}
use Rattle.law_world_reports.proofs.told.the_history_of_an_end_goes_on.Goals as goal

pub returns : goal.returns
returns g c = record { ever = goes_on; closes = goes_on_closed }
