use Rattle.law_world_reports.proofs.Telling.Behind.{closed_takes, closed_gives}
use Rattle.law_world_reports.proofs.told.nothing_is_told_of_a_closed_end.Goals as goal

pub returns : goal.returns
returns g c = record { taken = closed_takes; given = closed_gives }
