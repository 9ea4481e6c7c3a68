use Rattle.law_world_reports.proofs.Telling.Behind.{none_taken, none_given}
use Rattle.law_world_reports.proofs.told.what_passes_no_more_is_not_told.Goals as goal

pub returns : goal.returns
returns g c = record { taken = none_taken; given = none_given }
