use Rattle.law_world_reports.proofs.Telling.Splits.{told_moment}
use Rattle.law_world_reports.proofs.told.a_report_tells_what_was_given_and_taken.Goals as goal

pub returns : goal.returns
returns g c = told_moment
