use Rattle.law_world_reports.proofs.Ordering.Capping.{report_counts}
use Rattle.law_world_reports.proofs.ordered.counts.a_report_counts.Goals as goal

pub returns : goal.returns
returns g c = report_counts
