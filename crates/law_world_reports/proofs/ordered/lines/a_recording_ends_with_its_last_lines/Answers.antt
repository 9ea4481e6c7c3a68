use Rattle.law_world_reports.proofs.Ordering.LastLines.{recording_ends}
use Rattle.law_world_reports.proofs.ordered.lines.a_recording_ends_with_its_last_lines.Goals as goal

pub returns : goal.returns
returns c = recording_ends
