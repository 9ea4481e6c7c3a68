use Rattle.law_world_reports.proofs.Ordering.Sides.{run_sides}
use Rattle.law_world_reports.proofs.ordered.lines.a_recording_names_the_sides_of_its_gives.Goals as goal

pub returns : goal.returns
returns c = run_sides
