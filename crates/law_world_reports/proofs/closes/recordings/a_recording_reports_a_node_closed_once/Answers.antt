use Rattle.law_world_reports.proofs.Closed.Once.{run_once}
use Rattle.law_world_reports.proofs.closes.recordings.a_recording_reports_a_node_closed_once.Goals as goal

pub returns : goal.returns
returns c = λ lines node. run_once node lines
