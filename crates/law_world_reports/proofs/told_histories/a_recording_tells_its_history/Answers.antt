use Rattle.law_world_reports.proofs.Telling.Recorded.{recording_tells}
use Rattle.law_world_reports.proofs.told_histories.a_recording_tells_its_history.Goals as goal

pub returns : goal.returns
returns c = recording_tells
