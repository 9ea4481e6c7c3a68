use Rattle.law_world_reports.proofs.Vocabulary.{Before}
use Rattle.law_world_ways.proofs.EndsInTime.Recorded.{none_lose, recording_in_time}
use Rattle.law_world_ways.proofs.ends_in_time.recordings.recordings_end_legs_in_time.Goals as goal

pub returns : goal.returns
returns c = record {
  losses = recording_in_time;
  none = λ before is. recording_in_time before (none_lose Before before is);
}
