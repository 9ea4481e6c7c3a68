use Rattle.rh_record.specs.Readings.{one_line}
use Rattle.rh_record.proofs.recording.one_reading.Goals as goal

pub returns : goal.returns
returns c = one_line
