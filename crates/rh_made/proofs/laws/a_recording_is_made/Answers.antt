use Rattle.rh_made.proofs.Standing.{lines_stand}
use Rattle.rh_made.proofs.laws.a_recording_is_made.Goals as goal

pub returns : goal.returns
returns c = lines_stand
