use Rattle.rh_runs.proofs.Standing.{calls-stand}
use Rattle.rh_runs.proofs.laws.calls_stand.Goals as goal

pub returns : goal.returns
returns g c = calls-stand
