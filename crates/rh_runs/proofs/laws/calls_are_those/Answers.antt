use Rattle.rh_runs.proofs.Standing.{calls-are-those}
use Rattle.rh_runs.proofs.laws.calls_are_those.Goals as goal

pub returns : goal.returns
returns g c = calls-are-those
