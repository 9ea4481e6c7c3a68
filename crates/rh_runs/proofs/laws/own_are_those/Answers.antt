use Rattle.rh_runs.proofs.Own.{those-own}
use Rattle.rh_runs.proofs.laws.own_are_those.Goals as goal

pub returns : goal.returns
returns g c = λ test places entries rise has. those-own test 0 places entries rise has
