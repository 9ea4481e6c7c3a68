use Rattle.rh_name.proofs.OneName.{no_name, one_name}
use Rattle.rh_name.proofs.laws.one_name.Goals as goal

pub returns-clause-one : goal.returns-clause-one
returns-clause-one c = one_name

pub returns-clause-none : goal.returns-clause-none
returns-clause-none c = no_name
