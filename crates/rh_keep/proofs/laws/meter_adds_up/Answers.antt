-- by induction over what was put
use Rattle.rh_keep.proofs.Sums.{count_after_puts, within_lifetime}
use Rattle.rh_keep.proofs.laws.meter_adds_up.Goals as goal

pub returns-clause-sum : goal.returns-clause-sum
returns-clause-sum c = count_after_puts

pub returns-clause-within : goal.returns-clause-within
returns-clause-within c = within_lifetime
