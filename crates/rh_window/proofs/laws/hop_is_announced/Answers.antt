-- by the law of each event
use Rattle.rh_window.proofs.HopLaws.{announced_kept}
use Rattle.rh_window.proofs.laws.hop_is_announced.Goals as goal

pub returns-clause-step : goal.returns-clause-step
returns-clause-step c = announced_kept
