-- by the laws of each event
use Rattle.rh_window.proofs.HopLaws.{step_kept, run_kept, run_rises}
use Rattle.rh_window.proofs.laws.hop_is_kept.Goals as goal

pub returns-clause-step : goal.returns-clause-step
returns-clause-step c = step_kept

pub returns-clause-run : goal.returns-clause-run
returns-clause-run c = λ events h hop can. (run_kept events h hop can, run_rises events h hop can)
