use Rattle.rh_script.proofs.StepLaws.{no_tick}
use Rattle.rh_script.proofs.reading.parse_tick.Goals as goal

pub returns-in_err-now : goal.returns-in_err-now
returns-in_err-now c =
    rw c.from_residual.ensures (no_tick c.args.words.now c.in_err-now.ensures)
