use Rattle.rh_script.proofs.StepLaws.{no_lose}
use Rattle.rh_script.proofs.reading.parse_lose.Goals as goal

pub returns-in_err-leg : goal.returns-in_err-leg
returns-in_err-leg c =
    rw c.from_residual.ensures (no_lose c.args.loss c.args.words.now c.in_err-leg.ensures)
