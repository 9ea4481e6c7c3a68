use Rattle.rh_script.proofs.StepLaws.{no_draw}
use Rattle.rh_script.proofs.reading.parse_draw.Goals as goal

pub returns-in_err-leg : goal.returns-in_err-leg
returns-in_err-leg c =
    rw c.from_residual.ensures (no_draw c.args.words.now c.in_err-leg.ensures)
