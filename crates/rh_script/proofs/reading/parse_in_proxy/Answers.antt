use Rattle.rh_script.proofs.StepLaws.{no_in_proxy}
use Rattle.rh_script.proofs.reading.parse_in_proxy.Goals as goal

pub returns-in_err-number : goal.returns-in_err-number
returns-in_err-number c =
    rw c.from_residual.ensures (no_in_proxy c.args.words.now c.in_err-number.ensures)
