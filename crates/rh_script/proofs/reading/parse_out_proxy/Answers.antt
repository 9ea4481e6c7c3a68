use Rattle.rh_script.proofs.StepLaws.{no_out_proxy}
use Rattle.rh_script.proofs.reading.parse_out_proxy.Goals as goal

pub returns-in_err-number : goal.returns-in_err-number
returns-in_err-number c =
    rw c.from_residual.ensures (no_out_proxy c.args.words.now c.in_err-number.ensures)
