use Rattle.rh_script.proofs.StepLaws.{no_set}
use Rattle.rh_script.proofs.reading.parse_set.Goals as goal

pub returns-in_err-key : goal.returns-in_err-key
returns-in_err-key c =
    rw c.from_residual.ensures (no_set c.args.words.now c.in_err-key.ensures)
