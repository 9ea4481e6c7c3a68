use Rattle.rh_script.proofs.StepLaws.{no_names}
use Rattle.rh_script.proofs.reading.parse_names.Goals as goal

pub returns-in_err-naming : goal.returns-in_err-naming
returns-in_err-naming c =
    rw c.from_residual.ensures (no_names c.args.words.now c.in_err-naming.ensures)
