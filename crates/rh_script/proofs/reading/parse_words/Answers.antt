use Rattle.rh_script.proofs.StepLaws.{no_line}
use Rattle.rh_script.proofs.reading.parse_words.Goals as goal

pub returns-in_err-lone : goal.returns-in_err-lone
returns-in_err-lone c =
    rw c.from_residual.ensures
    (no_line c.args.text.now c.requires c.in_default.ensures c.in_err-lone.ensures)
