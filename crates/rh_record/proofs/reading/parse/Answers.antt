use Rattle.rh_record.proofs.LineLaws.{no_verb}
use Rattle.rh_record.proofs.reading.parse.Goals as goal

pub returns-in_err-verb : goal.returns-in_err-verb
returns-in_err-verb c =
    rw c.from_residual.ensures (no_verb c.args.text.now c.in_err-verb.ensures)
