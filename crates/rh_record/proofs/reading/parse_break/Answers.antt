use Rattle.rh_record.proofs.LineLaws.{no_break}
use Rattle.rh_record.proofs.reading.parse_break.Goals as goal

pub returns-in_err-leg : goal.returns-in_err-leg
returns-in_err-leg c = rw c.from_residual.ensures (no_break c.args.words.now c.in_err-leg.ensures)
