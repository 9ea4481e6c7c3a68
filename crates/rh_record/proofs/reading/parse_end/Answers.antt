use Rattle.rh_record.proofs.LineLaws.{no_end}
use Rattle.rh_record.proofs.reading.parse_end.Goals as goal

pub returns-in_err-leg : goal.returns-in_err-leg
returns-in_err-leg c = rw c.from_residual.ensures (no_end c.args.words.now c.in_err-leg.ensures)
