use Rattle.rh_record.proofs.LineLaws.{no_send}
use Rattle.rh_record.proofs.reading.parse_send.Goals as goal

pub returns-in_err-leg : goal.returns-in_err-leg
returns-in_err-leg c = rw c.from_residual.ensures (no_send c.args.words.now c.in_err-leg.ensures)
