use Rattle.rh_record.proofs.LineLaws.{no_move}
use Rattle.rh_record.proofs.reading.parse_move.Goals as goal

pub returns-in_err-leg : goal.returns-in_err-leg
returns-in_err-leg c = rw c.from_residual.ensures (no_move c.args.words.now c.in_err-leg.ensures)
