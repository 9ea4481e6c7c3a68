use Rattle.rh_record.proofs.LineLaws.{no_close}
use Rattle.rh_record.proofs.reading.parse_close.Goals as goal

pub returns-in_err-side : goal.returns-in_err-side
returns-in_err-side c = rw c.from_residual.ensures (no_close c.args.words.now c.in_err-side.ensures)
