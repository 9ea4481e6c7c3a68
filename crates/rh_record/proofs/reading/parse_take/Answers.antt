use Rattle.rh_record.proofs.LineLaws.{no_take}
use Rattle.rh_record.proofs.reading.parse_take.Goals as goal

pub returns-in_err-side : goal.returns-in_err-side
returns-in_err-side c = rw c.from_residual.ensures (no_take c.args.words.now c.in_err-side.ensures)
