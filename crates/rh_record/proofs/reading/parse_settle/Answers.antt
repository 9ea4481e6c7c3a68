use Rattle.rh_record.proofs.LineLaws.{no_settle}
use Rattle.rh_record.proofs.reading.parse_settle.Goals as goal

pub returns-in_err-rounds : goal.returns-in_err-rounds
returns-in_err-rounds c = rw c.from_residual.ensures
    (no_settle c.args.words.now c.in_err-rounds.ensures)
