use Rattle.rh_record.proofs.LineLaws.{no_first}
use Rattle.rh_record.proofs.reading.parse_first.Goals as goal

pub returns-in_err-roles : goal.returns-in_err-roles
returns-in_err-roles c = rw c.from_residual.ensures
    (no_first c.args.words.now c.in_err-roles.ensures)
