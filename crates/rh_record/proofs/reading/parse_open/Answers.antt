use Rattle.rh_record.proofs.LineLaws.{no_open}
use Rattle.rh_record.proofs.reading.parse_open.Goals as goal

pub returns-in_err-leg-in-Some : goal.returns-in_err-leg-in-Some
returns-in_err-leg-in-Some c =
    rw c.from_residual.ensures (no_open c.args.words.now
    (λ leg h. h.1 _ _ c.in-Some.ensures) c.in_err-leg-in-Some.ensures)
