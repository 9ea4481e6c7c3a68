use Rattle.rh_record.specs.WordLaws.{behind}
use Rattle.rh_record.proofs.reading.read_leg_dir.Goals as goal

pub returns-in_err-leg-2 : goal.returns-in_err-leg-2
returns-in_err-leg-2 c =
    rw c.from_residual-in_err-leg-2.ensures (λ leg dir h.
    c.in_err-leg-2.ensures leg (behind c.args.text.now _ _ c.in_ok-leg.ensures h).0)

pub returns-in_err-dir : goal.returns-in_err-dir
returns-in_err-dir c =
    rw c.from_residual-in_err-dir.ensures (λ leg dir h.
    c.in_err-dir.ensures dir (behind c.args.text.now _ _ c.in_ok-leg.ensures h).1)
