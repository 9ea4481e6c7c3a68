use Rattle.rh_record.specs.WordLaws.{behind}
use Rattle.rh_script.proofs.reading.split_leg.Goals as goal

pub returns-in_err-leg-2 : goal.returns-in_err-leg-2
returns-in_err-leg-2 c =
    rw c.from_residual-in_err-leg-2.ensures (λ leg last h.
    c.in_err-leg-2.ensures leg (behind c.args.text.now _ _ c.in_ok-leg.ensures h).0)
