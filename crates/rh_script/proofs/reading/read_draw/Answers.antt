use Rattle.rh_record.specs.WordLaws.{behind}
use Rattle.rh_script.proofs.reading.read_draw.Goals as goal

pub returns-in_err-leg-2 : goal.returns-in_err-leg-2
returns-in_err-leg-2 c =
    rw c.from_residual-in_err-leg-2.ensures (λ leg count h.
    c.in_err-leg-2.ensures leg (behind c.args.text.now _ _ c.in_ok-leg.ensures h).0)

pub returns-in_err-count : goal.returns-in_err-count
returns-in_err-count c =
    rw c.from_residual-in_err-count.ensures (λ leg count h.
    c.in_err-count.ensures count (behind c.args.text.now _ _ c.in_ok-leg.ensures h).1)
