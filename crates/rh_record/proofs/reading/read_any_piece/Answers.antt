use Rattle.rh_record.specs.WordLaws.{behind}
use Rattle.rh_record.proofs.reading.read_any_piece.Goals as goal

pub returns-in_err-leg-2 : goal.returns-in_err-leg-2
returns-in_err-leg-2 c =
    rw c.from_residual-in_err-leg-2.ensures (λ leg dir count h.
    c.in_err-leg-2.ensures leg (behind c.args.text.now _ _ c.in_ok-leg.ensures h).0)

pub returns-in_err-dir : goal.returns-in_err-dir
returns-in_err-dir c =
    rw c.from_residual-in_err-dir.ensures (λ leg dir count h.
    let later = (behind c.args.text.now _ _ c.in_ok-leg.ensures h).1 in
    c.in_err-dir.ensures later.0 later.1 later.2)

pub returns-in_err-dir-2 : goal.returns-in_err-dir-2
returns-in_err-dir-2 c =
    rw c.from_residual-in_err-dir-2.ensures (λ leg dir count h.
    let later = (behind c.args.text.now _ _ c.in_ok-leg.ensures h).1 in
    c.in_err-dir-2.ensures dir (behind c.in_ok-leg.rest.now _ _ c.in_ok-dir.ensures later).0)

pub returns-in_err-count : goal.returns-in_err-count
returns-in_err-count c =
    rw c.from_residual-in_err-count.ensures (λ leg dir count h.
    let later = (behind c.args.text.now _ _ c.in_ok-leg.ensures h).1 in
    c.in_err-count.ensures count (behind c.in_ok-leg.rest.now _ _ c.in_ok-dir.ensures later).1)
