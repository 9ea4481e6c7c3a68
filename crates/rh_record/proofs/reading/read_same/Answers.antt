use Rattle.std.proofs.Common.{◌≡◌, ◌∙◌, sym, true, false}
use Rattle.rh_record.specs.WordLaws.{behind}
use Rattle.rh_record.proofs.reading.read_same.Goals as goal

pub returns-in_err-leg-2 : goal.returns-in_err-leg-2
returns-in_err-leg-2 c =
    rw c.from_residual-in_err-leg-2.ensures (λ leg h.
    c.in_err-leg-2.ensures leg (behind c.args.text.now _ _ c.in_ok-leg.ensures h).0)

pub returns-else-is_same : goal.returns-else-is_same
returns-else-is_same c = λ leg h.
    let same = (behind c.args.text.now _ _ c.in_ok-leg.ensures h).1 in
    let both : false ≡ true = sym c.if-is_same.false ∙ c.is_same.ensures.1 same in cc
