use Rattle.rh_record.specs.WordLaws.{behind}
use Rattle.rh_record.proofs.reading.split_side.Goals as goal

pub returns-in_err-side-2 : goal.returns-in_err-side-2
returns-in_err-side-2 c =
    rw c.from_residual-in_err-side-2.ensures (λ side last h.
    c.in_err-side-2.ensures side (behind c.args.text.now _ _ c.in_ok-side.ensures h).0)
