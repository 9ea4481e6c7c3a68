use Rattle.rh_record.specs.WordLaws.{behind}
use Rattle.rh_audit.proofs.reading.split_leg.Goals as goal

pub returns-in_err-tag-2 : goal.returns-in_err-tag-2
returns-in_err-tag-2 c =
    rw c.from_residual-in_err-tag-2.ensures (λ tag pipe last h.
    c.in_err-tag-2.ensures tag (behind c.args.text.now _ _ c.in_ok-tag.ensures h).0)

pub returns-in_err-pipe : goal.returns-in_err-pipe
returns-in_err-pipe c =
    rw c.from_residual-in_err-pipe.ensures (λ tag pipe last h.
    let words = (behind c.args.text.now _ _ c.in_ok-tag.ensures h).1 in
    c.in_err-pipe.ensures words.0 words.1 words.2)

pub returns-in_err-pipe-2 : goal.returns-in_err-pipe-2
returns-in_err-pipe-2 c =
    rw c.from_residual-in_err-pipe-2.ensures (λ tag pipe last h.
    let words = (behind c.args.text.now _ _ c.in_ok-tag.ensures h).1 in
    c.in_err-pipe-2.ensures pipe
    (behind c.in_ok-tag.rest.now _ _ c.in_ok-pipe.ensures words).0)
