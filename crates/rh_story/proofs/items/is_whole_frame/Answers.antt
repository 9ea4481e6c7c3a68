-- the header tells how long the frame is, or breaks a rule
use Rattle.std.proofs.Common.{refl, ap, ◌∙◌}
use Rattle.rh_pdu.specs.declared.header.Header.{Header}
use Rattle.rh_story.proofs.WholeFrames.{whole_bad, whole_ok}
use Rattle.rh_story.proofs.items.is_whole_frame.Goals as goal

pub returns-in-Ok : goal.returns-in-Ok
returns-in-Ok c =
    whole_ok c.args.held.now c.in-Some.head.now c.from.result (c.in-Some.ensures.variant.0 refl)
    c.in-Some.ensures.cases.same c.in-Ok.ensures.0
    (c.from.ensures ∙ ap (λ (header : Header). header.frag) c.in-Ok.ensures.1)

pub returns-in-Err : goal.returns-in-Err
returns-in-Err c =
    whole_bad c.args.held.now c.in-Some.head.now c.in-Err.field-0
    (c.in-Some.ensures.variant.0 refl) c.in-Some.ensures.cases.same c.in-Err.ensures
