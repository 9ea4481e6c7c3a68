-- the frame at the front is whole, or it isn't
use Rattle.std.proofs.Common.{arith, ◌∙◌, ap, subst, min, ◌+◌, length, sym, ◌++◌, take}
use Rattle.rh_pdu.specs.declared.feed.Put.TheVariants.{Whole}
use Rattle.rh_pdu.specs.Filling.{Holds}
use Rattle.rh_pdu.proofs.Headers.{frag_bounds}
use Rattle.rh_pdu.proofs.Puts.{part_behind, whole_behind}
use Rattle.rh_pdu.proofs.filling.put_behind.Goals as goal

pub put-now-requires-clause-room : goal.put-now-requires-clause-room
put-now-requires-clause-room c =
    let bounds = frag_bounds c.args.buf.now c.requires.sound in omega arith

pub returns-then-now-frag : goal.returns-then-now-frag
returns-then-now-frag c =
    let a = c.args in
    let frag = c.from-frag.ensures ∙ c.frag_of.ensures in
    part_behind a.held c.put-now.result a.buf.now a.piece.now c.put-now.new.buf c.requires.room
    c.requires.header
    c.requires.sound c.requires.below
    (c.put-now.ensures.count ∙ ap (λ n. min n (a.held + length a.piece.now)) frag)
    c.put-now.ensures.bytes (omega arith)

pub returns-else-now-frag : goal.returns-else-now-frag
returns-else-now-frag c =
    let a = c.args in
    let frag = c.from-frag.ensures ∙ c.frag_of.ensures in
    subst (λ n. Holds (Whole n) (take a.held a.buf.now ++ a.piece.now) c.put-now.new.buf) (sym frag)
    (whole_behind a.held c.put-now.result a.buf.now a.piece.now c.put-now.new.buf c.requires.room
    c.requires.header
    c.requires.sound c.requires.below
    (c.put-now.ensures.count ∙ ap (λ n. min n (a.held + length a.piece.now)) frag)
    c.put-now.ensures.bytes (omega arith))
