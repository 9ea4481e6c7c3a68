-- the header was whole before, or is so now
use Rattle.std.proofs.Common.{arith, sym, ◌∙◌, subst, take, ◌++◌}
use Rattle.std.proofs.lemmas.List.{length-append, length-take}
use Rattle.rh_pdu.specs.Filling.{Holds}
use Rattle.rh_pdu.proofs.Headers.{frag_bounds, head_same}
use Rattle.rh_pdu.proofs.Puts.{header_held, header_filled, all_behind}
use Rattle.rh_pdu.proofs.filling.put_frame.Goals as goal

pub put_behind-requires-clause-sound : goal.put_behind-requires-clause-sound
put_behind-requires-clause-sound c =
    (header_held c.args.held c.args.buf.now c.requires.room c.requires.below (omega arith)
    c.requires.unfinished).0

pub put_behind-requires-clause-below : goal.put_behind-requires-clause-below
put_behind-requires-clause-below c =
    let is =
    header_held c.args.held c.args.buf.now c.requires.room c.requires.below (omega arith)
    c.requires.unfinished in
    omega (arith, is.1)

pub put_behind-requires-in-None-clause-below : goal.put_behind-requires-in-None-clause-below
put_behind-requires-in-None-clause-below c =
    (frag_bounds c.put-now.new.buf (sym c.head_fault.ensures ∙ c.in-None.is)).0

pub returns-in-Some : goal.returns-in-Some
returns-in-Some c =
    let front =
    header_filled c.args.held c.put-now.result c.args.buf.now c.args.piece.now c.put-now.new.buf
    c.put-now.ensures.count (omega arith) c.put-now.ensures.bytes in (
      omega (
        arith,
        length-append (take c.args.held c.args.buf.now) c.args.piece.now,
        length-take c.args.held c.args.buf.now,
      ),
      front,
      sym (head_same c.put-now.new.buf (take c.args.held c.args.buf.now ++ c.args.piece.now) front)
          ∙ sym c.head_fault.ensures ∙ c.in-Some.is,
    )

pub returns-in-None : goal.returns-in-None
returns-in-None c =
    let front =
    header_filled c.args.held c.put-now.result c.args.buf.now c.args.piece.now c.put-now.new.buf
    c.put-now.ensures.count (omega arith) c.put-now.ensures.bytes in
    let all =
    all_behind c.args.held c.args.buf.now c.args.piece.now c.put-now.new.buf c.split_at.result.1.now
    c.requires.room (omega arith) front c.split_at.ensures.back in
    subst (λ x. Holds c.put_behind-in-None.result x c.put_behind-in-None.new.buf) all
    c.put_behind-in-None.ensures
