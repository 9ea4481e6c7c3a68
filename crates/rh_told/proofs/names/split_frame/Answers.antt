-- a frame stands at the front exactly where its header breaks no rule and all of it is there
use Rattle.std.proofs.Common.{◌∙◌, ap, arith}
use Rattle.rh_pdu.specs.declared.header.Header.{Header}
use Rattle.rh_told.proofs.Frames.{none_short, none_faulty, none_cut_short, one_first, some_bytes}
use Rattle.rh_told.proofs.names.split_frame.Goals as goal

pub returns-in_err-header-clause-frame : goal.returns-in_err-header-clause-frame
returns-in_err-header-clause-frame c =
    rw c.from_residual.ensures (none_short c.args.bytes.now c.in_err-header.ensures.cases)

pub returns-in_default-clause-frame : goal.returns-in_default-clause-frame
returns-in_default-clause-frame c =
    none_faulty c.args.bytes.now c.in_ok-header.header.now c.in_default.field-0
    c.in_ok-header.ensures.cases.same c.in_default.ensures

pub returns-then-len-bytes-clause-frame : goal.returns-then-len-bytes-clause-frame
returns-then-len-bytes-clause-frame c =
    none_cut_short c.args.bytes.now c.in_ok-header.header.now c.from-len.result
    c.in_ok-header.ensures.cases.same
    (c.from-len.ensures ∙ ap (λ (h : Header). h.frag) c.in-Ok.ensures.1) c.if-len-bytes.true

pub returns-clause-frame : goal.returns-clause-frame
returns-clause-frame c =
    rw (c.split_at.ensures.front, c.split_at.ensures.back)
    (one_first c.args.bytes.now c.in_ok-header.header.now c.from-len.result
    c.in_ok-header.ensures.cases.same c.in_ok-header.ensures.cases.enough c.in-Ok.ensures.0
    (c.from-len.ensures ∙ ap (λ (h : Header). h.frag) c.in-Ok.ensures.1) c.if-len-bytes.false)

pub returns-clause-shorter : goal.returns-clause-shorter
returns-clause-shorter c =
    let some = some_bytes c.in_ok-header.header.now c.from-len.result c.in-Ok.ensures.0
    (c.from-len.ensures ∙ ap (λ (h : Header). h.frag) c.in-Ok.ensures.1) in
    omega (arith, some, c.split_at.ensures.back_len)
