use Rattle.std.proofs.Common.{ap, ◌∙◌}
use Rattle.rh_pdu.specs.declared.header.Header.{Header}
use Rattle.rh_shell.proofs.Framed.{front_is}
use Rattle.rh_shell.proofs.hearing.front_frame.Goals as goal

pub returns-clause-frame : goal.returns-clause-frame
returns-clause-frame c =
    front_is c.args.bytes.now c.in_ok-header.header.now c.from-len.result
    c.in_ok-header.ensures.cases.same
    c.in-Ok.ensures.0 (c.from-len.ensures ∙ ap (λ (h : Header). h.frag) c.in-Ok.ensures.1)
    c.in_ok-header.ensures.cases.enough c.if-len-bytes.false
