use Rattle.std.proofs.Common.{◌≡◌, sym, ap, ◌∙◌, None, Some}
use Rattle.rh_pdu.specs.Header.{head_fault, header_of}
use Rattle.rh_show.proofs.FirstBytes.{front_fault, front_header}
use Rattle.rh_show.proofs.showing.read_header.Goals as goal

pub unreachable-requires-in_default-read : goal.unreachable-requires-in_default-read
unreachable-requires-in_default-read c =
    let fault = c.in_default-read.field-0 in
    let both : None ≡ Some fault =
    sym c.requires.frame.head ∙ sym (front_fault c.args.bytes.now)
    ∙ sym (ap head_fault c.in-Some.ensures.cases.same) ∙ c.in_default-read.ensures in
    cc

pub returns : goal.returns
returns c =
    c.in-Ok.ensures.1 ∙ ap header_of c.in-Some.ensures.cases.same ∙ front_header c.args.bytes.now
