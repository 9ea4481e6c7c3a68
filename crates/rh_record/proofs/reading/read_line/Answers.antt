-- a text is one line, so where that line doesn't fit no other does
use Rattle.std.proofs.Common.{◌≡◌, ◌∙◌, sym, subst, true, false, IsTrue}
use Rattle.rh_record.specs.Recording.{fits}
use Rattle.rh_record.specs.Readings.{one_line}
use Rattle.rh_record.proofs.reading.read_line.Goals as goal

pub returns-else-fits-clause-grammar : goal.returns-else-fits-clause-grammar
returns-else-fits-clause-grammar c = λ _ line h.
    let parts = c.in-Some-Plain in
    let same = one_line c.args.text.now line parts.line h.spelled
    (rw parts.field-0-is at parts.ensures) in
    let fitting = subst (λ l. IsTrue (fits c.args.kind l)) same h.fitting in
    let both : false ≡ true = sym c.if-fits.false ∙ c.fits.ensures ∙ fitting in cc
