-- the lines that were read are those of a capture, or the next one is none
use Rattle.std.proofs.Common.{◌≡◌, ◌≢◌, ◌+◌, List, [], Ok, Err, IfErr, true, false, length, sym, ◌∙◌, ap, subst, arith}
use Rattle.std.proofs.lemmas.Bool.Decides.{nat_tests}
use Rattle.std.specs.Result.{IsErrAnd}
use Rattle.std.specs.declared.result.Result.{Result}
use Rattle.rh_audit.specs.declared.seen.Seen.{Seen}
use Rattle.rh_capture.specs.Reading.{Refuses}
use Rattle.rh_capture.proofs.ReadLaws.{Reading, line_refused, reading_capture, reading_more, reading_no_first}
use Rattle.rh_capture.proofs.reading.read_capture.Goals as goal

pub returns-then-not-is_first-clause-refused : goal.returns-then-not-is_first-clause-refused
returns-then-not-is_first-clause-refused c =
    reading_no_first c.args.text.now c.split_line.result.0.now c.split_line.result.1.now
    c.split_line.ensures.begins
    (λ is. let both : false ≡ true = sym c.if-not-is_first.true ∙ c.is_first.ensures.1 is in cc)

-- what holds of the error that a result is
if_err : {T E : Type 0} (r : Result T E) (e : E) (P : E → Type 0) → IsErrAnd r (λ x. x ≡ e) → P e
    → IfErr r P
if_err (Ok x) e P h p = tt
if_err {T} {E} (Err x) e P h p = subst (λ (y : E). P y) (sym h) p

pub returns-in_err-line-clause-refused : goal.returns-in_err-line-clause-refused
returns-in_err-line-clause-refused c =
    let l = c.lines in
    let some : l.rest.now ≢ [] = λ none. let size = ap length none in grind (arith, nat_tests) in
    if_err c.from_residual.result _ (Refuses c.args.text.now) c.from_residual.ensures.1
    (line_refused c.args.text.now l.rest.now c.split_line-in-lines.result.0.now
    c.split_line-in-lines.result.1.now l.number l.seen.items l.kinds _
    c.split_line-in-lines.ensures.begins some l.invariant c.in_err-line.ensures.refused)

pub lines-preserved : goal.lines-preserved
lines-preserved c =
    let l = c.lines in
    let (follows, known) = c.in_ok-line.ensures.line l.seen.items l.invariant.known in
    subst
    (λ (s : List Seen). Reading c.args.text.now c.split_line-in-lines.result.1.now (l.number + 1) s
    c.read_line.new.kinds)
    (sym c.in-Ok.ensures.items)
    (reading_more c.args.text.now l.rest.now c.split_line-in-lines.result.0.now
    c.split_line-in-lines.result.1.now l.number l.seen.items l.kinds c.read_line.new.kinds
    c.in_ok-line.line c.split_line-in-lines.ensures.begins follows known l.invariant)

pub returns-clause-capture : goal.returns-clause-capture
returns-clause-capture c =
    reading_capture c.args.text.now c.lines.rest.now c.lines.number c.lines.seen.items
    c.lines.kinds c.requires c.lines.invariant
