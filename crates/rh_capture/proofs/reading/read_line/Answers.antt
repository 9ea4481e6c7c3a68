-- the line that is read follows, or none does
use Rattle.std.proofs.Common.{◌≡◌, Err, true, false, ap, sym, ◌∙◌, arith}
use Rattle.std.proofs.lemmas.Bool.Decides.{nat_tests}
use Rattle.rh_audit.specs.Pipes.{kind_of}
use Rattle.rh_capture.specs.Kinds.{fits_with, kind_at}
use Rattle.rh_capture.proofs.ReadLaws.{line_follows, none_follows}
use Rattle.rh_capture.proofs.reading.read_line.Goals as goal

pub returns-in-Err-Grammar-clause-refused : goal.returns-in-Err-Grammar-clause-refused
returns-in-Err-Grammar-clause-refused c = λ n is. (
  (let e = is in cc),
  λ seen known line follows. c.in-Err-Grammar.ensures.grammar (ap Err c.in-Err-Grammar.field-0-is)
      line follows.spelled,
)

pub returns-then-branch-clause-line : goal.returns-then-branch-clause-line
returns-then-branch-clause-line c = λ seen known.
    let line = c.in-Ok.line in
    let fits : fits_with (kind_at c.args.kinds.now line.tag) (kind_of line.pipe) ≡ true =
    grind (arith, nat_tests) in
    line_follows seen c.args.text.now line c.args.kinds.now c.note.new.self c.in-Ok.ensures.line
    fits c.in_ok-note.ensures.noted known

pub returns-else-branch-clause-refused : goal.returns-else-branch-clause-refused
returns-else-branch-clause-refused c = λ n is.
    let line = c.in-Ok.line in
    let fits : fits_with (kind_at c.args.kinds.now line.tag) (kind_of line.pipe) ≡ false =
    grind (arith, nat_tests) in (
      (let e = is in cc),
      λ seen known other follows. none_follows seen c.args.text.now line c.args.kinds.now
          c.in-Ok.ensures.line fits known other follows,
    )
