-- the line that is read is the one that stands there, and what is told of it is told
use Rattle.std.proofs.Common.{List, ℕ, ◌++◌, Err, refl, sym, ap, subst, string_bytes}
use Rattle.rh_record.specs.declared.line.Line.{Line}
use Rattle.rh_record.specs.declared.place.Place.{Place}
use Rattle.rh_record.specs.Places.{Stands, kind_of}
use Rattle.rh_record.specs.Recording.{IsLine}
use Rattle.rh_record.specs.Readings.{one_line}
use Rattle.rh_word.specs.Outputs.{out}
use Rattle.rh_word.proofs.Results.{at_error, of_err}
use Rattle.rh_word.proofs.Gathering.{stops_now}
use Rattle.rh_words.specs.Retelling.{line_told, line_behind}
use Rattle.rh_words.proofs.retelling.Retelling.do_line.Goals as goal

-- a text that spells a line at a place spells no other one
stands : (place : Place) (text : List ℕ) (line other : Line) → IsLine (kind_of place) text line
    → Stands place text other → Stands place text line
stands place text line other h k =
    subst (λ l. Stands place text l)
    (one_line text other line k.line_of.spelled h.spelled) k

pub returns-in-Err-NoMemory-clause-err : goal.returns-in-Err-NoMemory-clause-err
returns-in-Err-NoMemory-clause-err g c =
    let (line, spelled) = c.requires.line in
    let tale = g.T.Teller.tale in
    let said = line_told tale c.args.self.now line in (
      line,
      said,
      line_behind tale c.args.self.now line,
      spelled,
      (refl, refl),
      stops_now (string_bytes c.args.gathered.now ++ said)
          (out g.W.Sink.written g.W.Sink.takes c.args.output.now),
    )

pub returns-in_err-step-clause-err : goal.returns-in_err-step-clause-err
returns-in_err-step-clause-err g c =
    let line = c.in-Ok.line in
    let read = subst (λ k. IsLine k c.args.line.now line) c.kind.ensures c.in-Ok.ensures.line in
    let there = stands c.args.place c.args.line.now line c.requires.line.0 read c.requires.line.1 in
    let tale = g.T.Teller.tale in
    at_error c.from_residual.result _ (
      line,
      line_told tale c.args.self.now line,
      line_behind tale c.args.self.now line,
      there,
      (refl, refl),
      c.in_err-step.ensures.err,
    )

pub returns-in_err-step-clause-takes : goal.returns-in_err-step-clause-takes
returns-in_err-step-clause-takes g c = λ all said.
    let line = c.in-Ok.line in
    let read = subst (λ k. IsLine k c.args.line.now line) c.kind.ensures c.in-Ok.ensures.line in
    let there = stands c.args.place c.args.line.now line c.requires.line.0 read c.requires.line.1 in
    let tale = g.T.Teller.tale in
    c.in_err-step.ensures.takes
    (all line (line_told tale c.args.self.now line) (line_behind tale c.args.self.now line) there
    (refl, refl))
    (ap Err (sym (of_err _ c.from_residual.result said c.from_residual.ensures.1)))

pub returns-clause-ok : goal.returns-clause-ok
returns-clause-ok g c =
    let line = c.in-Ok.line in
    let read = subst (λ k. IsLine k c.args.line.now line) c.kind.ensures c.in-Ok.ensures.line in
    let there = stands c.args.place c.args.line.now line c.requires.line.0 read c.requires.line.1 in
    let done = c.in_ok-step.ensures in (
      line,
      line_told g.T.Teller.tale c.args.self.now line,
      there,
      c.next.ensures,
      (refl, done.next),
      done.ok,
    )
