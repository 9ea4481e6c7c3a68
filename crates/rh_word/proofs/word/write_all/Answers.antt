-- what was written and gathered is what the lines done say
use Rattle.std.proofs.Common.{◌≢◌, [], length, string_bytes, Err, ap, subst, sym, ◌∙◌, refl, arith}
use Rattle.std.proofs.lemmas.Bool.Decides.{nat_tests}
use Rattle.rh_word.specs.Outputs.{out}
use Rattle.rh_word.proofs.Results.{at_error, ok_not_err, of_err}
use Rattle.rh_word.proofs.Writing.{Writing, writing_first, line_ahead, writing_line, writing_on, writing_so_far}
use Rattle.rh_word.proofs.Writing.{writing_stops, writing_sure, writing_whole, whole_all, whole_stops, whole_sure}
use Rattle.rh_word.proofs.word.write_all.Goals as goal

pub lines-init : goal.lines-init
lines-init g c =
    let first = writing_first g.G.Grammar.rules g.X.Word.deeds c.args.text.now c.args.word
    (out g.W.Sink.written g.W.Sink.takes c.args.output.now)
    c.requires.text c.requires.word.0 in
    record {
      writing = rw (c.first_place-place.ensures, c.new-gathered.ensures.bytes) first;
      counted = omega (arith, c.requires.word.1);
      faults = refl;
    }

pub write_line-requires-clause-line : goal.write_line-requires-clause-line
write_line-requires-clause-line g c =
    let l = c.lines in
    let some : l.rest.now ≢ [] = λ none. let size = ap length none in grind (arith, nat_tests) in
    line_ahead g.G.Grammar.rules g.X.Word.deeds c.args.text.now l.place l.rest.now l.word
    (string_bytes l.gathered)
    (out g.W.Sink.written g.W.Sink.takes c.args.output.now)
    (out g.W.Sink.written g.W.Sink.takes l.output)
    c.split_line.result.0.now c.split_line.result.1.now some c.split_line.ensures.begins
    l.invariant.writing

pub lines-preserved : goal.lines-preserved
lines-preserved g c =
    let (l, told, spelled, there, did, wrote) = c.in_ok-place.ensures.ok in
    let next = writing_line g.G.Grammar.rules g.X.Word.deeds c.args.text.now g.met.G.Grammar.one
    g.met.G.Grammar.some
    c.write_line.new.self l told c.split_line.ensures.begins spelled did
    c.lines.invariant.writing in
    record {
      writing = subst
          (λ p. Writing g.G.Grammar.rules g.X.Word.deeds c.args.text.now p
          c.split_line.result.1.now c.write_line.new.self (string_bytes c.write_line.new.gathered)
          (out g.W.Sink.written g.W.Sink.takes c.args.output.now)
          (out g.W.Sink.written g.W.Sink.takes c.write_line.new.output))
          (sym there)
          (writing_on g.G.Grammar.rules g.X.Word.deeds c.args.text.now wrote next);
      counted = grind (arith, nat_tests);
      faults = c.in_ok-place.ensures.no_failure (λ e. ok_not_err e) ∙ c.lines.invariant.faults;
    }

pub returns-in_err-place-clause-err : goal.returns-in_err-place-clause-err
returns-in_err-place-clause-err g c =
    let (l, told, next, spelled, did, wrote) = c.in_err-place.ensures.err in
    let then = writing_line g.G.Grammar.rules g.X.Word.deeds c.args.text.now g.met.G.Grammar.one
    g.met.G.Grammar.some
    next l told c.split_line.ensures.begins spelled did
    c.lines.invariant.writing in
    at_error c.from_residual.result _
    (writing_stops g.G.Grammar.rules g.X.Word.deeds c.args.text.now g.met.X.Word.goes_on
    g.met.X.Word.comes_to_end wrote then)

pub returns-in_err-place-clause-takes : goal.returns-in_err-place-clause-takes
returns-in_err-place-clause-takes g c = λ all said.
    c.in_err-place.ensures.takes
    (λ l told next spelled did.
    writing_sure g.G.Grammar.rules g.X.Word.deeds c.args.text.now g.met.X.Word.goes_on
    g.met.X.Word.comes_to_end all
    (writing_line g.G.Grammar.rules g.X.Word.deeds c.args.text.now g.met.G.Grammar.one
    g.met.G.Grammar.some next l told c.split_line.ensures.begins spelled did
    c.lines.invariant.writing))
    (ap Err (sym (of_err _ c.from_residual.result said c.from_residual.ensures.1)))

pub returns-in_err-finish-clause-err : goal.returns-in_err-finish-clause-err
returns-in_err-finish-clause-err g c =
    at_error c.from_residual-in_err-finish.result _
    (writing_so_far g.G.Grammar.rules g.X.Word.deeds c.args.text.now g.met.X.Word.goes_on
    g.met.X.Word.comes_to_end c.lines.invariant.writing)

pub returns-in_err-pass_on-clause-err : goal.returns-in_err-pass_on-clause-err
returns-in_err-pass_on-clause-err g c =
    let told = c.in_ok-finish.ensures in
    let whole = writing_whole g.G.Grammar.rules g.X.Word.deeds c.args.text.now g.met.G.Grammar.one
    g.met.G.Grammar.some told.0 (string_bytes c.finish.new.out)
    (grind (arith, nat_tests)) told.1 told.2 c.lines.invariant.writing in
    at_error c.from_residual-in_err-pass_on.result _
    (whole_stops g.G.Grammar.rules g.X.Word.deeds c.args.text.now
    c.in_err-pass_on.ensures.err whole)

pub returns-in_err-pass_on-clause-takes : goal.returns-in_err-pass_on-clause-takes
returns-in_err-pass_on-clause-takes g c = λ all said.
    let told = c.in_ok-finish.ensures in
    let whole = writing_whole g.G.Grammar.rules g.X.Word.deeds c.args.text.now g.met.G.Grammar.one
    g.met.G.Grammar.some told.0 (string_bytes c.finish.new.out)
    (grind (arith, nat_tests)) told.1 told.2 c.lines.invariant.writing in
    let took = c.in_err-pass_on.ensures.takes
    (whole_sure g.G.Grammar.rules g.X.Word.deeds c.args.text.now all whole) in cc

pub returns-clause-ok : goal.returns-clause-ok
returns-clause-ok g c =
    let told = c.in_ok-finish.ensures in
    let whole = writing_whole g.G.Grammar.rules g.X.Word.deeds c.args.text.now g.met.G.Grammar.one
    g.met.G.Grammar.some told.0 (string_bytes c.finish.new.out)
    (grind (arith, nat_tests)) told.1 told.2 c.lines.invariant.writing in
    let wrote = c.in_ok-pass_on.ensures in
    whole_all g.G.Grammar.rules g.X.Word.deeds c.args.text.now wrote.ok (wrote.all refl) whole
