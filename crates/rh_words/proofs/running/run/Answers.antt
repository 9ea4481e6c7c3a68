-- a summary is written, or there was no memory for it
use Rattle.std.proofs.Common.{sym, ap, subst}
use Rattle.rh_words.specs.declared.form.Form.{Form}
use Rattle.rh_words.specs.Forms.{Ran, outside}
use Rattle.rh_words.specs.declared.help.TheConstants.{HELP}
use Rattle.rh_words.specs.declared.running.TheConstants.{VERSION}
use Rattle.rh_words.proofs.FormLaws.{only_make, by_memory}
use Rattle.rh_words.proofs.running.run.Goals as goal

pub returns-in-Some-Make-clause-ran : goal.returns-in-Some-Make-clause-ran
returns-in-Some-Make-clause-ran g c = λ form is.
    let count = c.in-Some-Make.count in
    let same = only_make form count c.args.words.now is
    (rw c.in-Some-Make.field-0-is at c.in-Some-Make.ensures) in
    let seen = outside g.R.Source.left g.R.Source.taken g.R.Source.faults g.R.Source.ends
    g.W.Sink.written g.W.Sink.faults g.W.Sink.takes in
    subst (λ (f : Form). Ran HELP.now VERSION.now (g.R.Source.unfailing c.args.input.now) f
    c.tell_summary.result (seen c.args.input.now c.args.output.now)
    (seen c.args.input.now c.tell_summary.new.output))
    (sym same)
    (by_memory c.tell_summary.result _ _ c.tell_summary.ensures.made
    (λ none. ap (seen c.args.input.now) (c.tell_summary.ensures.no_memory none)))
