-- where an answer could not be told, a front of all is
use Rattle.std.proofs.Common.{◌≡◌, suc, ◌++◌, drop, string_bytes, sym, ap, ◌∙◌}
use Rattle.std.proofs.lemmas.Result.{err_from_is_err_and}
use Rattle.rh_text.proofs.Appending.{written_part}
use Rattle.rh_record.specs.declared.answer.Answer.{Answer}
use Rattle.rh_teller.specs.Tales.{told}
use Rattle.rh_teller.proofs.TaleLaws.{told-drop}
use Rattle.rh_teller.proofs.telling.tell_all.Goals as goal

pub returns-in_err-tell-clause-text : goal.returns-in_err-tell-clause-text
returns-in_err-tell-clause-text g c =
    let tale = g.T.Teller.tale in
    let p = err_from_is_err_and c.from_residual.result c.from_residual.ensures.1 in
    let answers = c.args.answers.now in
    let l = c.loop-answer in
    let i = l.answer-index in
    let item = c.answer-item.result in
    let next = tale.after l.teller item in
    let rest = told tale next (drop (suc i) answers) in
    let cut : told tale l.teller (drop i answers) ≡ tale.answer l.teller item ++ rest =
    told-drop tale l.teller answers i item c.loop-answer-test.true
    ∙ ap (λ (a : Answer). tale.answer l.teller a ++ told tale (tale.after l.teller a)
    (drop (suc i) answers)) (sym c.answer-item.is) in
    rw p.1 (written_part (told tale c.args.teller.now answers) (string_bytes c.args.out.now)
    (string_bytes l.out) (string_bytes c.tell.new.out) (told tale l.teller (drop i answers))
    (tale.answer l.teller item) rest p.0 cut c.in_err-tell.ensures.text l.invariant.written)
