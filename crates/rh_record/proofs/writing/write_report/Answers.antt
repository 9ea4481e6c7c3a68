use Rattle.std.proofs.Common.{◌≡◌, ℕ, suc, List, [], ◌∷◌, ◌++◌, drop, string_bytes, Err, subst, sym, ap, ◌∙◌}
use Rattle.std.proofs.lemmas.Result.{err_from_is_err_and}
use Rattle.rh_text.specs.Writing.{Writes}
use Rattle.rh_text.proofs.Appending.{written_part}
use Rattle.rh_record.specs.declared.answer.Answer.{Answer}
use Rattle.rh_record.specs.Report.{report_text}
use Rattle.rh_record.proofs.Reports.{report_text-drop}
use Rattle.rh_record.proofs.writing.write_report.Goals as goal

pub returns-in_err-write_answer : goal.returns-in_err-write_answer
returns-in_err-write_answer c =
    let p = err_from_is_err_and c.from_residual.result c.from_residual.ensures.1 in
    let answers = c.answers-answers.result.now in
    let i = c.loop-answer.answer-index in
    let item = c.answer-item.result in
    let rest = report_text (drop (suc i) answers) in
    let before = string_bytes c.args.out.now in
    let out = string_bytes c.write_answer.new.out in
    let cut : report_text (drop i answers) ≡ report_text (item ∷ []) ++ rest =
    report_text-drop answers i item c.loop-answer-test.true
    ∙ ap (λ (a : Answer). report_text (a ∷ []) ++ rest) (sym c.answer-item.is) in
    let written = written_part (report_text answers) before (string_bytes c.loop-answer.out) out
    (report_text (drop i answers)) (report_text (item ∷ [])) rest p.0 cut
    c.in_err-write_answer.ensures
    c.loop-answer.invariant in
    rw p.1 (subst (λ (t : List ℕ). Writes t (Err p.0) before out)
    (ap report_text c.answers-answers.ensures) written)
