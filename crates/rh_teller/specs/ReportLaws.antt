-- what a report tells of answers is their text
use Rattle.std.proofs.Common.{◌≡◌, ℕ, List, [], ◌∷◌, ◌++◌, refl, sym, ◌∙◌, ap}
use Rattle.rh_record.specs.declared.answer.Answer.{Answer}
use Rattle.rh_record.specs.Report.{report_text}
use Rattle.rh_record.proofs.Reports.{report_text-append}
use Rattle.rh_teller.specs.declared.reporter.Reporter.{Reporter}
use Rattle.rh_teller.specs.Reports.{report}
use Rattle.rh_teller.specs.Tales.{told}

pub told_report : (teller : Reporter) (answers : List Answer)
    → told report teller answers ≡ report_text answers
told_report teller [] = refl
told_report teller (answer ∷ answers) =
    ap (λ (x : List ℕ). report_text (answer ∷ []) ++ x) (told_report teller answers)
    ∙ sym (report_text-append (answer ∷ []) answers)
