-- laws of reports
use Rattle.std.proofs.Common.{◌≡◌, ℕ, suc, ◌<◌, List, [], ◌∷◌, ◌++◌, drop, length, get_or, Err, sym, ◌∙◌, ap, refl, append_assoc}
use Rattle.std.proofs.Math.Seq.{drop-cons}
use Rattle.std.specs.declared.result.Result.{Result}
use Rattle.rh_text.specs.Writing.{Writes}
use Rattle.rh_text.proofs.Appending.{writes_one, writes_both}
use Rattle.rh_record.specs.declared.answer.Answer.{Answer}
use Rattle.rh_record.specs.Report.{answer_text, report_text}

-- one report behind another
pub report_text-append : (front more : List Answer)
    → report_text (front ++ more) ≡ report_text front ++ report_text more
report_text-append [] more = refl
report_text-append (answer ∷ front) more =
    ap (λ (x : List ℕ). answer_text answer ++ 10 ∷ x) (report_text-append front more)
    ∙ sym (append_assoc (answer_text answer) (10 ∷ report_text front) (report_text more))

-- the answer at a place, and those behind it
pub report_text-drop : (answers : List Answer) (i : ℕ) (or : Answer) → i < length answers
    → report_text (drop i answers) ≡ report_text (get_or answers i or ∷ [])
    ++ report_text (drop (suc i) answers)
report_text-drop answers i or within =
    ap report_text (drop-cons answers i or within)
    ∙ report_text-append (get_or answers i or ∷ []) (drop (suc i) answers)

-- ---- three texts, one behind the other

-- where the second could not be appended
pub second_failed : {E : Type 0} (one two three : List ℕ) (failed : E) (before now next : List ℕ)
    → now ≡ before ++ one → Writes two (Err failed) now next
    → Writes (one ++ (two ++ three)) (Err failed) before next
second_failed one two three failed before now next h k =
    writes_both one (two ++ three) (Err failed) before now next h
    (writes_one two three failed now next k)

-- where the first two were
pub third_done : {E : Type 0} (one two three : List ℕ) (result : Result (Unit {0}) E)
    (before now next last : List ℕ)
    → now ≡ before ++ one → next ≡ now ++ two → Writes three result next last
    → Writes (one ++ (two ++ three)) result before last
third_done one two three result before now next last h k l =
    writes_both one (two ++ three) result before now last h
    (writes_both two three result now next last k l)
