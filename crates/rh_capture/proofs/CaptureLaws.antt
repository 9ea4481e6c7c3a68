-- the lines of a run so far
use Rattle.std.proofs.Common.{◌≡◌, ℕ, suc, ◌<◌, List, [], ◌∷◌, ◌++◌, drop, get_or, length, refl, sym, ◌∙◌, ap, append_assoc}
use Rattle.std.proofs.Math.Seq.{drop-cons}
use Rattle.rh_line.specs.declared.leg.Leg.{Leg}
use Rattle.rh_record.specs.declared.answer.Answer.{Answer}
use Rattle.rh_capture.specs.Captured.{captured_behind, line_of, met}

-- the answer at a place, and those behind it
pub captured-drop : (legs : List Leg) (answers : List Answer) (i : ℕ) (or : Answer)
    → i < length answers
    → captured_behind legs (drop i answers)
    ≡ line_of legs (get_or answers i or)
    ++ captured_behind (met legs (get_or answers i or)) (drop (suc i) answers)
captured-drop legs answers i or within =
    ap (λ (x : List Answer). captured_behind legs x) (drop-cons answers i or within)
