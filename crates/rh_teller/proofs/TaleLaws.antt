-- laws of tales
use Rattle.std.proofs.Common.{◌≡◌, ℕ, suc, ◌<◌, List, [], ◌∷◌, ◌++◌, drop, get_or, length, refl, sym, ◌∙◌, ap, append_assoc}
use Rattle.std.proofs.Math.Seq.{drop-cons}
use Rattle.rh_record.specs.declared.answer.Answer.{Answer}
use Rattle.rh_teller.specs.Tales.{Tale, told, behind}

module _ {T : Type 0} (tale : Tale T) where
  -- what is told of answers, and then of others
  pub told-append : (teller : T) (front more : List Answer)
      → told tale teller (front ++ more)
      ≡ told tale teller front ++ told tale (behind tale teller front) more
  told-append teller [] more = refl
  told-append teller (answer ∷ front) more =
      ap (λ (x : List ℕ). tale.answer teller answer ++ x)
      (told-append (tale.after teller answer) front more)
      ∙ sym (append_assoc (tale.answer teller answer)
      (told tale (tale.after teller answer) front)
      (told tale (behind tale (tale.after teller answer) front) more))

  pub behind-append : (teller : T) (front more : List Answer)
      → behind tale teller (front ++ more) ≡ behind tale (behind tale teller front) more
  behind-append teller [] more = refl
  behind-append teller (answer ∷ front) more = behind-append (tale.after teller answer) front more

  -- the answer at a place, and those behind it
  pub told-drop : (teller : T) (answers : List Answer) (i : ℕ) (or : Answer) → i < length answers
      → told tale teller (drop i answers)
      ≡ tale.answer teller (get_or answers i or)
      ++ told tale (tale.after teller (get_or answers i or)) (drop (suc i) answers)
  told-drop teller answers i or within =
      ap (λ (x : List Answer). told tale teller x) (drop-cons answers i or within)

  pub behind-drop : (teller : T) (answers : List Answer) (i : ℕ) (or : Answer)
      → i < length answers
      → behind tale teller (drop i answers)
      ≡ behind tale (tale.after teller (get_or answers i or)) (drop (suc i) answers)
  behind-drop teller answers i or within =
      ap (λ (x : List Answer). behind tale teller x) (drop-cons answers i or within)
