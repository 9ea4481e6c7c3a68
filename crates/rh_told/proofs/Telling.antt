-- texts that are told in pieces
use Rattle.std.proofs.Common.{◌≡◌, ℕ, List, [], ◌++◌, Err, subst, ◌∙◌, ap}
use Rattle.std.proofs.lemmas.List.{append-nil}
use Rattle.std.specs.declared.result.Result.{Result}
use Rattle.rh_line.specs.declared.leg.Leg.{Leg}
use Rattle.rh_text.specs.Writing.{Writes}
use Rattle.rh_told.specs.Answers.{on_leg}

-- nothing stands behind a text
pub nothing_behind : (text before after : List ℕ) → after ≡ before ++ (text ++ [])
    → after ≡ before ++ text
nothing_behind text before after h = h ∙ ap (λ (x : List ℕ). before ++ x) (append-nil text)

pub nothing_failed : {E : Type 0} (text : List ℕ) (failed : E) (before after : List ℕ)
    → Writes (text ++ []) (Err failed) before after → Writes text (Err failed) before after
nothing_failed text failed before after h =
    subst (λ (x : List ℕ). Writes x (Err failed) before after) (append-nil text) h

-- the text that is written is this one
pub as_text : {E : Type 0} (text told : List ℕ) (result : Result (Unit {0}) E)
    (before after : List ℕ)
    → text ≡ told → Writes text result before after → Writes told result before after
as_text text told result before after same h =
    subst (λ (x : List ℕ). Writes x result before after) same h

-- a word, a leg and what stands behind it are these
pub as_leg : {E : Type 0} (leg : Leg) (word front behind rest : List ℕ)
    (result : Result (Unit {0}) E) (before after : List ℕ) → word ≡ front → behind ≡ rest
    → Writes (on_leg word leg ++ behind) result before after
    → Writes (on_leg front leg ++ rest) result before after
as_leg leg word front behind rest result before after one two h =
    subst (λ (x : List ℕ). Writes (on_leg x leg ++ rest) result before after) one
    (subst (λ (x : List ℕ). Writes (on_leg word leg ++ x) result before after) two h)
