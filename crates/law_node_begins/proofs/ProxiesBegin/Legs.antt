-- legs, and what was put on each of them
use Rattle.law_order.proofs.Vocabulary.{◌≡◌, List, [], ◌∷◌, ◌++◌, cond, Bool, true, false, refl, sym, ap, ◌∙◌, AllByRecursion, append-nil}
use Rattle.law_moves.proofs.Vocabulary.{Leg, LegKind, Message, is_of, same_leg, OnLeg, of_leg}
use Rattle.law_moves.proofs.Lemmas.{of_append, kind_is}

-- ---- which leg it is

-- a leg of a kind, by its number
pub of_kind : (kind : LegKind) (leg : Leg) → is_of kind leg ≡ true
    → leg ≡ record { kind = kind; number = leg.number }
of_kind kind leg h = ap (λ (k : LegKind). record leg { kind = k }) (sym (kind_is kind leg.kind h))

-- ---- what was put on a leg

-- one message more, on this leg or on another one
pub one_here : (leg other : Leg) (log : List OnLeg) (m : Message) → same_leg other leg ≡ true
    → of_leg leg (log ++ (other, m) ∷ []) ≡ of_leg leg log ++ m ∷ []
one_here leg other log m e =
    of_append leg log ((other, m) ∷ [])
    ∙ ap (λ (t : Bool). of_leg leg log ++ cond t (m ∷ []) []) e

pub one_elsewhere : (leg other : Leg) (log : List OnLeg) (m : Message)
    → same_leg other leg ≡ false → of_leg leg (log ++ (other, m) ∷ []) ≡ of_leg leg log
one_elsewhere leg other log m e =
    of_append leg log ((other, m) ∷ [])
    ∙ ap (λ (t : Bool). of_leg leg log ++ cond t (m ∷ []) []) e ∙ append-nil (of_leg leg log)

-- ---- facts of all that was put

pub each_append : {X : Type 0} (P : X → Type 0) (xs : List X) (x : X) → AllByRecursion P xs → P x
    → AllByRecursion P (xs ++ x ∷ [])
each_append P [] x all here = (here, tt)
each_append P (y ∷ xs) x all here = (all.0, each_append P xs x all.1 here)

module _ (P : OnLeg → Type 0) (leg : Leg) where
  -- of another leg all are
  pub none_of : (log : List OnLeg) → AllByRecursion P log
      → ((one : OnLeg) → P one → same_leg one.0 leg ≡ false) → of_leg leg log ≡ []
  none_of [] all other = refl
  none_of (one ∷ log) all other =
      ap (λ (t : Bool). cond t (one.1 ∷ of_leg leg log) (of_leg leg log)) (other one all.0)
      ∙ none_of log all.1 other

  pub each_of : (Q : Message → Type 0) (log : List OnLeg) → AllByRecursion P log
      → ((one : OnLeg) → P one → same_leg one.0 leg ≡ true → Q one.1)
      → AllByRecursion Q (of_leg leg log)
  each_of Q [] all so = tt
  each_of Q (one ∷ log) all so = by (same_leg one.0 leg) (so one all.0) (each_of Q log all.1 so)
    where
      by : (t : Bool) → (t ≡ true → Q one.1) → AllByRecursion Q (of_leg leg log)
          → AllByRecursion Q (cond t (one.1 ∷ of_leg leg log) (of_leg leg log))
      by true here rest = (here refl, rest)
      by false here rest = rest
