-- where an element of a list stands
use Rattle.law_order.proofs.Vocabulary.{◌≡◌, List, [], ◌∷◌, ◌++◌}

pub nothing : {X : Type 0} (before later : List X) (x : X) → [] ≡ before ++ x ∷ later → ⊥
nothing [] later x e = cc
nothing (y ∷ before) later x e = cc

pub head_of : {X : Type 0} (x y : X) (xs ys : List X) → x ∷ xs ≡ y ∷ ys → x ≡ y
head_of x y xs ys e = cc

pub tail_of : {X : Type 0} (x y : X) (xs ys : List X) → x ∷ xs ≡ y ∷ ys → xs ≡ ys
tail_of x y xs ys e = cc
