-- what holds of each element of a list
use Rattle.law_order.proofs.Vocabulary.{List, [], ◌∷◌, ◌++◌, AllByRecursion}

-- what holds of all holds of the first ones and of the last
pub each_parted : {X : Type 0} (P : X → Type 0) (xs : List X) (x : X)
    → AllByRecursion P (xs ++ x ∷ []) → AllByRecursion P xs × P x
each_parted P [] x h = (tt, h.0)
each_parted P (y ∷ xs) x h =
    let rest = each_parted P xs x h.1 in ((h.0, rest.0), rest.1)

-- what follows from it for each
pub each_so : {X : Type 0} (P Q : X → Type 0) → ((x : X) → P x → Q x) → (xs : List X)
    → AllByRecursion P xs → AllByRecursion Q xs
each_so P Q so [] h = tt
each_so P Q so (x ∷ xs) h = (so x h.0, each_so P Q so xs h.1)
