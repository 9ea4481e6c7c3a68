-- what holds of all legs that a server keeps, and which one has a number
use Rattle.law_order.proofs.Vocabulary.{◌≡◌, ℕ, zero, suc, Bool, true, List, [], ◌∷◌, Some, sym, ap, ◌∙◌, position, slice_get, slice_set, remove, IfSome, AllByRecursion, position-Some, get_or_from_slice_get}

module _ {X : Type 0} (P : X → Type 0) where
  pub all_at : (xs : List X) (place : ℕ) → AllByRecursion P xs → IfSome (slice_get xs place) P
  all_at [] place all = tt
  all_at (x ∷ xs) zero all = all.0
  all_at (x ∷ xs) (suc place) all = all_at xs place all.1

  pub all_set : (xs : List X) (place : ℕ) (x : X) → P x → AllByRecursion P xs
      → AllByRecursion P (slice_set xs place x)
  all_set [] place x here all = tt
  all_set (y ∷ xs) zero x here all = (here, all.1)
  all_set (y ∷ xs) (suc place) x here all = (all.0, all_set xs place x here all.1)

  pub all_removed : (xs : List X) (place : ℕ) → AllByRecursion P xs
      → AllByRecursion P (remove xs place)
  all_removed [] zero all = tt
  all_removed [] (suc place) all = tt
  all_removed (x ∷ xs) zero all = all.1
  all_removed (x ∷ xs) (suc place) all = (all.0, all_removed xs place all.1)

-- one that is found passes the test
pub found_passes : {X : Type 0} (test : X → Bool) (xs : List X) (place : ℕ) (x : X)
    → position test xs ≡ Some place → slice_get xs place ≡ Some x → test x ≡ true
found_passes test xs place x e at =
    let first = position-Some test xs place x e in
    ap test (sym (get_or_from_slice_get xs place x x at)) ∙ first.1
