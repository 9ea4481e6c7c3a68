-- what holds of each element of a list holds of those that are found, and of a list that is changed
use Rattle.law_order.proofs.Vocabulary.{ℕ, zero, suc, List, [], ◌∷◌, Bool, Some, slice_get, slice_set, remove, find, IfSome, AllByRecursion}
use Rattle.law_moves.proofs.Vocabulary.{by_test, Named, Due, takes, better, merged, without_first}

-- ---- an element

pub each_got : {X : Type 0} (P : X → Type 0) (xs : List X) (place : ℕ) → AllByRecursion P xs
    → IfSome (slice_get xs place) P
each_got P [] place h = tt
each_got P (x ∷ xs) zero h = h.0
each_got P (x ∷ xs) (suc place) h = each_got P xs place h.1

pub each_found : {X : Type 0} (P : X → Type 0) (test : X → Bool) (xs : List X)
    → AllByRecursion P xs → IfSome (find test xs) P
each_found P test [] h = tt
each_found P test (x ∷ xs) h =
    by_test (λ found. IfSome found P) (test x) (Some x) (find test xs) (λ e. h.0)
    (λ e. each_found P test xs h.1)

-- ---- the list is changed

pub each_set : {X : Type 0} (P : X → Type 0) (xs : List X) (place : ℕ) (x : X) → P x
    → AllByRecursion P xs → AllByRecursion P (slice_set xs place x)
each_set P [] place x is h = tt
each_set P (y ∷ xs) zero x is h = (is, h.1)
each_set P (y ∷ xs) (suc place) x is h = (h.0, each_set P xs place x is h.1)

pub each_removed : {X : Type 0} (P : X → Type 0) (xs : List X) (place : ℕ)
    → AllByRecursion P xs → AllByRecursion P (remove xs place)
each_removed P [] zero h = tt
each_removed P [] (suc place) h = tt
each_removed P (x ∷ xs) zero h = h.1
each_removed P (x ∷ xs) (suc place) h = (h.0, each_removed P xs place h.1)

-- ---- packets that wait

pub each_without : (P : Due → Type 0) (may_go : Due → Bool) (dues : List Due)
    → AllByRecursion P dues → AllByRecursion P (without_first may_go dues)
each_without P may_go [] h = tt
each_without P may_go (due ∷ dues) h =
    by_test (AllByRecursion P) (may_go due) dues (due ∷ without_first may_go dues) (λ e. h.1)
    (λ e. (h.0, each_without P may_go dues h.1))

pub each_merged : (P : Due → Type 0) (packet : Named)
    → ((due : Due) → P due → P (better due packet)) → (dues : List Due)
    → AllByRecursion P dues → AllByRecursion P (merged dues packet)
each_merged P packet merges [] h = tt
each_merged P packet merges (due ∷ dues) h =
    by_test (AllByRecursion P) (takes packet due) (better due packet ∷ dues)
    (due ∷ merged dues packet) (λ e. (merges due h.0, h.1))
    (λ e. (h.0, each_merged P packet merges dues h.1))
