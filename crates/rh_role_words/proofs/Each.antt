-- all items of a list are such
use Rattle.std.proofs.Common.{◌≡◌, ℕ, zero, suc, List, [], ◌∷◌, ◌++◌, slice_get, Some, subst}

abbrev pub Each : {X : Type 0} → (X → Type 0) → List X → Type 0
Each {X} P list = (at : ℕ) (x : X) → slice_get list at ≡ Some x → P x

some_same : {X : Type 0} (x y : X) → Some x ≡ Some y → x ≡ y
some_same x y same = cc same

pub each-more : {X : Type 0} (P : X → Type 0) (list : List X) (x : X) → Each P list → P x
    → Each P (list ++ x ∷ [])
each-more P [] x each is zero y got = subst P (some_same x y got) is
each-more P [] x each is (suc at) y got = absurd (cc)
each-more P (z ∷ list) x each is zero y got = each zero y got
each-more P (z ∷ list) x each is (suc at) y got =
    each-more P list x (λ k. each (suc k)) is at y got
