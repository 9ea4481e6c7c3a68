-- what may go next, by any order of what is put: none, where none of its parts may go
use Rattle.law_order.proofs.Vocabulary.{◌≡◌, Bool, true, false, if◌then◌else◌, Some, None, Option, refl, sym, ◌∙◌}

-- what goes under a test goes not where that is not passed
pub none_if : {A : Type 0} (test : Bool) (one : A) → (if test then Some one else None) ≡ None
    → test ≡ false
none_if true one none = absurd cc
none_if false one none = refl

module _ {A : Type 0} where
  -- the first of two that may go
  pub neither : (or_else : Option A → Option A → Option A)
      → ((later : Option A) → or_else None later ≡ later)
      → ((one : A) (later : Option A) → or_else (Some one) later ≡ Some one)
      → (a b : Option A) → or_else a b ≡ None → (a ≡ None) × (b ≡ None)
  neither or_else behind first None b none = (refl, sym (behind b) ∙ none)
  neither or_else behind first (Some one) b none = absurd (let is = sym (first one b) ∙ none in cc)

  -- what is put may change more of the role
  pub unsettled : (settled : Option A → Option A) (next : A → A)
      → ((one : A) → settled (Some one) ≡ Some (next one)) → (pick : Option A)
      → settled pick ≡ None → pick ≡ None
  unsettled settled next is None none = refl
  unsettled settled next is (Some one) none = absurd (let some = sym (is one) ∙ none in cc)
