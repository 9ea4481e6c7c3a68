-- what reports nothing, one thing behind another
use Rattle.law_order.proofs.Vocabulary.{◌≡◌, ℕ, zero, suc, ◌<◌, List, [], ◌∷◌, ◌++◌, Bool, true, false, if◌then◌else◌, refl, sym, subst, arith, ⊎_elim, cases_lt}
use Rattle.law_node_history.proofs.Vocabulary.{Answer, and_then, each}
use Rattle.law_world_rest.specs.Rest.{IsSilent}

-- ---- two reports that are none together

none_first : (xs ys : List Answer) → xs ++ ys ≡ [] → xs ≡ []
none_first [] ys none = refl
none_first (x ∷ xs) ys none = absurd cc

none_behind : (xs ys : List Answer) → xs ++ ys ≡ [] → ys ≡ []
none_behind [] ys none = none
none_behind (x ∷ xs) ys none = absurd cc

module _ {W : Type 0} (w : W) where
  -- what reports nothing leaves the world as it was
  abbrev pub Leaves : W × List Answer → Type 0
  Leaves did = IsSilent did → did.0 ≡ w

  pub nothing_leaves : Leaves (w, [])
  nothing_leaves silent = refl

  pub leaves_if : (test : Bool) (did : W × List Answer) → Leaves did
      → Leaves (if test then did else (w, []))
  leaves_if true did leaves = leaves
  leaves_if false did leaves = nothing_leaves

  -- ---- one behind another: both at the one world

  pub first_silent : (did : W × List Answer) (act : W → W × List Answer)
      → IsSilent (and_then did act) → IsSilent did
  first_silent did act silent = none_first did.1 (act did.0).1 silent

  pub next_silent : (did : W × List Answer) (act : W → W × List Answer) → Leaves did
      → IsSilent (and_then did act) → IsSilent (act w)
  next_silent did act leaves silent =
      subst (λ (v : W). IsSilent (act v)) (leaves (first_silent did act silent))
      (none_behind did.1 (act did.0).1 silent)

  pub leaves_then : (did : W × List Answer) (act : W → W × List Answer) → Leaves did
      → Leaves (act w) → Leaves (and_then did act)
  leaves_then did act leaves behind silent =
      subst (λ (v : W). IsSilent (act v) → (act v).0 ≡ w)
      (sym (leaves (first_silent did act silent))) behind
      (none_behind did.1 (act did.0).1 silent)

  -- ---- for each number

  pub each_leaves : (n : ℕ) (act : ℕ → W → W × List Answer) → ((k : ℕ) → Leaves (act k w))
      → Leaves (each n act w)
  each_leaves zero act leaves = nothing_leaves
  each_leaves (suc n) act leaves =
      leaves_then (each n act w) (act n) (each_leaves n act leaves) (leaves n)

  pub each_silent : (n : ℕ) (act : ℕ → W → W × List Answer) → ((k : ℕ) → Leaves (act k w))
      → IsSilent (each n act w) → (k : ℕ) → k < n → IsSilent (act k w)
  each_silent zero act leaves silent k below = absurd (omega (arith, below))
  each_silent (suc n) act leaves silent k below =
      ⊎_elim (λ less. each_silent n act leaves (first_silent (each n act w) (act n) silent) k less)
      (λ more. subst (λ (j : ℕ). IsSilent (act j w)) (omega (arith, below, more))
      (next_silent (each n act w) (act n) (each_leaves n act leaves) silent)) (cases_lt k n)

  -- ---- four behind one another

  pub four_leave : (one two three last : W → W × List Answer) → Leaves (one w) → Leaves (two w)
      → Leaves (three w) → Leaves (last w)
      → Leaves (and_then (and_then (and_then (one w) two) three) last)
  four_leave one two three last a b c d =
      leaves_then (and_then (and_then (one w) two) three) last
      (leaves_then (and_then (one w) two) three (leaves_then (one w) two a b) c) d

  pub record AreSilent (one two three last : W → W × List Answer) : Type 0 where
    pub first : IsSilent (one w)
    pub second : IsSilent (two w)
    pub third : IsSilent (three w)
    pub fourth : IsSilent (last w)

  pub four_silent : (one two three last : W → W × List Answer) → Leaves (one w)
      → Leaves (two w) → Leaves (three w)
      → IsSilent (and_then (and_then (and_then (one w) two) three) last)
      → AreSilent one two three last
  four_silent one two three last a b c silent =
      let twice = and_then (one w) two in
      let thrice = and_then twice three in
      let until_three = first_silent thrice last silent in
      let until_two = first_silent twice three until_three in
      let both = leaves_then (one w) two a b in
      record {
        first = first_silent (one w) two until_two;
        second = next_silent (one w) two a until_two;
        third = next_silent twice three both until_three;
        fourth = next_silent thrice last (leaves_then twice three both c) silent;
      }
