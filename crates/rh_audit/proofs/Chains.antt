-- the first leg that passes a test, and the legs of a chain
use Rattle.std.proofs.Common.{◌≡◌, ℕ, zero, suc, ◌+◌, ◌≤◌, List, [], ◌∷◌, ◌++◌, length, Bool, true, false, Some, None, refl, sym, ap, ◌∙◌, subst, arith}
use Rattle.std.specs.Prelude.{if◌then◌else◌, cond}
use Rattle.std.proofs.lemmas.List.{length-append}
use Rattle.std.specs.List.{filter}
use Rattle.std.specs.declared.option.Option.{Option}
use Rattle.rh_rts.specs.declared.command.Cookie.{Cookie}
use Rattle.rh_audit.specs.Chains.{Leg, chain, connects, first_and_others, follow, joined, next_by, replaces, with_other}

-- ---- the first that passes

-- the leg passes, and the others are all but it: a test that it fails passes the same ones
pub record IsPicked (passes : Leg → Bool) (legs : List Leg) (leg : Leg) (left : List Leg)
    : Type 0 where
  pub passed : passes leg ≡ true
  pub here : filter passes legs ≡ leg ∷ filter passes left
  pub others : (q : Leg → Bool) → q leg ≡ false → filter q legs ≡ filter q left
  pub size : length legs ≡ suc (length left)

abbrev pub Picks : (Leg → Bool) → List Leg → Option (Leg × List Leg) → Type 0
Picks passes legs None = filter passes legs ≡ []
Picks passes legs (Some (leg, left)) = IsPicked passes legs leg left

pub picks : (passes : Leg → Bool) (legs : List Leg) → Picks passes legs (first_and_others passes legs)
picks passes [] = refl
picks passes (leg ∷ legs) =
    by (passes leg) refl (first_and_others passes legs) (picks passes legs)
  where
    more : (o : Option (Leg × List Leg)) → passes leg ≡ false → Picks passes legs o
        → Picks passes (leg ∷ legs) (with_other leg o)
    more None e h = ap (λ t. cond t (leg ∷ filter passes legs) (filter passes legs)) e ∙ h
    more (Some (found, left)) e h = record {
      passed = h.passed;
      here = ap (λ t. cond t (leg ∷ filter passes legs) (filter passes legs)) e ∙ h.here
          ∙ ap (λ t. found ∷ cond t (leg ∷ filter passes left) (filter passes left)) (sym e);
      others = λ q fails. ap (λ (x : List Leg). cond (q leg) (leg ∷ x) x) (h.others q fails);
      size = ap suc h.size;
    }

    by : (t : Bool) → passes leg ≡ t → (o : Option (Leg × List Leg)) → Picks passes legs o
        → Picks passes (leg ∷ legs) (if t then Some (leg, legs) else with_other leg o)
    by true e o h = record {
      passed = e;
      here = ap (λ t. cond t (leg ∷ filter passes legs) (filter passes legs)) e;
      others = λ q fails. ap (λ t. cond t (leg ∷ filter q legs) (filter q legs)) fails;
      size = refl;
    }
    by false e o h = more o e h

-- ---- PDUs

-- how many PDUs legs have
abbrev pub weight : List Leg → ℕ
weight [] = 0
weight (leg ∷ legs) = length leg.pdus + weight legs

abbrev Weighs : (List Leg) → Option (Leg × List Leg) → Type 0
Weighs legs None = Unit {0}
Weighs legs (Some (leg, left)) = weight legs ≡ length leg.pdus + weight left

pub weighs : (passes : Leg → Bool) (legs : List Leg) → Weighs legs (first_and_others passes legs)
weighs passes [] = tt
weighs passes (leg ∷ legs) = by (passes leg) (first_and_others passes legs) (weighs passes legs)
  where
    more : (o : Option (Leg × List Leg)) → Weighs legs o → Weighs (leg ∷ legs) (with_other leg o)
    more None h = tt
    more (Some (found, left)) h = omega (arith, h)

    by : (t : Bool) (o : Option (Leg × List Leg)) → Weighs legs o
        → Weighs (leg ∷ legs) (if t then Some (leg, legs) else with_other leg o)
    by true o h = refl
    by false o h = more o h

next_light : (more : Leg → List Leg → List Leg) (legs : List Leg) (o : Option (Leg × List Leg))
    → Weighs legs o → ((leg : Leg) (left : List Leg) → weight (more leg left) ≤ weight left)
    → weight (next_by more o) ≤ weight legs
next_light more legs None h light = omega arith
next_light more legs (Some (leg, left)) h light = omega (arith, h, light leg left)

follow_light : (n : ℕ) (newest : Cookie) (legs : List Leg)
    → weight (follow n newest legs) ≤ weight legs
follow_light zero newest legs = omega arith
follow_light (suc n) newest legs =
    next_light (λ leg left. follow n leg.newest left) legs
    (first_and_others (replaces newest) legs) (weighs (replaces newest) legs)
    (λ leg left. follow_light n leg.newest left)

chain_light : (legs : List Leg) → weight (chain legs) ≤ weight legs
unfolding chain
chain_light legs =
    next_light (λ leg left. follow (length left) leg.newest left) legs
    (first_and_others connects legs) (weighs connects legs)
    (λ leg left. follow_light (length left) leg.newest left)

joined_light : (legs : List Leg) → length (joined legs) ≤ weight legs
unfolding joined
joined_light [] = omega arith
joined_light (leg ∷ legs) = by leg.marked (joined_light legs)
  where
    by : (t : Bool) → length (joined legs) ≤ weight legs
        → length (leg.pdus ++ (if t then joined legs else [])) ≤ length leg.pdus + weight legs
    by true h = omega (arith, h, length-append leg.pdus (joined legs))
    by false h = omega (arith, length-append leg.pdus [])

-- a chain carried no more PDUs than its legs have
pub carried_light : (legs : List Leg) → length (joined (chain legs)) ≤ weight legs
carried_light legs = omega (arith, joined_light (chain legs), chain_light legs)

-- ---- fuel

next_same : (f g : Leg → List Leg → List Leg) (o : Option (Leg × List Leg))
    → ((leg : Leg) (left : List Leg) → o ≡ Some (leg, left) → f leg left ≡ g leg left)
    → next_by f o ≡ next_by g o
next_same f g None h = refl
next_same f g (Some (leg, left)) h = ap (λ more. leg ∷ more) (h leg left refl)

pub picked_size : (passes : Leg → Bool) (legs : List Leg) (leg : Leg) (left : List Leg)
    → first_and_others passes legs ≡ Some (leg, left) → length legs ≡ suc (length left)
picked_size passes legs leg left h = (subst (Picks passes legs) h (picks passes legs)).size

-- as many legs as there are suffice
pub follow_enough : (n m : ℕ) (newest : Cookie) (legs : List Leg) → length legs ≤ n
    → length legs ≤ m
    → follow n newest legs ≡ follow m newest legs
follow_enough zero zero newest legs h k = refl
follow_enough zero (suc m) newest [] h k = refl
follow_enough zero (suc m) newest (leg ∷ legs) h k = absurd (omega (arith, h))
follow_enough (suc n) zero newest [] h k = refl
follow_enough (suc n) zero newest (leg ∷ legs) h k = absurd (omega (arith, k))
follow_enough (suc n) (suc m) newest legs h k =
    next_same (λ leg left. follow n leg.newest left) (λ leg left. follow m leg.newest left)
    (first_and_others (replaces newest) legs)
    (λ leg left is.
    let size = picked_size (replaces newest) legs leg left is in
    follow_enough n m leg.newest left (omega (arith, h, size)) (omega (arith, k, size)))
