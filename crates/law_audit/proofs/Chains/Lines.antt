-- a chain is a line of legs, of which each is the only one that replaces the one before it
use Rattle.std.proofs.Common.{◌≡◌, ◌⊎◌, inl, inr, ℕ, zero, suc, ◌≤◌, List, [], ◌∷◌, length, Bool, true, false, Some, None, refl, sym, ap, ◌∙◌, subst, arith}
use Rattle.std.specs.Prelude.{if◌then◌else◌}
use Rattle.std.specs.List.{AllByRecursion}
use Rattle.std.specs.declared.option.Option.{Option}
use Rattle.rh_rts.specs.declared.command.Cookie.{Cookie}
use Rattle.rh_audit.specs.Chains.{Leg, chain, connects, first_and_others, follow, next_by, replaces, with_other}

-- ---- the first leg that passes a test

abbrev pub IsAmong : Leg → List Leg → Type 0
IsAmong x [] = ⊥
IsAmong x (leg ∷ legs) = (x ≡ leg) ⊎ IsAmong x legs

-- the leg passes, and the others are left
pub record IsPicked (passes : Leg → Bool) (legs : List Leg) (leg : Leg) (left : List Leg)
    : Type 0 where
  pub passed : passes leg ≡ true
  pub here : IsAmong leg legs
  pub back : (x : Leg) → IsAmong x left → IsAmong x legs
  pub parts : (x : Leg) → IsAmong x legs → (x ≡ leg) ⊎ IsAmong x left
  pub size : length legs ≡ suc (length left)

abbrev pub Picks : (Leg → Bool) → List Leg → Option (Leg × List Leg) → Type 0
Picks passes legs None = (x : Leg) → IsAmong x legs → passes x ≡ true → ⊥
Picks passes legs (Some (leg, left)) = IsPicked passes legs leg left

pub picks : (passes : Leg → Bool) (legs : List Leg) → Picks passes legs (first_and_others passes legs)
picks passes [] = λ x here e. here
picks passes (leg ∷ legs) =
    by (passes leg) refl (first_and_others passes legs) (picks passes legs)
  where
    none : passes leg ≡ false → ((x : Leg) → IsAmong x legs → passes x ≡ true → ⊥)
        → (x : Leg) → IsAmong x (leg ∷ legs) → passes x ≡ true → ⊥
    none fails h x (inl same) e =
        absurd (let both : false ≡ true = sym fails ∙ ap passes (sym same) ∙ e in cc)
    none fails h x (inr here) e = h x here e

    back : (found : Leg) (left : List Leg) → IsPicked passes legs found left
        → (x : Leg) → IsAmong x (leg ∷ left) → IsAmong x (leg ∷ legs)
    back found left h x (inl same) = inl same
    back found left h x (inr here) = inr (h.back x here)

    later : (found x : Leg) (left : List Leg) → (x ≡ found) ⊎ IsAmong x left
        → (x ≡ found) ⊎ IsAmong x (leg ∷ left)
    later found x left (inl same) = inl same
    later found x left (inr here) = inr (inr here)

    parts : (found : Leg) (left : List Leg) → IsPicked passes legs found left
        → (x : Leg) → IsAmong x (leg ∷ legs) → (x ≡ found) ⊎ IsAmong x (leg ∷ left)
    parts found left h x (inl same) = inr (inl same)
    parts found left h x (inr here) = later found x left (h.parts x here)

    more : (o : Option (Leg × List Leg)) → passes leg ≡ false → Picks passes legs o
        → Picks passes (leg ∷ legs) (with_other leg o)
    more None e h = none e h
    more (Some (found, left)) e h = record {
      passed = h.passed;
      here = inr h.here;
      back = back found left h;
      parts = parts found left h;
      size = ap suc h.size;
    }

    by : (t : Bool) → passes leg ≡ t → (o : Option (Leg × List Leg)) → Picks passes legs o
        → Picks passes (leg ∷ legs) (if t then Some (leg, legs) else with_other leg o)
    by true e o h = record {
      passed = e;
      here = inl refl;
      back = λ x here. inr here;
      parts = λ x here. here;
      size = refl;
    }
    by false e o h = more o e h

-- ---- a line

-- the leg is the only one of these that passes a test, and is none of those behind it
pub record IsOnly (passes : Leg → Bool) (legs : List Leg) (leg : Leg) (line : List Leg)
    : Type 0 where
  pub passed : passes leg ≡ true
  pub here : IsAmong leg legs
  pub only : (x : Leg) → IsAmong x legs → passes x ≡ true → x ≡ leg
  pub apart : AllByRecursion (λ (later : Leg). later ≡ leg → ⊥) line

abbrev pub IsLinked : List Leg → Cookie → List Leg → Type 0
IsLinked legs newest [] = (x : Leg) → IsAmong x legs → replaces newest x ≡ true → ⊥
IsLinked legs newest (leg ∷ line) =
    IsOnly (replaces newest) legs leg line × IsLinked legs leg.newest line

abbrev pub IsLine : List Leg → List Leg → Type 0
IsLine legs [] = (x : Leg) → IsAmong x legs → connects x ≡ true → ⊥
IsLine legs (leg ∷ line) = IsOnly connects legs leg line × IsLinked legs leg.newest line

-- ---- where a leg is taken out

module _ (legs left : List Leg) (gone : Leg)
    (back : (x : Leg) → IsAmong x left → IsAmong x legs)
    (parts : (x : Leg) → IsAmong x legs → (x ≡ gone) ⊎ IsAmong x left) where
  stays : (x : Leg) → (x ≡ gone → ⊥) → (x ≡ gone) ⊎ IsAmong x left → IsAmong x left
  stays x other (inl same) = absurd (other same)
  stays x other (inr here) = here

  pub still_linked : (newest : Cookie) (line : List Leg)
      → AllByRecursion (λ (later : Leg). later ≡ gone → ⊥) line → IsLinked legs newest line
      → IsLinked left newest line
  still_linked newest [] others h = λ x here e. h x (back x here) e
  still_linked newest (leg ∷ line) others h = (
    record {
      passed = h.0.passed;
      here = stays leg others.0 (parts leg h.0.here);
      only = λ x here e. h.0.only x (back x here) e;
      apart = h.0.apart;
    },
    still_linked leg.newest line others.1 h.1,
  )

-- ---- the chain is the line

module _ (passes : Leg → Bool) (legs : List Leg) (more : Leg → List Leg → List Leg)
    (first : Leg) (line : List Leg) (is : IsOnly passes legs first line)
    (linked : IsLinked legs first.newest line)
    (on : (leg : Leg) (left : List Leg) → length legs ≡ suc (length left)
    → IsLinked left leg.newest line → more leg left ≡ line) where
  pub begun : next_by more (first_and_others passes legs) ≡ first ∷ line
  begun = by (first_and_others passes legs) (picks passes legs)
    where
      by : (o : Option (Leg × List Leg)) → Picks passes legs o → next_by more o ≡ first ∷ line
      by None h = absurd (h first is.here is.passed)
      by (Some (leg, left)) h =
          let same : leg ≡ first = is.only leg h.here h.passed in
          let P : Leg → Type 0 = λ x. IsLinked legs x.newest line in
          let Q : Leg → Type 0 = λ x. AllByRecursion (λ (later : Leg). later ≡ x → ⊥) line in
          let still = still_linked legs left leg h.back h.parts leg.newest line
          (subst Q (sym same) is.apart) (subst P (sym same) linked) in
          ap (λ (x : List Leg). leg ∷ x) (on leg left h.size still)
          ∙ ap (λ (x : Leg). x ∷ line) same

none_begun : (passes : Leg → Bool) (legs : List Leg) (more : Leg → List Leg → List Leg)
    → ((x : Leg) → IsAmong x legs → passes x ≡ true → ⊥)
    → next_by more (first_and_others passes legs) ≡ []
none_begun passes legs more none = by (first_and_others passes legs) (picks passes legs)
  where
    by : (o : Option (Leg × List Leg)) → Picks passes legs o → next_by more o ≡ []
    by None h = refl
    by (Some (leg, left)) h = absurd (none leg h.here h.passed)

follow_is : (n : ℕ) (newest : Cookie) (legs line : List Leg) → length legs ≤ n
    → IsLinked legs newest line → follow n newest legs ≡ line
follow_is zero newest [] [] fits h = refl
follow_is zero newest [] (leg ∷ line) fits h = absurd h.0.here
follow_is zero newest (leg ∷ legs) line fits h = absurd (omega (arith, fits))
follow_is (suc n) newest legs [] fits h =
    none_begun (replaces newest) legs (λ leg left. follow n leg.newest left) h
follow_is (suc n) newest legs (leg ∷ line) fits h =
    begun (replaces newest) legs (λ leg left. follow n leg.newest left) leg line h.0 h.1
    (λ next left size linked.
    follow_is n next.newest left line (omega (arith, fits, size)) linked)

pub chain_is : (legs line : List Leg) → IsLine legs line → chain legs ≡ line
unfolding chain
chain_is legs [] h =
    none_begun connects legs (λ leg left. follow (length left) leg.newest left) h
chain_is legs (leg ∷ line) h =
    begun connects legs (λ next left. follow (length left) next.newest left) leg line h.0 h.1
    (λ next left size linked.
    follow_is (length left) next.newest left line (omega arith) linked)
