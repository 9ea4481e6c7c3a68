-- the tags of legs
use Rattle.std.proofs.Common.{◌≡◌, ℕ, suc, ◌+◌, List, [], ◌∷◌, ◌++◌, length, Bool, true, false, Some, None, refl, sym, ap, ◌∙◌, arith}
use Rattle.std.specs.Prelude.{◌==◌, ◌&&◌, cond, if◌then◌else◌}
use Rattle.std.proofs.lemmas.Bool.Decides.{nat_tests}
use Rattle.std.specs.declared.option.Option.{Option}
use Rattle.rh_line.specs.declared.leg.Leg.{Leg}
use Rattle.rh_line.specs.declared.leg.LegKind.{LegKind}
use Rattle.rh_line.specs.declared.leg.LegKind.TheVariants.{ClientOut, OutServer, ClientIn, InServer}
use Rattle.rh_audit.specs.Links.{same_kind}
use Rattle.rh_capture.specs.declared.numbers.Numbers.{Numbers}
use Rattle.rh_capture.specs.Legs.{same_leg, tag_of, with_leg}
use Rattle.rh_capture.specs.Numbers.{AreTags, number_of, tag_among}

pub same_kind_is : (a b : LegKind) → same_kind a b ≡ true → a ≡ b
same_kind_is ClientIn ClientIn h = refl
same_kind_is InServer InServer h = refl
same_kind_is ClientOut ClientOut h = refl
same_kind_is OutServer OutServer h = refl
same_kind_is _ _ h = absurd (let both = h in cc)

abbrev leg_of : LegKind → ℕ → Leg
leg_of kind number = record { kind = kind; number = number }

pub same_leg_is : (a b : Leg) → same_leg a b ≡ true → a ≡ b
same_leg_is a b h = by (same_kind a.kind b.kind) refl (a.number == b.number) refl h
  where
    by : (t : Bool) → same_kind a.kind b.kind ≡ t → (u : Bool) → (a.number == b.number) ≡ u
        → (t && u) ≡ true → a ≡ b
    by true e true f h =
        let kinds = same_kind_is a.kind b.kind e in
        let numbers : a.number ≡ b.number = grind (arith, nat_tests, f) in
        ap (λ (k : LegKind). leg_of k a.number) kinds
        ∙ ap (λ (n : ℕ). leg_of b.kind n) numbers
    by true e false f h = absurd (cc)
    by false e u f h = absurd (cc)

-- a leg that was met has its place, and those that were met stay
pub tag_met : (k : ℕ) (legs : List Leg) (leg : Leg) (tag : ℕ) → tag_among k legs leg ≡ Some tag
    → (tag + 1 ≡ k + tag_of legs leg) × (with_leg legs leg ≡ legs)
tag_met k [] leg tag h = absurd (cc)
tag_met k (one ∷ legs) leg tag h = by (same_leg one leg) h (tag_met (suc k) legs leg tag)
  where
    by : (t : Bool) → cond t (Some k) (tag_among (suc k) legs leg) ≡ Some tag
        → (tag_among (suc k) legs leg ≡ Some tag
        → (tag + 1 ≡ suc k + tag_of legs leg) × (with_leg legs leg ≡ legs))
        → (tag + 1 ≡ k + cond t 1 (suc (tag_of legs leg)))
        × (cond t (one ∷ legs) (one ∷ with_leg legs leg) ≡ one ∷ legs)
    by true h later = let is : k ≡ tag = cc in (omega (arith, is), refl)
    by false h later =
        let rest = later h in (omega (arith, rest.0), ap (λ (x : List Leg). one ∷ x) rest.1)

-- one that was not is the next
pub tag_new : (k : ℕ) (legs : List Leg) (leg : Leg) → tag_among k legs leg ≡ None
    → (tag_of legs leg ≡ length legs + 1) × (with_leg legs leg ≡ legs ++ leg ∷ [])
tag_new k [] leg h = (refl, refl)
tag_new k (one ∷ legs) leg h = by (same_leg one leg) h (tag_new (suc k) legs leg)
  where
    by : (t : Bool) → cond t (Some k) (tag_among (suc k) legs leg) ≡ None
        → (tag_among (suc k) legs leg ≡ None
        → (tag_of legs leg ≡ length legs + 1) × (with_leg legs leg ≡ legs ++ leg ∷ []))
        → (cond t 1 (suc (tag_of legs leg)) ≡ suc (length legs) + 1)
        × (cond t (one ∷ legs) (one ∷ with_leg legs leg) ≡ one ∷ (legs ++ leg ∷ []))
    by true h later = absurd (cc)
    by false h later =
        let rest = later h in (omega (arith, rest.0), ap (λ (x : List Leg). one ∷ x) rest.1)

-- the tags of the legs and of the next one
tags_next : (k : ℕ) (legs : List Leg) (leg other : Leg) → tag_among k legs leg ≡ None
    → tag_among k (legs ++ leg ∷ []) other
    ≡ cond (same_leg leg other) (Some (k + length legs)) (tag_among k legs other)
tags_next k [] leg other h =
    let is : k ≡ k + 0 = omega arith in
    ap (λ (n : ℕ). cond (same_leg leg other) (Some n) None) is
tags_next k (one ∷ legs) leg other h =
    by (same_leg one leg) refl h (same_leg one other) refl (same_leg leg other) refl
    (tags_next (suc k) legs leg other)
  where
    by : (s : Bool) → same_leg one leg ≡ s → cond s (Some k) (tag_among (suc k) legs leg) ≡ None
        → (t : Bool) → same_leg one other ≡ t → (u : Bool) → same_leg leg other ≡ u
        → (tag_among (suc k) legs leg ≡ None
        → tag_among (suc k) (legs ++ leg ∷ []) other
        ≡ cond (same_leg leg other) (Some (suc k + length legs)) (tag_among (suc k) legs other))
        → cond t (Some k) (tag_among (suc k) (legs ++ leg ∷ []) other)
        ≡ cond u (Some (k + suc (length legs)))
        (cond t (Some k) (tag_among (suc k) legs other))
    by true e h t f u g later = absurd (cc)
    by false e h true f true g later =
        let a = same_leg_is one other f in
        let b = same_leg_is leg other g in absurd (cc)
    by false e h true f false g later = refl
    by false e h false f true g later =
        let n : suc k + length legs ≡ k + suc (length legs) = omega arith in
        let is = later h in cc
    by false e h false f false g later = let is = later h in cc

pub tags_more : (legs now : List Leg) (leg : Leg) (tag : ℕ) (before after : Numbers)
    → AreTags legs before → tag_among 1 legs leg ≡ None → tag ≡ length legs + 1
    → now ≡ legs ++ leg ∷ []
    → ((other : Leg) → number_of after other
    ≡ (if same_leg leg other then Some tag else number_of before other))
    → AreTags now after
tags_more legs now leg tag before after h none is all put other =
    let n : tag ≡ 1 + length legs = omega (arith, is) in
    put other ∙ ap (λ (o : Option ℕ). cond (same_leg leg other) (Some tag) o) (h other)
    ∙ ap (λ (m : ℕ). cond (same_leg leg other) (Some m) (tag_among 1 legs other)) n
    ∙ sym (tags_next 1 legs leg other none)
    ∙ ap (λ (l : List Leg). tag_among 1 l other) (sym all)
