-- the tags of legs that are met
use Rattle.law_order.proofs.Vocabulary.{◌≡◌, ◌==◌, ℕ, suc, ◌<◌, List, [], ◌∷◌, Bool, true, false, ◌||◌, ◌&&◌, cond, arith, refl, sym, ap, ◌∙◌, or_left, or_right, eq-eqb, eqb-true}
use Rattle.law_order.proofs.ByNumber.{by_test}
use Rattle.rh_line.specs.declared.leg.Leg.{Leg}
use Rattle.rh_line.specs.declared.leg.LegKind.{LegKind}
use Rattle.rh_line.specs.declared.leg.LegKind.TheVariants.{ClientOut, OutServer, ClientIn, InServer}
use Rattle.rh_audit.specs.Links.{same_kind}
use Rattle.rh_capture.specs.Legs.{same_leg, tag_of, with_leg}
use Rattle.law_world_audited.specs.Moving.Tagged.{is_met}

-- ---- legs that are the same

abbrev leg_of : LegKind → ℕ → Leg
leg_of kind number = record { kind = kind; number = number }

pub same_kinds : (a b : LegKind) → same_kind a b ≡ true → a ≡ b
same_kinds ClientIn ClientIn h = refl
same_kinds InServer InServer h = refl
same_kinds ClientOut ClientOut h = refl
same_kinds OutServer OutServer h = refl
same_kinds a b h = absurd cc

pub kind_itself : (kind : LegKind) → same_kind kind kind ≡ true
kind_itself ClientIn = refl
kind_itself InServer = refl
kind_itself ClientOut = refl
kind_itself OutServer = refl

pub are_same : (a b : Leg) → same_leg a b ≡ true → a ≡ b
are_same a b h =
    by (same_kind a.kind b.kind) (a.number == b.number) h (same_kinds a.kind b.kind)
    (eqb-true a.number b.number)
  where
    by : (t u : Bool) → (t && u) ≡ true → (t ≡ true → a.kind ≡ b.kind)
        → (u ≡ true → a.number ≡ b.number) → a ≡ b
    by true true h kinds numbers =
        ap (λ (kind : LegKind). leg_of kind a.number) (kinds refl)
        ∙ ap (leg_of b.kind) (numbers refl)
    by true false h kinds numbers = absurd cc
    by false u h kinds numbers = absurd cc

pub same_itself : (leg : Leg) → same_leg leg leg ≡ true
same_itself leg =
    ap (λ b. b && (leg.number == leg.number)) (kind_itself leg.kind)
    ∙ eq-eqb leg.number leg.number refl

-- ---- legs that are met stay so, with their tags

pub tag_stays : (legs : List Leg) (one leg : Leg) → is_met legs leg ≡ true
    → tag_of (with_leg legs one) leg ≡ tag_of legs leg
tag_stays [] one leg met = absurd cc
tag_stays (first ∷ legs) one leg met =
    by_test (λ (all : List Leg). tag_of all leg ≡ tag_of (first ∷ legs) leg) (same_leg first one)
    (first ∷ legs) (first ∷ with_leg legs one) (λ e. refl)
    (λ e. behind (same_leg first leg) met (tag_stays legs one leg))
  where
    behind : (t : Bool) → (t || is_met legs leg) ≡ true
        → (is_met legs leg ≡ true → tag_of (with_leg legs one) leg ≡ tag_of legs leg)
        → cond t 1 (suc (tag_of (with_leg legs one) leg)) ≡ cond t 1 (suc (tag_of legs leg))
    behind true met later = refl
    behind false met later = ap suc (later met)

pub met_stays : (legs : List Leg) (one leg : Leg) → is_met legs leg ≡ true
    → is_met (with_leg legs one) leg ≡ true
met_stays [] one leg met = absurd cc
met_stays (first ∷ legs) one leg met =
    by_test (λ (all : List Leg). is_met all leg ≡ true) (same_leg first one) (first ∷ legs)
    (first ∷ with_leg legs one) (λ e. met)
    (λ e. behind (same_leg first leg) met (met_stays legs one leg))
  where
    behind : (t : Bool) → (t || is_met legs leg) ≡ true
        → (is_met legs leg ≡ true → is_met (with_leg legs one) leg ≡ true)
        → (t || is_met (with_leg legs one) leg) ≡ true
    behind true met later = refl
    behind false met later = later met

-- the one that is met then
pub tag_with : (legs : List Leg) (leg : Leg) → tag_of (with_leg legs leg) leg ≡ tag_of legs leg
tag_with [] leg = ap (λ b. cond b 1 2) (same_itself leg)
tag_with (first ∷ legs) leg =
    by_test (λ (all : List Leg). tag_of all leg ≡ tag_of (first ∷ legs) leg) (same_leg first leg)
    (first ∷ legs) (first ∷ with_leg legs leg) (λ e. refl)
    (λ e. ap (λ n. cond (same_leg first leg) 1 (suc n)) (tag_with legs leg))

pub met_with : (legs : List Leg) (leg : Leg) → is_met (with_leg legs leg) leg ≡ true
met_with [] leg = or_left (same_leg leg leg) false (same_itself leg)
met_with (first ∷ legs) leg =
    by_test (λ (all : List Leg). is_met all leg ≡ true) (same_leg first leg) (first ∷ legs)
    (first ∷ with_leg legs leg) (λ e. or_left (same_leg first leg) (is_met legs leg) e)
    (λ e. or_right (same_leg first leg) (is_met (with_leg legs leg) leg) (met_with legs leg))

-- ---- no two have one tag

positive : (legs : List Leg) (leg : Leg) → 0 < tag_of legs leg
positive [] leg = omega arith
positive (first ∷ legs) leg =
    by_test (λ n. 0 < n) (same_leg first leg) 1 (suc (tag_of legs leg)) (λ e. omega arith)
    (λ e. omega arith)

pub tags_differ : (legs : List Leg) (leg other : Leg) → is_met legs leg ≡ true
    → tag_of legs leg ≡ tag_of legs other → leg ≡ other
tags_differ [] leg other met same = absurd cc
tags_differ (first ∷ legs) leg other met same =
    by (same_leg first leg) (same_leg first other) refl refl met same
    (tags_differ legs leg other)
  where
    by : (s t : Bool) → same_leg first leg ≡ s → same_leg first other ≡ t
        → (s || is_met legs leg) ≡ true
        → cond s 1 (suc (tag_of legs leg)) ≡ cond t 1 (suc (tag_of legs other))
        → (is_met legs leg ≡ true → tag_of legs leg ≡ tag_of legs other → leg ≡ other)
        → leg ≡ other
    by true true e f met same later = sym (are_same first leg e) ∙ are_same first other f
    by true false e f met same later =
        let other_is = positive legs other in absurd (omega (arith, other_is, same))
    by false true e f met same later =
        let leg_is = positive legs leg in absurd (omega (arith, leg_is, same))
    by false false e f met same later = later met (omega (arith, same))
