-- the legs of tags
use Rattle.std.proofs.Common.{◌≡◌, ◌⊎◌, inl, inr, ℕ, List, [], ◌∷◌, ◌++◌, Bool, true, false, refl, sym, ap, subst, arith}
use Rattle.std.specs.Prelude.{◌==◌, ◌||◌}
use Rattle.std.specs.List.{flat_map, list_any}
use Rattle.std.proofs.lemmas.Bool.Decides.{nat_tests}
use Rattle.rh_audit.specs.Audits.{has}
use Rattle.rh_audit.specs.Chains.{Leg}
use Rattle.law_audit.specs.Chains.Successors.{IsTag}
use Rattle.law_audit.proofs.Chains.Lines.{IsAmong}

-- ---- legs of two lists

pub among_front : (x : Leg) (a b : List Leg) → IsAmong x a → IsAmong x (a ++ b)
among_front x [] b h = absurd h
among_front x (leg ∷ a) b (inl same) = inl same
among_front x (leg ∷ a) b (inr h) = inr (among_front x a b h)

pub among_later : (x : Leg) (a b : List Leg) → IsAmong x b → IsAmong x (a ++ b)
among_later x [] b h = h
among_later x (leg ∷ a) b h = inr (among_later x a b h)

pub among_parts : (x : Leg) (a b : List Leg) → IsAmong x (a ++ b) → IsAmong x a ⊎ IsAmong x b
among_parts x [] b h = inr h
among_parts x (leg ∷ a) b (inl same) = inl (inl same)
among_parts x (leg ∷ a) b (inr h) = by (among_parts x a b h)
  where
    by : IsAmong x a ⊎ IsAmong x b → IsAmong x (leg ∷ a) ⊎ IsAmong x b
    by (inl here) = inl (inr here)
    by (inr here) = inr here

-- ---- of all tags

pub record IsOfTag (f : ℕ → List Leg) (tags : List ℕ) (x : Leg) : Type 0 where
  pub tag : ℕ
  pub is : IsTag tag tags
  pub here : IsAmong x (f tag)

same_tag : (t : ℕ) → (t == t) ≡ true
same_tag t = grind (arith, nat_tests)

or_more : (b c : Bool) → c ≡ true → (b || c) ≡ true
or_more true c e = refl
or_more false c e = e

pub of_tag : (f : ℕ → List Leg) (tags : List ℕ) (x : Leg) → IsAmong x (flat_map f tags)
    → IsOfTag f tags x
of_tag f [] x h = absurd h
of_tag f (t ∷ tags) x h = by (among_parts x (f t) (flat_map f tags) h) (of_tag f tags x)
  where
    by : IsAmong x (f t) ⊎ IsAmong x (flat_map f tags)
        → (IsAmong x (flat_map f tags) → IsOfTag f tags x) → IsOfTag f (t ∷ tags) x
    by (inl here) rest = record {
      tag = t;
      is = ap (λ (b : Bool). b || list_any (λ other. other == t) tags) (same_tag t);
      here = here;
    }
    by (inr later) rest =
        let more = rest later in record {
          tag = more.tag;
          is = or_more (t == more.tag) (list_any (λ other. other == more.tag) tags) more.is;
          here = more.here;
        }

pub in_tags : (f : ℕ → List Leg) (tags : List ℕ) (x : Leg) (tag : ℕ) → IsTag tag tags
    → IsAmong x (f tag) → IsAmong x (flat_map f tags)
in_tags f [] x tag is here = absurd cc
in_tags f (t ∷ tags) x tag is here =
    by (t == tag) refl is (λ more. in_tags f tags x tag more here)
  where
    by : (b : Bool) → (t == tag) ≡ b → (b || list_any (λ other. other == tag) tags) ≡ true
        → (IsTag tag tags → IsAmong x (flat_map f tags)) → IsAmong x (f t ++ flat_map f tags)
    by true e either rest =
        let same : tag ≡ t = grind (arith, nat_tests, e) in
        among_front x (f t) (flat_map f tags) (subst (λ (k : ℕ). IsAmong x (f k)) same here)
    by false e either rest = among_later x (f t) (flat_map f tags) (rest either)

-- a leg is there with its tag
pub has_among : (x : Leg) (legs : List Leg) → IsAmong x legs → has x.tag legs ≡ true
has_among x [] h = absurd h
has_among x (leg ∷ legs) (inl same) =
    let e : leg.tag ≡ x.tag = ap (λ (l : Leg). l.tag) (sym same) in
    let test : (leg.tag == x.tag) ≡ true = grind (arith, nat_tests, e) in
    ap (λ (b : Bool). b || has x.tag legs) test
has_among x (leg ∷ legs) (inr h) = or_more (leg.tag == x.tag) (has x.tag legs) (has_among x legs h)
