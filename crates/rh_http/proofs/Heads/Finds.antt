-- what an optional value tells
use Rattle.std.proofs.Common.{◌≡◌, Bool, true, List, [], ◌∷◌, ℕ, Option, Some, None, sym, ap, ◌∙◌, refl, inl, inr, ◌⊎◌}
use Rattle.std.proofs.lemmas.Option.{cond_some}
use Rattle.rh_http.specs.Heads.Readers.{read_as, where_it, or_else, and_then, meant, all_of, Reader}
use Rattle.rh_http.specs.Heads.Steps.{only_if, taken}

-- it is there exactly where something is such, and is that
pub record Finds {A : Type 0} (o : Option A) (P : A → Type 0) : Type 0 where
  pub finds : (a : A) → P a → o ≡ Some a
  pub found : (a : A) → o ≡ Some a → P a

pub some_is : {A : Type 0} (a b : A) → Some a ≡ Some b → a ≡ b
some_is a b e = cc

pub none_is_some : {A : Type 0} (a : A) → None ≡ Some a → ⊥
none_is_some a e = cc

-- what has no value is none
pub none_from : {A : Type 0} (o : Option A) → ((a : A) → o ≡ Some a → ⊥) → o ≡ None
none_from None never = refl
none_from (Some a) never = absurd (never a refl)

pub finds_none : {A : Type 0} {P : A → Type 0} (o : Option A) → Finds o P → ((a : A) → ¬ P a)
    → o ≡ None
finds_none o h never = none_from o (λ a e. never a (h.found a e))

pub Finds-like : {A : Type 0} {P Q : A → Type 0} (o : Option A) → Finds o P
    → ((a : A) → Q a → P a) → ((a : A) → P a → Q a) → Finds o Q
Finds-like o h there back = record {
  finds = λ a q. h.finds a (there a q);
  found = λ a e. back a (h.found a e);
}

-- ---- tests

pub only_if_some : {A : Type 0} (b : Bool) (x a : A) → only_if b x ≡ Some a → (b ≡ true) × (x ≡ a)
only_if_some b x a e = cond_some b x a e

pub taken_some : (may : ℕ → Bool) (o : Option ℕ) (n : ℕ) → taken may o ≡ Some n
    → (o ≡ Some n) × (may n ≡ true)
taken_some may None n e = absurd (none_is_some n e)
taken_some may (Some m) n e =
    let both = only_if_some (may m) m n e in
    (ap Some both.1, ap may (sym both.1) ∙ both.0)

pub Finds-taken : {P : ℕ → Type 0} (may : ℕ → Bool) (o : Option ℕ) → Finds o P
    → Finds (taken may o) (λ n. P n × (may n ≡ true))
Finds-taken may o h = record {
  finds = λ n p.
      ap (taken may) (h.finds n p.0) ∙ ap (λ b. only_if b n) p.1;
  found = λ n e. let both = taken_some may o n e in (h.found n both.0, both.1);
}

-- ---- readers

pub read_as_some : {A B : Type 0} (form : A → B) (o : Option (A × List ℕ)) (b : B) (rest : List ℕ)
    → read_as form o ≡ Some (b, rest) → (a : A) × (o ≡ Some (a, rest)) × (form a ≡ b)
read_as_some form None b rest e = absurd (none_is_some (b, rest) e)
read_as_some form (Some found) b rest e =
    let same = some_is (form found.0, found.1) (b, rest) e in
    (found.0, ap (λ r. Some (found.0, r)) (ap (λ x. x.1) same), ap (λ x. x.0) same)

pub where_it_some : {A : Type 0} (passes : A → Bool) (o : Option (A × List ℕ)) (a : A)
    (rest : List ℕ)
    → where_it passes o ≡ Some (a, rest) → (o ≡ Some (a, rest)) × (passes a ≡ true)
where_it_some passes None a rest e = absurd (none_is_some (a, rest) e)
where_it_some passes (Some found) a rest e =
    let both = cond_some (passes found.0) found (a, rest) e in
    (ap Some both.1, ap (λ x. passes x.0) (sym both.1) ∙ both.0)

pub or_else_some : {A : Type 0} (o other : Option (A × List ℕ)) (x : A × List ℕ)
    → or_else o other ≡ Some x → (o ≡ Some x) ⊎ (other ≡ Some x)
or_else_some None other x e = inr e
or_else_some (Some found) other x e = inl e

pub and_then_some : {A B : Type 0} (o : Option (A × List ℕ)) (next : Reader B) (ab : A × B)
    (rest : List ℕ)
    → and_then o next ≡ Some (ab, rest)
    → (middle : List ℕ) × (o ≡ Some (ab.0, middle)) × (next middle ≡ Some (ab.1, rest))
and_then_some None next ab rest e = absurd (none_is_some (ab, rest) e)
and_then_some (Some found) next ab rest e =
    let read = read_as_some (λ b. (found.0, b)) (next found.1) ab rest e in (
      found.1,
      ap (λ x. Some (x.0, found.1)) read.2,
      read.1 ∙ ap (λ x. Some (x.1, rest)) read.2,
    )

pub meant_some : {A : Type 0} (meaning a : A) (o : Option (List ℕ)) (rest : List ℕ)
    → meant meaning o ≡ Some (a, rest) → (a ≡ meaning) × (o ≡ Some rest)
meant_some meaning a None rest e = absurd (none_is_some (a, rest) e)
meant_some meaning a (Some r) rest e =
    let same = some_is (meaning, r) (a, rest) e in
    (ap (λ x. x.0) (sym same), ap (λ x. Some x.1) same)

pub all_of_some : {A : Type 0} (o : Option (A × List ℕ)) (a : A) → all_of o ≡ Some a
    → o ≡ Some (a, [])
all_of_some None a e = absurd (none_is_some a e)
all_of_some (Some (found, [])) a e = ap (λ x. Some (x, [])) (some_is found a e)
all_of_some (Some (found, b ∷ rest)) a e = absurd (none_is_some a e)
