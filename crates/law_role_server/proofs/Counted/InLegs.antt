-- the is legs that a server keeps: one of them changes or is gone
use Rattle.law_order.proofs.Vocabulary.{◌≡◌, ℕ, suc, ◌+◌, ◌<◌, ◌≤◌, ◌==◌, ◌&&◌, cond, nat_lt, Bool, true, false, true≢false, not, if◌then◌else◌, List, [], ◌∷◌, ◌++◌, length, Some, None, arith, refl, sym, ap, ◌∙◌, subst, or_parts, nat_tests, position, AllByRecursion, position_or_len, Option}
use Rattle.law_moves.proofs.Vocabulary.{test_same, test_other}
use Rattle.law_role_server.proofs.Vocabulary.{InLeg, is_fresh, is_waiting, in_place, in_at, set_at, removed_at, is_fresh_below, has_fresh_below, how_many}

-- ---- places

abbrev pub next_place : Option ℕ → Option ℕ
next_place None = None
next_place (Some place) = Some (suc place)

pub place_step : {X : Type 0} (test : X → Bool) (x : X) (xs : List X)
    → position test (x ∷ xs) ≡ cond (test x) (Some 0) (next_place (position test xs))
place_step test x xs = by (test x)
  where
    is_there : (n : ℕ) → nat_lt 0 (suc n) ≡ true
    is_there n = grind (arith, nat_tests)

    further : (a b : ℕ) (t u : Bool) → nat_lt a b ≡ t → nat_lt (1 + a) (suc b) ≡ u
        → cond u (Some (1 + a)) None ≡ next_place (cond t (Some a) None)
    further a b true true e f = ap (λ (n : ℕ). Some n) (omega arith)
    further a b false false e f = refl
    further a b true false e f = absurd (grind (arith, nat_tests))
    further a b false true e f = absurd (grind (arith, nat_tests))

    by : (b : Bool)
        → cond (nat_lt (cond (not b) (1 + position_or_len test xs) 0) (length (x ∷ xs)))
        (Some (cond (not b) (1 + position_or_len test xs) 0)) None
        ≡ cond b (Some 0) (next_place (position test xs))
    by true = ap (λ t. cond t (Some 0) None) (is_there (length xs))
    by false = further (position_or_len test xs) (length xs)
        (nat_lt (position_or_len test xs) (length xs))
        (nat_lt (1 + position_or_len test xs) (suc (length xs))) refl refl

set_further : (legs : List InLeg) (leg y : InLeg) (place : Option ℕ)
    → set_at (leg ∷ legs) y (next_place place) ≡ leg ∷ set_at legs y place
set_further legs leg y None = refl
set_further legs leg y (Some place) = refl

removed_further : (legs : List InLeg) (leg : InLeg) (place : Option ℕ)
    → removed_at (leg ∷ legs) (next_place place) ≡ leg ∷ removed_at legs place
removed_further legs leg None = refl
removed_further legs leg (Some place) = refl

at_further : (legs : List InLeg) (leg : InLeg) (place : Option ℕ)
    → in_at (leg ∷ legs) (next_place place) ≡ in_at legs place
at_further legs leg None = refl
at_further legs leg (Some place) = refl

-- ---- the first that passes a test

pub record IsFound (test : InLeg → Bool) (legs : List InLeg) (x : InLeg) : Type 0 where
  pub before : List InLeg
  pub behind : List InLeg
  pub joined : legs ≡ before ++ x ∷ behind
  pub set : (y : InLeg) → set_at legs y (position test legs) ≡ before ++ y ∷ behind
  pub removed : removed_at legs (position test legs) ≡ before ++ behind
  pub earlier : AllByRecursion (λ (z : InLeg). test z ≡ false) before
  pub passes : test x ≡ true

-- it is found, or none passes and the legs stay
abbrev pub IsFoundAs : (InLeg → Bool) → List InLeg → Option InLeg → Type 0
IsFoundAs test legs None =
    AllByRecursion (λ (z : InLeg). test z ≡ false) legs
    × (removed_at legs (position test legs) ≡ legs)
IsFoundAs test legs (Some x) = IsFound test legs x

pub found : (test : InLeg → Bool) (legs : List InLeg)
    → IsFoundAs test legs (in_at legs (position test legs))
found test [] = (tt, refl)
found test (leg ∷ legs) =
    subst (λ (o : Option InLeg). IsFoundAs test (leg ∷ legs) o)
    (sym (ap (in_at (leg ∷ legs)) (place_step test leg legs)))
    (by (test leg) refl (found test legs))
  where
    all : Option ℕ
    all = position test (leg ∷ legs)

    here : test leg ≡ true → IsFound test (leg ∷ legs) leg
    here e =
        let place : all ≡ Some 0 =
        place_step test leg legs
        ∙ ap (λ (b : Bool). cond b (Some 0) (next_place (position test legs))) e in record {
          before = [];
          behind = legs;
          joined = refl;
          set = λ y. ap (set_at (leg ∷ legs) y) place;
          removed = ap (λ (o : Option ℕ). removed_at (leg ∷ legs) o) place;
          earlier = tt;
          passes = e;
        }

    beyond : test leg ≡ false → all ≡ next_place (position test legs)
    beyond e =
        place_step test leg legs
        ∙ ap (λ (b : Bool). cond b (Some 0) (next_place (position test legs))) e

    later : test leg ≡ false → (o : Option InLeg) → IsFoundAs test legs o
        → IsFoundAs test (leg ∷ legs) o
    later e None rest = (
      (e, rest.0),
      ap (λ (o : Option ℕ). removed_at (leg ∷ legs) o) (beyond e)
          ∙ removed_further legs leg (position test legs)
          ∙ ap (λ (xs : List InLeg). leg ∷ xs) rest.1,
    )
    later e (Some x) rest = record {
      before = leg ∷ rest.before;
      behind = rest.behind;
      joined = ap (λ (xs : List InLeg). leg ∷ xs) rest.joined;
      set = λ y.
          ap (set_at (leg ∷ legs) y) (beyond e)
          ∙ set_further legs leg y (position test legs)
          ∙ ap (λ (xs : List InLeg). leg ∷ xs) (rest.set y);
      removed =
          ap (λ (o : Option ℕ). removed_at (leg ∷ legs) o) (beyond e)
          ∙ removed_further legs leg (position test legs)
          ∙ ap (λ (xs : List InLeg). leg ∷ xs) rest.removed;
      earlier = (e, rest.earlier);
      passes = rest.passes;
    }

    by : (b : Bool) → test leg ≡ b → IsFoundAs test legs (in_at legs (position test legs))
        → IsFoundAs test (leg ∷ legs)
        (in_at (leg ∷ legs) (cond b (Some 0) (next_place (position test legs))))
    by true e rest = here e
    by false e rest =
        subst (λ (o : Option InLeg). IsFoundAs test (leg ∷ legs) o)
        (sym (at_further legs leg (position test legs)))
        (later e (in_at legs (position test legs)) rest)

-- ---- in ascending order

-- the numbers are above low and at most high
abbrev pub Ascends : ℕ → ℕ → List InLeg → Type 0
Ascends low high [] = low ≤ high
Ascends low high (x ∷ xs) = (low < x.number) × Ascends x.number high xs

pub ascends_low : (low high : ℕ) (xs : List InLeg) → Ascends low high xs → low ≤ high
ascends_low low high [] s = s
ascends_low low high (x ∷ xs) s =
    let rest = ascends_low x.number high xs s.1 in omega (arith, s.0, rest)

pub ascends_higher : (low high more : ℕ) (xs : List InLeg) → high ≤ more → Ascends low high xs
    → Ascends low more xs
ascends_higher low high more [] h s = omega (arith, h, s)
ascends_higher low high more (x ∷ xs) h s = (s.0, ascends_higher x.number high more xs h s.1)

ascends_lower : (low less high : ℕ) (xs : List InLeg) → less ≤ low → Ascends low high xs
    → Ascends less high xs
ascends_lower low less high [] l s = omega (arith, l, s)
ascends_lower low less high (x ∷ xs) l s = (omega (arith, l, s.0), s.1)

pub ascends_push : (low high : ℕ) (y : InLeg) (xs : List InLeg) → high < y.number
    → Ascends low high xs → Ascends low y.number (xs ++ y ∷ [])
ascends_push low high y [] e s = (omega (arith, e, s), omega arith)
ascends_push low high y (x ∷ xs) e s = (s.0, ascends_push x.number high y xs e s.1)

pub ascends_set : (low high : ℕ) (x y : InLeg) (a b : List InLeg) → y.number ≡ x.number
    → Ascends low high (a ++ x ∷ b) → Ascends low high (a ++ y ∷ b)
ascends_set low high x y [] b same s =
    (omega (arith, same, s.0), subst (λ (n : ℕ). Ascends n high b) (sym same) s.1)
ascends_set low high x y (z ∷ a) b same s = (s.0, ascends_set z.number high x y a b same s.1)

pub ascends_removed : (low high : ℕ) (x : InLeg) (a b : List InLeg)
    → Ascends low high (a ++ x ∷ b) → Ascends low high (a ++ b)
ascends_removed low high x [] b s = ascends_lower x.number low high b (omega (arith, s.0)) s.1
ascends_removed low high x (z ∷ a) b s = (s.0, ascends_removed z.number high x a b s.1)

pub ascends_above : (low high : ℕ) (xs : List InLeg) → Ascends low high xs
    → AllByRecursion (λ (z : InLeg). low < z.number) xs
ascends_above low high [] s = tt
ascends_above low high (x ∷ xs) s =
    (s.0, ascends_above low high xs (ascends_lower x.number low high xs (omega (arith, s.0)) s.1))

pub ascends_within : (low high : ℕ) (x : InLeg) (a b : List InLeg)
    → Ascends low high (a ++ x ∷ b) → (low < x.number) × (x.number ≤ high)
ascends_within low high x [] b s = (s.0, ascends_low x.number high b s.1)
ascends_within low high x (z ∷ a) b s =
    let rest = ascends_within z.number high x a b s.1 in (omega (arith, s.0, rest.0), rest.1)

pub below_it : (low high : ℕ) (x : InLeg) (a b : List InLeg) → Ascends low high (a ++ x ∷ b)
    → AllByRecursion (λ (z : InLeg). z.number < x.number) a
below_it low high x [] b s = tt
below_it low high x (z ∷ a) b s =
    ((ascends_within z.number high x a b s.1).0, below_it z.number high x a b s.1)

pub above_it : (low high : ℕ) (x : InLeg) (a b : List InLeg) → Ascends low high (a ++ x ∷ b)
    → AllByRecursion (λ (z : InLeg). x.number < z.number) b
above_it low high x [] b s = ascends_above x.number high b s.1
above_it low high x (z ∷ a) b s = above_it z.number high x a b s.1

-- a leg is found by its number
pub set_by_number : (low high : ℕ) (x y : InLeg) (a b : List InLeg)
    → Ascends low high (a ++ x ∷ b)
    → set_at (a ++ x ∷ b) y (in_place x.number (a ++ x ∷ b)) ≡ a ++ y ∷ b
set_by_number low high x y [] b s =
    ap (set_at (x ∷ b) y) (place_step (λ (l : InLeg). l.number == x.number) x b
    ∙ ap (λ (t : Bool). cond t (Some 0) (next_place (in_place x.number b))) (test_same x.number))
set_by_number low high x y (z ∷ a) b s =
    let less = (ascends_within z.number high x a b s.1).0 in
    ap (set_at (z ∷ a ++ x ∷ b) y) (place_step (λ (l : InLeg). l.number == x.number) z (a ++ x ∷ b)
    ∙ ap (λ (t : Bool). cond t (Some 0) (next_place (in_place x.number (a ++ x ∷ b))))
    (test_other z.number x.number (λ e. omega (arith, e, less))))
    ∙ set_further (a ++ x ∷ b) z y (in_place x.number (a ++ x ∷ b))
    ∙ ap (λ (xs : List InLeg). z ∷ xs) (set_by_number z.number high x y a b s.1)

-- ---- what is so of each

module _ (P : InLeg → Type 0) where
  pub all_of : (x : InLeg) (a b : List InLeg) → AllByRecursion P (a ++ x ∷ b)
      → AllByRecursion P a × P x × AllByRecursion P b
  all_of x [] b all = (tt, all.0, all.1)
  all_of x (z ∷ a) b all =
      let rest = all_of x a b all.1 in ((all.0, rest.0), rest.1, rest.2)

  pub all_joined : (y : InLeg) (a b : List InLeg) → AllByRecursion P a → P y
      → AllByRecursion P b → AllByRecursion P (a ++ y ∷ b)
  all_joined y [] b all here rest = (here, rest)
  all_joined y (z ∷ a) b all here rest = (all.0, all_joined y a b all.1 here rest)

  pub all_removed : (x : InLeg) (a b : List InLeg) → AllByRecursion P (a ++ x ∷ b)
      → AllByRecursion P (a ++ b)
  all_removed x [] b all = all.1
  all_removed x (z ∷ a) b all = (all.0, all_removed x a b all.1)

pub each_of : (P R : InLeg → Type 0) → ((x : InLeg) → P x → R x) → (xs : List InLeg)
    → AllByRecursion P xs → AllByRecursion R xs
each_of P R so [] all = tt
each_of P R so (x ∷ xs) all = (so x all.0, each_of P R so xs all.1)

pub both_so : (P Q R : InLeg → Type 0) → ((x : InLeg) → P x → Q x → R x) → (xs : List InLeg)
    → AllByRecursion P xs → AllByRecursion Q xs → AllByRecursion R xs
both_so P Q R so [] all other = tt
both_so P Q R so (x ∷ xs) all other =
    (so x all.0 other.0, both_so P Q R so xs all.1 other.1)

-- ---- how many pass a test

abbrev pub one_leg : (InLeg → Bool) → InLeg → ℕ
one_leg test leg = if test leg then 1 else 0

pub many_step : (test : InLeg → Bool) (leg : InLeg) (legs : List InLeg)
    → how_many test (leg ∷ legs) ≡ how_many test legs + one_leg test leg
many_step test leg legs = by (test leg)
  where
    by : (b : Bool) → (if b then suc (how_many test legs) else how_many test legs)
        ≡ how_many test legs + (if b then 1 else 0)
    by true = omega arith
    by false = omega arith

pub many_joined : (test : InLeg → Bool) (x : InLeg) (a b : List InLeg)
    → how_many test (a ++ x ∷ b) ≡ how_many test (a ++ b) + one_leg test x
many_joined test x [] b = many_step test x b
many_joined test x (z ∷ a) b =
    let rest = many_joined test x a b in
    let more = many_step test z (a ++ x ∷ b) in
    let less = many_step test z (a ++ b) in omega (arith, rest, more, less)

pub many_pushed : (test : InLeg → Bool) (y : InLeg) (xs : List InLeg)
    → how_many test (xs ++ y ∷ []) ≡ how_many test xs + one_leg test y
many_pushed test y [] = many_step test y []
many_pushed test y (x ∷ xs) =
    let rest = many_pushed test y xs in
    let more = many_step test x (xs ++ y ∷ []) in
    let less = many_step test x xs in omega (arith, rest, more, less)

-- ---- no leg waits behind a fresh one

abbrev pub IsNoWaiting : InLeg → Type 0
IsNoWaiting leg = is_waiting leg.stage ≡ false

abbrev pub AreOrdered : List InLeg → Type 0
AreOrdered [] = Unit {0}
AreOrdered (leg ∷ legs) =
    (is_fresh leg.stage ≡ true → AllByRecursion IsNoWaiting legs) × AreOrdered legs

abbrev pub IsNoFresh : InLeg → Type 0
IsNoFresh leg = is_fresh leg.stage ≡ false

pub none_before : (x : InLeg) (a b : List InLeg) → is_waiting x.stage ≡ true
    → AreOrdered (a ++ x ∷ b) → AllByRecursion IsNoFresh a
none_before x [] b waits all = tt
none_before x (z ∷ a) b waits all = (by (is_fresh z.stage) refl, none_before x a b waits all.1)
  where
    by : (t : Bool) → is_fresh z.stage ≡ t → is_fresh z.stage ≡ false
    by false e = e
    by true e =
        absurd (true≢false (sym waits ∙ (all_of IsNoWaiting x a b (all.0 e)).1))

-- one that is no more fresh or waiting than it was
pub ordered_set : (x y : InLeg) (a b : List InLeg)
    → (is_waiting y.stage ≡ true → is_waiting x.stage ≡ true)
    → (is_fresh y.stage ≡ true → is_fresh x.stage ≡ true)
    → AreOrdered (a ++ x ∷ b) → AreOrdered (a ++ y ∷ b)
ordered_set x y [] b waits fresh all = (λ e. all.0 (fresh e), all.1)
ordered_set x y (z ∷ a) b waits fresh all =
    (λ e. still (all.0 e), ordered_set x y a b waits fresh all.1)
  where
    no_more : (t : Bool) → is_waiting y.stage ≡ t → is_waiting x.stage ≡ false
        → is_waiting y.stage ≡ false
    no_more true e f = absurd (true≢false (sym (waits e) ∙ f))
    no_more false e f = e

    still : AllByRecursion IsNoWaiting (a ++ x ∷ b) → AllByRecursion IsNoWaiting (a ++ y ∷ b)
    still none =
        let parts = all_of IsNoWaiting x a b none in
        all_joined IsNoWaiting y a b parts.0 (no_more (is_waiting y.stage) refl parts.1) parts.2

-- one that waits, before which none is fresh
pub ordered_waits : (x y : InLeg) (a b : List InLeg) → is_fresh y.stage ≡ false
    → AllByRecursion IsNoFresh a → AreOrdered (a ++ x ∷ b) → AreOrdered (a ++ y ∷ b)
ordered_waits x y [] b stale none all = (λ e. absurd (true≢false (sym e ∙ stale)), all.1)
ordered_waits x y (z ∷ a) b stale none all =
    (λ e. absurd (true≢false (sym e ∙ none.0)), ordered_waits x y a b stale none.1 all.1)

pub ordered_removed : (x : InLeg) (a b : List InLeg) → AreOrdered (a ++ x ∷ b)
    → AreOrdered (a ++ b)
ordered_removed x [] b all = all.1
ordered_removed x (z ∷ a) b all =
    (λ e. all_removed IsNoWaiting x a b (all.0 e), ordered_removed x a b all.1)

pub ordered_push : (y : InLeg) (xs : List InLeg) → is_waiting y.stage ≡ false → AreOrdered xs
    → AreOrdered (xs ++ y ∷ [])
ordered_push y [] calm all = (λ e. tt, tt)
ordered_push y (z ∷ xs) calm all = (λ e. more xs (all.0 e), ordered_push y xs calm all.1)
  where
    more : (xs : List InLeg) → AllByRecursion IsNoWaiting xs
        → AllByRecursion IsNoWaiting (xs ++ y ∷ [])
    more [] none = (calm, tt)
    more (w ∷ ws) none = (none.0, more ws none.1)

-- where no leg below a number is fresh
pub none_fresh_below : (n : ℕ) (x : InLeg) (a b : List InLeg)
    → has_fresh_below n (a ++ x ∷ b) ≡ false
    → AllByRecursion (λ (z : InLeg). z.number < n) a → AllByRecursion IsNoFresh a
none_fresh_below n x [] b none below = tt
none_fresh_below n x (z ∷ a) b none below =
    let parts = or_parts (is_fresh_below n z) (has_fresh_below n (a ++ x ∷ b)) none in
    (stale parts.0 below.0, none_fresh_below n x a b parts.1 below.1)
  where
    stale : nat_lt z.number n && is_fresh z.stage ≡ false → z.number < n
        → is_fresh z.stage ≡ false
    stale e less =
        let is : nat_lt z.number n ≡ true = grind (arith, nat_tests, less) in
        sym (ap (λ (t : Bool). t && is_fresh z.stage) is) ∙ e
