-- the legs of a kind that a server keeps, in the order of their numbers, and what stands on them
use Rattle.law_order.proofs.Vocabulary.{◌≡◌, ℕ, zero, suc, ◌+◌, ◌<◌, ◌≤◌, ◌==◌, Bool, true, false, not, cond, nat_lt, List, [], ◌∷◌, ◌++◌, length, Some, None, inl, inr, arith, refl, sym, subst, ap, ◌∙◌, cases_eq, nat_tests, slice_get, slice_set, remove, position, position_or_len, Option}
use Rattle.law_moves.proofs.Vocabulary.{same_number, Message, IsNoText}
use Rattle.law_role_server.proofs.Numbered.{one}
use Rattle.law_node_begins.proofs.EndsBegin.Stands.{Stands, IsFine, fine, GoesBehind, no_text_behind, NumberLogs, grown_at, at_here, at_other, EndsAt, ends_stay}

-- the number of a leg, and whether the text was put there
pub record Spot : Type 0 where
  pub number : ℕ
  pub begun : Bool

-- ---- the first that passes a test

abbrev pub IsFound : {X : Type 0} → (X → Bool) → List X → ℕ → Type 0
IsFound {X} test xs place = (x : X) × (slice_get xs place ≡ Some x) × (test x ≡ true)

at_first : {X : Type 0} (test : X → Bool) (xs : List X)
    → position_or_len test xs < length xs → IsFound test xs (position_or_len test xs)
at_first test [] l = absurd (omega (arith, l))
at_first test (x ∷ xs) l = by (test x) refl l (at_first test xs)
  where
    by : (b : Bool) → test x ≡ b
        → cond (not b) (1 + position_or_len test xs) 0 < length (x ∷ xs)
        → (position_or_len test xs < length xs → IsFound test xs (position_or_len test xs))
        → IsFound test (x ∷ xs) (cond (not b) (1 + position_or_len test xs) 0)
    by true e l rest = (x, refl, e)
    by false e l rest =
        let further : suc (position_or_len test xs) ≡ 1 + position_or_len test xs = omega arith in
        subst (IsFound test (x ∷ xs)) further (rest (omega (arith, l)))

abbrev the : Option ℕ → ℕ
the None = 0
the (Some n) = n

pub found : {X : Type 0} (test : X → Bool) (xs : List X) (place : ℕ)
    → position test xs ≡ Some place → IsFound test xs place
found test xs place e = by (nat_lt (position_or_len test xs) (length xs)) refl e
  where
    by : (b : Bool) → nat_lt (position_or_len test xs) (length xs) ≡ b
        → cond b (Some (position_or_len test xs)) None ≡ Some place → IsFound test xs place
    by true l e =
        subst (IsFound test xs) (ap the e) (at_first test xs (grind (arith, nat_tests, l)))
    by false l e = absurd (cc)

-- ---- what stands on the legs

module _ (IsFirst : List ℕ → Type 0) where
  -- numbers rise from one above low up to high
  abbrev pub Rises : ℕ → ℕ → List Spot → NumberLogs → Type 0
  Rises low high [] logs = low ≤ high
  Rises low high (x ∷ xs) logs =
      (low < x.number) × Stands IsFirst x.begun (logs x.number) × Rises x.number high xs logs

-- of a kind, whose newest number is given
pub record AreBegun (IsFirst : List ℕ → Type 0) (newest : ℕ) (xs : List Spot)
    (logs : NumberLogs) : Type 0 where
  pub rising : Rises IsFirst 0 newest xs logs
  pub last : EndsAt newest logs
  pub each : (k : ℕ) → IsFine IsFirst (logs k)

-- ---- rising numbers

module _ (IsFirst : List ℕ → Type 0) (logs : NumberLogs) where
  pub lowered : (low other high : ℕ) (xs : List Spot) → low ≤ other
      → Rises IsFirst other high xs logs → Rises IsFirst low high xs logs
  lowered low other high [] l h = omega (arith, l, h)
  lowered low other high (x ∷ xs) l h =
      let here = h.0 in (omega (arith, l, here), h.1, h.2)

  pub heightened : (low high other : ℕ) (xs : List Spot) → high ≤ other
      → Rises IsFirst low high xs logs → Rises IsFirst low other xs logs
  heightened low high other [] l h = omega (arith, l, h)
  heightened low high other (x ∷ xs) l h =
      (h.0, h.1, heightened x.number high other xs l h.2)

  pub rising_ends : (low high : ℕ) (xs : List Spot) → Rises IsFirst low high xs logs → low ≤ high
  rising_ends low high [] h = h
  rising_ends low high (x ∷ xs) h =
      let rest = rising_ends x.number high xs h.2 in let here = h.0 in omega (arith, rest, here)

  pub rising_push : (low high number : ℕ) (xs : List Spot) → number ≡ suc high
      → logs number ≡ [] → Rises IsFirst low high xs logs
      → Rises IsFirst low number (xs ++ record { number = number; begun = false } ∷ []) logs
  rising_push low high number [] e none h = (omega (arith, e, h), none, omega arith)
  rising_push low high number (x ∷ xs) e none h =
      (h.0, h.1, rising_push x.number high number xs e none h.2)

  -- a message is put below it
  pub rising_stays : (low high k : ℕ) (message : Message) (xs : List Spot) → k ≤ low
      → Rises IsFirst low high xs logs → Rises IsFirst low high xs (grown_at k message logs)
  rising_stays low high k message [] l h = h
  rising_stays low high k message (x ∷ xs) l h =
      let here = h.0 in (
        here,
        subst (Stands IsFirst x.begun)
            (sym (at_other k message logs x.number (λ e. absurd (omega (arith, e, l, here))))) h.1,
        rising_stays x.number high k message xs (omega (arith, l, here)) h.2,
      )

-- ---- legs by what is said of them

abbrev from : {X : Type 0} → X → Option X → X
from x None = x
from x (Some y) = y

abbrev pub spots : {X : Type 0} → (X → Spot) → List X → List Spot
spots spot [] = []
spots spot (x ∷ xs) = spot x ∷ spots spot xs

module _ {X : Type 0} (spot : X → Spot) where
  -- one is replaced by another that says the same
  pub spots_set : (xs : List X) (place : ℕ) (x y : X) → slice_get xs place ≡ Some x
      → spot y ≡ spot x → spots spot (slice_set xs place y) ≡ spots spot xs
  spots_set [] place x y e same = refl
  spots_set (z ∷ xs) zero x y e same =
      ap (λ (w : Spot). w ∷ spots spot xs) (same ∙ ap spot (sym (one z x e)))
  spots_set (z ∷ xs) (suc place) x y e same =
      ap (λ (l : List Spot). spot z ∷ l) (spots_set xs place x y e same)

  pub spots_push : (xs : List X) (x : X) → spots spot (xs ++ x ∷ []) ≡ spots spot xs ++ spot x ∷ []
  spots_push [] x = refl
  spots_push (y ∷ xs) x = ap (λ (l : List Spot). spot y ∷ l) (spots_push xs x)

module _ (IsFirst : List ℕ → Type 0) {X : Type 0} (spot : X → Spot) (logs : NumberLogs) where
  abbrev pub AreRising : ℕ → ℕ → List X → Type 0
  AreRising low high xs = Rises IsFirst low high (spots spot xs) logs

  -- ---- one that is there

  above_low : (low high : ℕ) (xs : List X) (place : ℕ) (x : X) → slice_get xs place ≡ Some x
      → AreRising low high xs → low < (spot x).number
  above_low low high [] place x e h = absurd (cc)
  above_low low high (y ∷ xs) zero x e h =
      subst (λ z. low < (spot z).number) (one y x e) h.0
  above_low low high (y ∷ xs) (suc place) x e h =
      let rest = above_low (spot y).number high xs place x e h.2 in
      let here = h.0 in omega (arith, rest, here)

  at_most : (low high : ℕ) (xs : List X) (place : ℕ) (x : X) → slice_get xs place ≡ Some x
      → AreRising low high xs → (spot x).number ≤ high
  at_most low high [] place x e h = absurd (cc)
  at_most low high (y ∷ xs) zero x e h =
      subst (λ z. (spot z).number ≤ high) (one y x e)
      (rising_ends IsFirst logs (spot y).number high (spots spot xs) h.2)
  at_most low high (y ∷ xs) (suc place) x e h = at_most (spot y).number high xs place x e h.2

  stands_at : (low high : ℕ) (xs : List X) (place : ℕ) (x : X) → slice_get xs place ≡ Some x
      → AreRising low high xs → Stands IsFirst (spot x).begun (logs (spot x).number)
  stands_at low high [] place x e h = absurd (cc)
  stands_at low high (y ∷ xs) zero x e h =
      subst (λ z. Stands IsFirst (spot z).begun (logs (spot z).number)) (one y x e) h.1
  stands_at low high (y ∷ xs) (suc place) x e h =
      stands_at (spot y).number high xs place x e h.2

  -- there is one of each number
  same_at : (low high : ℕ) (xs : List X) (i j : ℕ) (x y : X) → slice_get xs i ≡ Some x
      → slice_get xs j ≡ Some y → (spot x).number ≡ (spot y).number → AreRising low high xs
      → spot x ≡ spot y
  same_at low high [] i j x y e f n h = absurd (cc)
  same_at low high (z ∷ xs) zero zero x y e f n h = ap spot (sym (one z x e) ∙ one z y f)
  same_at low high (z ∷ xs) zero (suc j) x y e f n h =
      let above = above_low (spot z).number high xs j y f h.2 in
      let is = ap (λ w. (spot w).number) (one z x e) in absurd (omega (arith, above, is, n))
  same_at low high (z ∷ xs) (suc i) zero x y e f n h =
      let above = above_low (spot z).number high xs i x e h.2 in
      let is = ap (λ w. (spot w).number) (one z y f) in absurd (omega (arith, above, is, n))
  same_at low high (z ∷ xs) (suc i) (suc j) x y e f n h =
      same_at (spot z).number high xs i j x y e f n h.2

  -- one takes the place of its number and says the same
  pub spots_kept : (low high : ℕ) (xs : List X) (i j : ℕ) (x y : X) → slice_get xs i ≡ Some x
      → spot y ≡ spot x → position (λ z. (spot z).number == (spot y).number) xs ≡ Some j
      → AreRising low high xs → spots spot (slice_set xs j y) ≡ spots spot xs
  spots_kept low high xs i j x y e same at h =
      let there = found (λ z. (spot z).number == (spot y).number) xs j at in
      let numbers = same_number (spot there.0).number (spot y).number there.2 in
      spots_set spot xs j there.0 y there.1
      (same ∙ sym (same_at low high xs j i there.0 x there.1 e
      (numbers ∙ ap (λ (s : Spot). s.number) same) h))

  -- ---- changes

  pub rising_removed : (low high : ℕ) (xs : List X) (place : ℕ) → AreRising low high xs
      → AreRising low high (remove xs place)
  rising_removed low high [] zero h = h
  rising_removed low high [] (suc place) h = h
  rising_removed low high (x ∷ xs) zero h =
      let here = h.0 in
      lowered IsFirst logs low (spot x).number high (spots spot xs) (omega (arith, here)) h.2
  rising_removed low high (x ∷ xs) (suc place) h =
      (h.0, h.1, rising_removed (spot x).number high xs place h.2)

  pub rising_put : (low high : ℕ) (xs : List X) (place : ℕ) (x y : X) (message : Message)
      → slice_get xs place ≡ Some x → (spot y).number ≡ (spot x).number
      → GoesBehind IsFirst (spot x).begun message (spot y).begun → AreRising low high xs
      → Rises IsFirst low high (spots spot (slice_set xs place y))
      (grown_at (spot x).number message logs)
  rising_put low high [] place x y message e same behind h = absurd (cc)
  rising_put low high (z ∷ xs) zero x y message e same behind h =
      let is = one z x e in
      let k = (spot x).number in
      let here = subst (λ w. low < (spot w).number) is h.0 in
      let rest = subst (λ w. Rises IsFirst (spot w).number high (spots spot xs) logs) is h.2 in
      let stands = behind (logs k)
      (subst (λ w. Stands IsFirst (spot w).begun (logs (spot w).number)) is h.1) in (
        subst (λ n. low < n) (sym same) here,
        subst (λ n. Stands IsFirst (spot y).begun (grown_at k message logs n)) (sym same)
            (subst (Stands IsFirst (spot y).begun) (sym (at_here k message logs)) stands),
        subst (λ n. Rises IsFirst n high (spots spot xs) (grown_at k message logs)) (sym same)
            (rising_stays IsFirst logs k high k message (spots spot xs) (omega arith) rest),
      )
  rising_put low high (z ∷ xs) (suc place) x y message e same behind h =
      let above = above_low (spot z).number high xs place x e h.2 in
      let k = (spot x).number in (
        h.0,
        subst (Stands IsFirst (spot z).begun)
            (sym (at_other k message logs (spot z).number
            (λ e. absurd (omega (arith, e, above))))) h.1,
        rising_put (spot z).number high xs place x y message e same behind h.2,
      )

  -- ---- all legs of a kind

  abbrev pub AreKept : ℕ → List X → Type 0
  AreKept newest xs = AreBegun IsFirst newest (spots spot xs) logs

  pub kept_removed : (newest : ℕ) (xs : List X) (place : ℕ) → AreKept newest xs
      → AreKept newest (remove xs place)
  kept_removed newest xs place k = record {
    rising = rising_removed 0 newest xs place k.rising;
    last = k.last;
    each = k.each;
  }

  -- a leg comes up, with the number above the newest one
  pub kept_up : (newest number : ℕ) (xs : List X) (x : X) → number ≡ suc newest
      → spot x ≡ record { number = number; begun = false } → AreKept newest xs
      → AreKept number (xs ++ x ∷ [])
  kept_up newest number xs x e is k = record {
    rising =
        subst (λ l. Rises IsFirst 0 number l logs)
        (sym (spots_push spot xs x ∙ ap (λ (s : Spot). spots spot xs ++ s ∷ []) is))
        (rising_push IsFirst logs 0 newest number (spots spot xs) e
        (k.last number (omega (arith, e))) k.rising);
    last = λ j above. k.last j (omega (arith, above, e));
    each = k.each;
  }

  -- a number is given to no leg
  pub kept_past : (newest : ℕ) (xs : List X) → AreKept newest xs → AreKept (newest + 1) xs
  kept_past newest xs k = record {
    rising = heightened IsFirst logs 0 newest (newest + 1) (spots spot xs) (omega arith) k.rising;
    last = λ j above. k.last j (omega (arith, above));
    each = k.each;
  }

  -- a message is put on a leg
  pub kept_put : (newest : ℕ) (xs : List X) (place : ℕ) (x y : X) (message : Message)
      → slice_get xs place ≡ Some x → (spot y).number ≡ (spot x).number
      → GoesBehind IsFirst (spot x).begun message (spot y).begun → AreKept newest xs
      → AreBegun IsFirst newest (spots spot (slice_set xs place y))
      (grown_at (spot x).number message logs)
  kept_put newest xs place x y message e same behind k = record {
    rising = rising_put 0 newest xs place x y message e same behind k.rising;
    last =
        let under = at_most 0 newest xs place x e k.rising in
        ends_stay newest (spot x).number message logs (omega (arith, under)) k.last;
    each = λ j. elim (cases_eq (spot x).number j) [
      | inl e2 ↦
          subst (λ n. IsFine IsFirst (grown_at (spot x).number message logs n)) e2
          (subst (IsFine IsFirst) (sym (at_here (spot x).number message logs))
          (fine IsFirst (spot y).begun (logs (spot x).number ++ message ∷ [])
          (behind (logs (spot x).number) (stands_at 0 newest xs place x e k.rising))))
      | inr other ↦
          subst (IsFine IsFirst) (sym (at_other (spot x).number message logs j other)) (k.each j)
    ];
  }

  -- and the leg says the same
  pub kept_more : (newest : ℕ) (xs : List X) (place : ℕ) (x : X) (message : Message)
      → slice_get xs place ≡ Some x → (spot x).begun ≡ true → IsNoText message
      → AreKept newest xs
      → AreBegun IsFirst newest (spots spot xs) (grown_at (spot x).number message logs)
  kept_more newest xs place x message e begun is k =
      subst (λ l. AreBegun IsFirst newest l (grown_at (spot x).number message logs))
      (spots_set spot xs place x x e refl)
      (kept_put newest xs place x x message e refl
      (no_text_behind IsFirst (spot x).begun message begun is) k)
