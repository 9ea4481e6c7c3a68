-- the is legs that a server keeps, by their numbers
use Rattle.law_order.proofs.Vocabulary.{◌≡◌, ◌≢◌, ℕ, suc, ◌+◌, ◌<◌, ◌≤◌, ◌==◌, ◌&&◌, ◌||◌, cond, nat_eq, nat_lt, List, [], ◌∷◌, ◌++◌, Bool, true, false, Some, None, arith, refl, sym, ap, ◌∙◌, subst, position, find, list_any, Option, nat_tests}
use Rattle.law_moves.proofs.Vocabulary.{same_number, other_number, test_same, test_other}
use Rattle.law_role_server.proofs.Vocabulary.{InStage, InLeg, is_fresh, is_waiting, stays, in_place, in_at, in_leg, set_at, removed_at, first_waiting, has_fresh_below}
use Rattle.law_role_server.proofs.Counted.InLegs.{place_step, next_place}

-- ---- places

pub in_found : (test : InLeg → Bool) (legs : List InLeg)
    → in_at legs (position test legs) ≡ find test legs
in_found test [] = refl
in_found test (leg ∷ legs) =
    ap (in_at (leg ∷ legs)) (place_step test leg legs) ∙ by (test leg) (in_found test legs)
  where
    further : (place : Option ℕ) → in_at (leg ∷ legs) (next_place place) ≡ in_at legs place
    further None = refl
    further (Some place) = refl

    by : (b : Bool) → in_at legs (position test legs) ≡ find test legs
        → in_at (leg ∷ legs) (cond b (Some 0) (next_place (position test legs)))
        ≡ cond b (Some leg) (find test legs)
    by true rest = refl
    by false rest = further (position test legs) ∙ rest

-- ---- what order needs to know of a leg

pub record Spot : Type 0 where
  pub number : ℕ
  pub stage : InStage
  pub stays : Bool

abbrev pub spot : InLeg → Spot
spot leg = record { number = leg.number; stage = leg.stage; stays = stays leg.leaving }

abbrev pub spots : List InLeg → List Spot
spots [] = []
spots (leg ∷ legs) = spot leg ∷ spots legs

abbrev pub spot_by : Option InLeg → Option Spot
spot_by None = None
spot_by (Some leg) = Some (spot leg)

abbrev pub at : ℕ → List Spot → Option Spot
at n [] = None
at n (x ∷ xs) = cond (x.number == n) (Some x) (at n xs)

abbrev pub put_at : Spot → List Spot → List Spot
put_at y [] = []
put_at y (x ∷ xs) = cond (x.number == y.number) (y ∷ xs) (x ∷ put_at y xs)

abbrev pub gone : ℕ → List Spot → List Spot
gone n [] = []
gone n (x ∷ xs) = cond (x.number == n) xs (x ∷ gone n xs)

abbrev pub first_at : List Spot → Option Spot
first_at [] = None
first_at (x ∷ xs) = cond (is_waiting x.stage) (Some x) (first_at xs)

abbrev fresh_below : ℕ → Spot → Bool
fresh_below n x = nat_lt x.number n && is_fresh x.stage

-- ---- the legs and their spots

pub leg_spot : (n : ℕ) (legs : List InLeg) → spot_by (in_leg n legs) ≡ at n (spots legs)
leg_spot n legs =
    ap spot_by (in_found (λ (leg : InLeg). leg.number == n) legs) ∙ found legs
  where
    found : (legs : List InLeg)
        → spot_by (find (λ (leg : InLeg). leg.number == n) legs) ≡ at n (spots legs)
    found [] = refl
    found (leg ∷ legs) = by (leg.number == n) (found legs)
      where
        by : (b : Bool) → spot_by (find (λ (leg : InLeg). leg.number == n) legs) ≡ at n (spots legs)
            → spot_by (cond b (Some leg) (find (λ (leg : InLeg). leg.number == n) legs))
            ≡ cond b (Some (spot leg)) (at n (spots legs))
        by true rest = refl
        by false rest = rest

pub first_spot : (legs : List InLeg) → spot_by (first_waiting legs) ≡ first_at (spots legs)
first_spot legs =
    ap spot_by (in_found (λ (leg : InLeg). is_waiting leg.stage) legs) ∙ found legs
  where
    found : (legs : List InLeg)
        → spot_by (find (λ (leg : InLeg). is_waiting leg.stage) legs) ≡ first_at (spots legs)
    found [] = refl
    found (leg ∷ legs) = by (is_waiting leg.stage) (found legs)
      where
        by : (b : Bool)
            → spot_by (find (λ (leg : InLeg). is_waiting leg.stage) legs) ≡ first_at (spots legs)
            → spot_by (cond b (Some leg) (find (λ (leg : InLeg). is_waiting leg.stage) legs))
            ≡ cond b (Some (spot leg)) (first_at (spots legs))
        by true rest = refl
        by false rest = rest

pub set_spot : (legs : List InLeg) (leg : InLeg)
    → spots (set_at legs leg (in_place leg.number legs)) ≡ put_at (spot leg) (spots legs)
set_spot [] leg = refl
set_spot (other ∷ legs) leg =
    ap (λ place. spots (set_at (other ∷ legs) leg place))
    (place_step (λ (l : InLeg). l.number == leg.number) other legs)
    ∙ by (other.number == leg.number) (set_spot legs leg)
  where
    further : (place : Option ℕ) → spots (set_at (other ∷ legs) leg (next_place place))
        ≡ spot other ∷ spots (set_at legs leg place)
    further None = refl
    further (Some place) = refl

    by : (b : Bool)
        → spots (set_at legs leg (in_place leg.number legs)) ≡ put_at (spot leg) (spots legs)
        → spots (set_at (other ∷ legs) leg
        (cond b (Some 0) (next_place (in_place leg.number legs))))
        ≡ cond b (spot leg ∷ spots legs) (spot other ∷ put_at (spot leg) (spots legs))
    by true rest = refl
    by false rest =
        further (in_place leg.number legs) ∙ ap (λ (xs : List Spot). spot other ∷ xs) rest

pub gone_spot : (n : ℕ) (legs : List InLeg)
    → spots (removed_at legs (in_place n legs)) ≡ gone n (spots legs)
gone_spot n [] = refl
gone_spot n (other ∷ legs) =
    ap (λ place. spots (removed_at (other ∷ legs) place))
    (place_step (λ (l : InLeg). l.number == n) other legs)
    ∙ by (other.number == n) (gone_spot n legs)
  where
    further : (place : Option ℕ) → spots (removed_at (other ∷ legs) (next_place place))
        ≡ spot other ∷ spots (removed_at legs place)
    further None = refl
    further (Some place) = refl

    by : (b : Bool) → spots (removed_at legs (in_place n legs)) ≡ gone n (spots legs)
        → spots (removed_at (other ∷ legs) (cond b (Some 0) (next_place (in_place n legs))))
        ≡ cond b (spots legs) (spot other ∷ gone n (spots legs))
    by true rest = refl
    by false rest = further (in_place n legs) ∙ ap (λ (xs : List Spot). spot other ∷ xs) rest

pub push_spot : (legs : List InLeg) (leg : InLeg)
    → spots (legs ++ leg ∷ []) ≡ spots legs ++ spot leg ∷ []
push_spot [] leg = refl
push_spot (other ∷ legs) leg = ap (λ (xs : List Spot). spot other ∷ xs) (push_spot legs leg)

fresh_spot : (n : ℕ) (legs : List InLeg)
    → has_fresh_below n legs ≡ list_any (fresh_below n) (spots legs)
fresh_spot n [] = refl
fresh_spot n (leg ∷ legs) = rw (fresh_spot n legs) refl

-- ---- found by number

abbrev pub the : Spot → Option Spot → Spot
the x None = x
the x (Some other) = other

pub at_number : (n : ℕ) (xs : List Spot) (x : Spot) → at n xs ≡ Some x → x.number ≡ n
at_number n [] x e = absurd (cc)
at_number n (y ∷ xs) x e = by (y.number == n) refl e (at_number n xs x)
  where
    by : (b : Bool) → y.number == n ≡ b → cond b (Some y) (at n xs) ≡ Some x
        → (at n xs ≡ Some x → x.number ≡ n) → x.number ≡ n
    by true is e rest =
        ap (λ (z : Spot). z.number) (sym (ap (the y) e)) ∙ same_number y.number n is
    by false is e rest = rest e

pub put_other : (n : ℕ) (y : Spot) (xs : List Spot) → n ≢ y.number → at n (put_at y xs) ≡ at n xs
put_other n y [] o = refl
put_other n y (x ∷ xs) o = by (x.number == y.number) refl (put_other n y xs o)
  where
    by : (b : Bool) → x.number == y.number ≡ b → at n (put_at y xs) ≡ at n xs
        → at n (cond b (y ∷ xs) (x ∷ put_at y xs)) ≡ cond (x.number == n) (Some x) (at n xs)
    by true is rest =
        rw (
          test_other y.number n (λ e. o (sym e)),
          test_other x.number n (λ e. o (sym e ∙ same_number x.number y.number is)),
        ) refl
    by false is rest = ap (λ (o : Option Spot). cond (x.number == n) (Some x) o) rest

pub put_here : (y x : Spot) (xs : List Spot) → at y.number xs ≡ Some x
    → at y.number (put_at y xs) ≡ Some y
put_here y x [] e = absurd (cc)
put_here y x (z ∷ xs) e = by (z.number == y.number) refl e (put_here y x xs)
  where
    by : (b : Bool) → z.number == y.number ≡ b → cond b (Some z) (at y.number xs) ≡ Some x
        → (at y.number xs ≡ Some x → at y.number (put_at y xs) ≡ Some y)
        → at y.number (cond b (y ∷ xs) (z ∷ put_at y xs)) ≡ Some y
    by true is e rest = rw (test_same y.number) refl
    by false is e rest = rw is (rest e)

-- the same is put in its place
pub put_same : (y : Spot) (xs : List Spot) → at y.number xs ≡ Some y → put_at y xs ≡ xs
put_same y [] e = refl
put_same y (z ∷ xs) e = by (z.number == y.number) e (put_same y xs)
  where
    by : (b : Bool) → cond b (Some z) (at y.number xs) ≡ Some y
        → (at y.number xs ≡ Some y → put_at y xs ≡ xs)
        → cond b (y ∷ xs) (z ∷ put_at y xs) ≡ z ∷ xs
    by true e rest = ap (λ (w : Spot). w ∷ xs) (sym (ap (the z) e))
    by false e rest = ap (λ (ws : List Spot). z ∷ ws) (rest e)

pub gone_other : (n k : ℕ) (xs : List Spot) → k ≢ n → at k (gone n xs) ≡ at k xs
gone_other n k [] o = refl
gone_other n k (x ∷ xs) o = by (x.number == n) refl (gone_other n k xs o)
  where
    by : (b : Bool) → x.number == n ≡ b → at k (gone n xs) ≡ at k xs
        → at k (cond b xs (x ∷ gone n xs)) ≡ cond (x.number == k) (Some x) (at k xs)
    by true is rest =
        rw (test_other x.number k (λ e. o (sym e ∙ same_number x.number n is))) refl
    by false is rest = ap (λ (o : Option Spot). cond (x.number == k) (Some x) o) rest

pub push_other : (n : ℕ) (y : Spot) (xs : List Spot) → n ≢ y.number
    → at n (xs ++ y ∷ []) ≡ at n xs
push_other n y [] o = rw (test_other y.number n (λ e. o (sym e))) refl
push_other n y (x ∷ xs) o =
    ap (λ (o : Option Spot). cond (x.number == n) (Some x) o) (push_other n y xs o)

pub push_here : (y : Spot) (xs : List Spot) → at y.number xs ≡ None
    → at y.number (xs ++ y ∷ []) ≡ Some y
push_here y [] e = rw (test_same y.number) refl
push_here y (x ∷ xs) e = by (x.number == y.number) e (push_here y xs)
  where
    by : (b : Bool) → cond b (Some x) (at y.number xs) ≡ None
        → (at y.number xs ≡ None → at y.number (xs ++ y ∷ []) ≡ Some y)
        → cond b (Some x) (at y.number (xs ++ y ∷ [])) ≡ Some y
    by true e rest = absurd (cc)
    by false e rest = rest e

-- ---- in ascending order

-- the numbers are above low and at most high
abbrev pub IsSorted : ℕ → ℕ → List Spot → Type 0
IsSorted low high [] = low ≤ high
IsSorted low high (x ∷ xs) = (low < x.number) × IsSorted x.number high xs

pub sorted_low : (low high : ℕ) (xs : List Spot) → IsSorted low high xs → low ≤ high
sorted_low low high [] s = s
sorted_low low high (x ∷ xs) s =
    omega (arith, s.0, sorted_low x.number high xs s.1)

pub sorted_higher : (low high more : ℕ) (xs : List Spot) → high ≤ more → IsSorted low high xs
    → IsSorted low more xs
sorted_higher low high more [] h s = omega (arith, h, s)
sorted_higher low high more (x ∷ xs) h s = (s.0, sorted_higher x.number high more xs h s.1)

sorted_lower : (low less high : ℕ) (xs : List Spot) → less ≤ low → IsSorted low high xs
    → IsSorted less high xs
sorted_lower low less high [] l s = omega (arith, l, s)
sorted_lower low less high (x ∷ xs) l s = (omega (arith, l, s.0), s.1)

pub sorted_push : (low high : ℕ) (y : Spot) (xs : List Spot) → y.number ≡ suc high
    → IsSorted low high xs → IsSorted low (suc high) (xs ++ y ∷ [])
sorted_push low high y [] e s = (omega (arith, e, s), omega (arith, e))
sorted_push low high y (x ∷ xs) e s = (s.0, sorted_push x.number high y xs e s.1)

pub sorted_put : (low high : ℕ) (y : Spot) (xs : List Spot) → IsSorted low high xs
    → IsSorted low high (put_at y xs)
sorted_put low high y [] s = s
sorted_put low high y (x ∷ xs) s =
    by (x.number == y.number) refl (sorted_put x.number high y xs s.1)
  where
    by : (b : Bool) → x.number == y.number ≡ b → IsSorted x.number high (put_at y xs)
        → IsSorted low high (cond b (y ∷ xs) (x ∷ put_at y xs))
    by true is rest =
        let same = same_number x.number y.number is in
        (omega (arith, same, s.0), subst (λ n. IsSorted n high xs) same s.1)
    by false is rest = (s.0, rest)

pub sorted_gone : (low high n : ℕ) (xs : List Spot) → IsSorted low high xs
    → IsSorted low high (gone n xs)
sorted_gone low high n [] s = s
sorted_gone low high n (x ∷ xs) s = by (x.number == n) (sorted_gone x.number high n xs s.1)
  where
    by : (b : Bool) → IsSorted x.number high (gone n xs)
        → IsSorted low high (cond b xs (x ∷ gone n xs))
    by true rest = sorted_lower x.number low high xs (omega (arith, s.0)) s.1
    by false rest = (s.0, rest)

pub in_range : (low high n : ℕ) (x : Spot) (xs : List Spot) → IsSorted low high xs
    → at n xs ≡ Some x → (low < n) × (n ≤ high)
in_range low high n x [] s e = absurd (cc)
in_range low high n x (y ∷ xs) s e =
    by (y.number == n) refl e (in_range y.number high n x xs s.1)
  where
    by : (b : Bool) → y.number == n ≡ b → cond b (Some y) (at n xs) ≡ Some x
        → (at n xs ≡ Some x → (y.number < n) × (n ≤ high)) → (low < n) × (n ≤ high)
    by true is e rest =
        let same = same_number y.number n is in
        (omega (arith, same, s.0), omega (arith, same, sorted_low y.number high xs s.1))
    by false is e rest = (omega (arith, s.0, (rest e).0), (rest e).1)

-- below its numbers there is none, nor above
pub out_of_range : (low high n : ℕ) (xs : List Spot) → IsSorted low high xs
    → ((low < n) × (n ≤ high) → ⊥) → at n xs ≡ None
out_of_range low high n xs s o = by (at n xs) refl
  where
    by : (x : Option Spot) → at n xs ≡ x → at n xs ≡ None
    by None e = e
    by (Some x) e = absurd (o (in_range low high n x xs s e))

pub gone_here : (low high n : ℕ) (xs : List Spot) → IsSorted low high xs
    → at n (gone n xs) ≡ None
gone_here low high n [] s = refl
gone_here low high n (x ∷ xs) s =
    by (x.number == n) refl (gone_here x.number high n xs s.1)
  where
    by : (b : Bool) → x.number == n ≡ b → at n (gone n xs) ≡ None
        → at n (cond b xs (x ∷ gone n xs)) ≡ None
    by true is rest =
        out_of_range x.number high n xs s.1
        (λ r. let same = same_number x.number n is in absurd (omega (arith, same, r.0)))
    by false is rest = rw is rest

-- ---- those that wait

abbrev pub waits_at : Option Spot → Bool
waits_at None = false
waits_at (Some x) = is_waiting x.stage

abbrev pub fresh_at : Option Spot → Bool
fresh_at None = false
fresh_at (Some x) = is_fresh x.stage

pub none_waits : (xs : List Spot) → first_at xs ≡ None → (n : ℕ) → waits_at (at n xs) ≡ false
none_waits [] e n = refl
none_waits (x ∷ xs) e n = by (is_waiting x.stage) refl (x.number == n) e (none_waits xs)
  where
    by : (b : Bool) → is_waiting x.stage ≡ b → (t : Bool) → cond b (Some x) (first_at xs) ≡ None
        → (first_at xs ≡ None → (n : ℕ) → waits_at (at n xs) ≡ false)
        → waits_at (cond t (Some x) (at n xs)) ≡ false
    by true is t e rest = absurd (cc)
    by false is true e rest = is
    by false is false e rest = rest e n

-- the first that waits
pub record IsFirst (xs : List Spot) (x : Spot) : Type 0 where
  pub there : at x.number xs ≡ Some x
  pub waits : is_waiting x.stage ≡ true
  pub below : (n : ℕ) → n < x.number → waits_at (at n xs) ≡ false

pub first_waits : (low high : ℕ) (xs : List Spot) (x : Spot) → IsSorted low high xs
    → first_at xs ≡ Some x → IsFirst xs x
first_waits low high [] x s e = absurd (cc)
first_waits low high (y ∷ xs) x s e =
    by (is_waiting y.stage) refl e (first_waits y.number high xs x s.1)
  where
    low_one : (n : ℕ) → n < y.number → waits_at (cond (y.number == n) (Some y) (at n xs)) ≡ false
    low_one n l =
        rw (
          test_other y.number n (λ e. absurd (omega (arith, l, e))),
          out_of_range y.number high n xs s.1 (λ r. absurd (omega (arith, l, r.0))),
        ) refl

    by : (b : Bool) → is_waiting y.stage ≡ b → cond b (Some y) (first_at xs) ≡ Some x
        → (first_at xs ≡ Some x → IsFirst xs x) → IsFirst (y ∷ xs) x
    by true is e rest = subst (IsFirst (y ∷ xs)) (ap (the y) e) (record {
      there = rw (test_same y.number) refl;
      waits = is;
      below = low_one;
    })
    by false is e rest =
        let r = rest e in
        let range = in_range y.number high x.number x xs s.1 r.there in
        record {
          there = rw (test_other y.number x.number (λ same. absurd (omega (arith, same, range.0))))
              r.there;
          waits = r.waits;
          below = λ n l. here n (y.number == n) (r.below n l);
        }
      where
        here : (n : ℕ) (t : Bool) → waits_at (at n xs) ≡ false
            → waits_at (cond t (Some y) (at n xs)) ≡ false
        here n true old = is
        here n false old = old

-- ---- those on which nothing came

none_fresh : (n : ℕ) (xs : List Spot) → list_any (fresh_below n) xs ≡ false → (k : ℕ) → k < n
    → fresh_at (at k xs) ≡ false
none_fresh n [] e k l = refl
none_fresh n (x ∷ xs) e k l =
    by (nat_lt x.number n) (is_fresh x.stage) (x.number == k) refl refl refl e
    (none_fresh n xs)
  where
    by : (a b t : Bool) → nat_lt x.number n ≡ a → is_fresh x.stage ≡ b → x.number == k ≡ t
        → (a && b) || list_any (fresh_below n) xs ≡ false
        → (list_any (fresh_below n) xs ≡ false → (k : ℕ) → k < n → fresh_at (at k xs) ≡ false)
        → fresh_at (cond t (Some x) (at k xs)) ≡ false
    by true true t less fresh is e rest = absurd (cc)
    by a false true less fresh is e rest = fresh
    by false true true less fresh is e rest =
        absurd (let same = same_number x.number k is in grind (arith, nat_tests))
    by true false false less fresh is e rest = rest e k l
    by false b false less fresh is e rest = rest e k l

pub fresh_above : (n : ℕ) (legs : List InLeg) → has_fresh_below n legs ≡ false → (k : ℕ) → k < n
    → fresh_at (at k (spots legs)) ≡ false
fresh_above n legs e k l = none_fresh n (spots legs) (sym (fresh_spot n legs) ∙ e) k l

-- ---- what holds of each number behind a change

pub at_put : (y x : Spot) (xs : List Spot) → at y.number xs ≡ Some x
    → (P : ℕ → Option Spot → Type 0) → P y.number (Some y)
    → ((n : ℕ) → n ≢ y.number → P n (at n xs)) → (n : ℕ) → P n (at n (put_at y xs))
at_put y x xs e P here other n = by (nat_eq n y.number) refl
  where
    by : (b : Bool) → nat_eq n y.number ≡ b → P n (at n (put_at y xs))
    by true is =
        subst (λ k. P k (at k (put_at y xs))) (sym (same_number n y.number is))
        (subst (P y.number) (sym (put_here y x xs e)) here)
    by false is =
        let o = other_number n y.number is in
        subst (P n) (sym (put_other n y xs o)) (other n o)

pub at_gone : (low high k : ℕ) (xs : List Spot) → IsSorted low high xs
    → (P : ℕ → Option Spot → Type 0) → P k None
    → ((n : ℕ) → n ≢ k → P n (at n xs)) → (n : ℕ) → P n (at n (gone k xs))
at_gone low high k xs s P here other n = by (nat_eq n k) refl
  where
    by : (b : Bool) → nat_eq n k ≡ b → P n (at n (gone k xs))
    by true is =
        subst (λ j. P j (at j (gone k xs))) (sym (same_number n k is))
        (subst (P k) (sym (gone_here low high k xs s)) here)
    by false is =
        let o = other_number n k is in
        subst (P n) (sym (gone_other k n xs o)) (other n o)

pub at_push : (low high : ℕ) (y : Spot) (xs : List Spot) → IsSorted low high xs
    → y.number ≡ suc high → (P : ℕ → Option Spot → Type 0) → P y.number (Some y)
    → ((n : ℕ) → n ≢ y.number → P n (at n xs)) → (n : ℕ) → P n (at n (xs ++ y ∷ []))
at_push low high y xs s e P here other n = by (nat_eq n y.number) refl
  where
    none : at y.number xs ≡ None
    none = out_of_range low high y.number xs s (λ r. absurd (omega (arith, e, r.1)))

    by : (b : Bool) → nat_eq n y.number ≡ b → P n (at n (xs ++ y ∷ []))
    by true is =
        subst (λ j. P j (at j (xs ++ y ∷ []))) (sym (same_number n y.number is))
        (subst (P y.number) (sym (push_here y xs none)) here)
    by false is =
        let o = other_number n y.number is in
        subst (P n) (sym (push_other n y xs o)) (other n o)
