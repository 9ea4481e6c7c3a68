-- which far legs of what goes up follow one another
use Rattle.law_order.proofs.Vocabulary.{◌≡◌, ◌⊎◌, ◌<◌, ◌≤◌, ◌==◌, ◌&&◌, ◌||◌, ◌++◌, ℕ, zero, suc, nat_lt, Bool, true, false, List, [], ◌∷◌, inl, inr, refl, sym, ◌∙◌, subst, arith, nat_tests}
use Rattle.law_order.specs.Items.{Item, Piece, Stop, Handover, has_handover}
use Rattle.law_order.specs.Logs.{IsLeg}
use Rattle.law_order.specs.Passing.{PasserLaw}
use Rattle.law_order.specs.Routes.{IsRoute, Route}
use Rattle.law_audit.specs.FarAndNear.Seen.{IsSeenFar, Side}
use Rattle.law_peers_moments.specs.Moments.{ReadInTurn}
use Rattle.law_peers_routes.specs.Upwards.{has_leg}
use Rattle.law_peers_in_channels.proofs.InSuccessors.Sums.{reader_behind}

-- ---- readers

-- a channel is read on a leg of no higher number
reader_most : (reader : ℕ → ℕ) → ReadInTurn reader → (n : ℕ) → reader n ≤ n
reader_most reader turn zero = let none = turn.none in omega (arith, none)
reader_most reader turn (suc n) = by (reader_most reader turn n) (turn.next n)
  where
    by : reader n ≤ n → (reader (suc n) ≡ 0) ⊎ ((reader (suc n) ≡ suc n)
        ⊎ (reader (suc n) ≡ reader n)) → reader (suc n) ≤ suc n
    by before (inl none) = omega (arith, none)
    by before (inr (inl is)) = omega (arith, is)
    by before (inr (inr same)) = omega (arith, same, before)

next_above : (k l : ℕ) → nat_lt k l ≡ true → l ≤ suc k → l ≡ suc k
next_above k l e most = grind (arith, nat_tests, e, most)

not_below : (k l : ℕ) → nat_lt k l ≡ false → l ≤ k
not_below k l e = grind (arith, nat_tests, e)

is_below : (k l : ℕ) → nat_lt k l ≡ true → k < l
is_below k l e = grind (arith, nat_tests, e)

-- behind a channel that none reads, none reads with a lower number
none_behind : (reader : ℕ → ℕ) → ReadInTurn reader → (l : ℕ) → reader l ≡ 0 → (k : ℕ) → l ≤ k
    → (reader k ≡ 0) ⊎ (l < reader k)
none_behind reader turn l none zero most = inl turn.none
none_behind reader turn l none (suc k) most =
    by (nat_lt k l) refl (none_behind reader turn l none k)
  where
    at : l ≤ k → (reader k ≡ 0) ⊎ (l < reader k) → (reader (suc k) ≡ 0)
        ⊎ ((reader (suc k) ≡ suc k) ⊎ (reader (suc k) ≡ reader k))
        → (reader (suc k) ≡ 0) ⊎ (l < reader (suc k))
    at below before (inl is) = inl is
    at below before (inr (inl is)) = inr (omega (arith, is, below))
    at below (inl before) (inr (inr same)) = inl (omega (arith, same, before))
    at below (inr before) (inr (inr same)) = inr (omega (arith, same, before))

    by : (b : Bool) → nat_lt k l ≡ b → (l ≤ k → (reader k ≡ 0) ⊎ (l < reader k))
        → (reader (suc k) ≡ 0) ⊎ (l < reader (suc k))
    by true e before =
        let same = next_above k l e most in
        inl (subst (λ (n : ℕ). reader n ≡ 0) same none)
    by false e before =
        let below = not_below k l e in at below (before below) (turn.next k)

-- ---- legs

leg_own : (n k : ℕ) → 1 ≤ n → k ≡ n → (nat_lt 0 n && (k == n || k == 0)) ≡ true
leg_own n k some own = grind (arith, nat_tests, some, own)

leg_parts : (n k : ℕ) → (nat_lt 0 n && (k == n || k == 0)) ≡ true → (k ≡ n) ⊎ (k ≡ 0)
leg_parts n k e = by (k == n) refl
  where
    by : (b : Bool) → (k == n) ≡ b → (k ≡ n) ⊎ (k ≡ 0)
    by true f = inl (grind (arith, nat_tests, f))
    by false f = inr (grind (arith, nat_tests, e, f))

handover_more : (a b : List Item) → has_handover a ≡ true → has_handover (a ++ b) ≡ true
handover_more [] b h = absurd (let both = h in cc)
handover_more (Piece pdu ∷ a) b h = handover_more a b h
handover_more (Stop ∷ a) b h = handover_more a b h
handover_more (Handover ∷ a) b h = refl

-- ---- a side whose legs begin in turn

module _ (reader : ℕ → ℕ) (turn : ReadInTurn reader) (r : Route) (route : IsRoute r)
    (legs_are : (n : ℕ) → r.legs n ≡ has_leg reader n) (far : Side)
    (of_put : (m : ℕ) → IsLeg (r.put m) (far.seen m))
    (own : (n : ℕ) → far.there n ≡ true → reader n ≡ n)
    (turns : (n : ℕ) → far.there n ≡ true
    → (n ≡ 1) ⊎ ((below : ℕ) × (n ≡ suc (suc below)) × (far.there (reader (suc below)) ≡ true)))
  where
    not_there : (n : ℕ) → far.there n ≡ true → far.there n ≡ false → ⊥
    not_there n here none = absurd (let both = sym here ∙ none in cc)

    positive : (n : ℕ) → far.there n ≡ true → 1 ≤ n
    positive n here = by (turns n here)
      where
        by : (n ≡ 1) ⊎ ((below : ℕ) × (n ≡ suc (suc below))
            × (far.there (reader (suc below)) ≡ true)) → 1 ≤ n
        by (inl one) = omega (arith, one)
        by (inr t) = let is = t.1 in omega (arith, is)

    first : (n : ℕ) → far.there n ≡ true → ((k : ℕ) → k < n → far.there k ≡ false) → n ≡ 1
    first n here none = by (turns n here)
      where
        by : (n ≡ 1) ⊎ ((below : ℕ) × (n ≡ suc (suc below))
            × (far.there (reader (suc below)) ≡ true)) → n ≡ 1
        by (inl one) = one
        by (inr t) =
            let most = reader_most reader turn (suc t.0) in
            let is = t.1 in
            absurd (not_there (reader (suc t.0)) t.2
            (none (reader (suc t.0)) (omega (arith, most, is))))

    has_own : (n : ℕ) → far.there n ≡ true → r.legs n ≡ true
    has_own n here = legs_are n ∙ leg_own n (reader n) (positive n here) (own n here)

    module _ (m n below : ℕ) (here_m : far.there m ≡ true) (here_n : far.there n ≡ true)
        (less : m < n) (none : (k : ℕ) → m < k → k < n → far.there k ≡ false)
        (mark : has_handover (far.seen m) ≡ true) (is : n ≡ suc (suc below))
        (before : far.there (reader (suc below)) ≡ true) where
      -- leg m reads the channel below
      reads : reader (suc below) ≡ m
      reads = by (nat_lt m (reader (suc below))) refl
        where
          at : reader (suc below) ≤ m
              → (reader (suc below) ≡ 0) ⊎ (m ≤ reader (suc below)) → reader (suc below) ≡ m
          at most (inl zero_is) =
              let some = positive (reader (suc below)) before in
              absurd (omega (arith, some, zero_is))
          at most (inr least) = omega (arith, most, least)

          by : (b : Bool) → nat_lt m (reader (suc below)) ≡ b → reader (suc below) ≡ m
          by true e =
              let above = is_below m (reader (suc below)) e in
              let most = reader_most reader turn (suc below) in
              absurd (not_there (reader (suc below)) before
              (none (reader (suc below)) above (omega (arith, most, is))))
          by false e =
              let most = not_below m (reader (suc below)) e in
              at most
              (reader_behind reader turn m (own m here_m) (suc below) (omega (arith, less, is)))

      abbrev current : ℕ
      current = (r.proxies m).shelves.current

      law : PasserLaw (r.proxies m) m (r.came m) (r.put m)
      law = route.passers m (has_own m here_m)

      handed : r.legs (suc current) ≡ true
      handed =
          route.numbered.handed m (has_own m here_m)
          (law.handover_put
          ∙ subst (λ (items : List Item). has_handover items ≡ true) (of_put m).1
          (handover_more (far.seen m) (of_put m).0 mark))

      not_past : n ≤ current → ⊥
      not_past past =
          absurd (let both = sym (has_own n here_n)
          ∙ route.numbered.reads m n (has_own m here_m) less past in cc)

      not_before : suc current ≤ suc below → ⊥
      not_before short =
          by (leg_parts (suc current) (reader (suc current))
          (sym (legs_are (suc current)) ∙ handed))
        where
          at_own : (reader (suc below) ≡ 0) ⊎ (suc current ≤ reader (suc below)) → ⊥
          at_own (inl zero_is) =
              let some = positive m here_m in omega (arith, some, zero_is, reads)
          at_own (inr least) = let from = law.from in omega (arith, least, reads, from)

          at_none : (reader (suc below) ≡ 0) ⊎ (suc current < reader (suc below)) → ⊥
          at_none (inl zero_is) =
              let some = positive m here_m in omega (arith, some, zero_is, reads)
          at_none (inr least) = let from = law.from in omega (arith, least, reads, from)

          by : (reader (suc current) ≡ suc current) ⊎ (reader (suc current) ≡ 0) → ⊥
          by (inl own_is) =
              at_own (reader_behind reader turn (suc current) own_is (suc below) short)
          by (inr none_is) =
              at_none (none_behind reader turn (suc current) none_is (suc below) short)

      next_is : n ≡ suc current
      next_is = by (nat_lt current n) refl
        where
          by : (b : Bool) → nat_lt current n ≡ b → n ≡ suc current
          by false e = absurd (not_past (not_below current n e))
          by true e =
              let below_n = is_below current n e in
              at below_n (nat_lt current (suc below)) refl
            where
              at : current < n → (c : Bool) → nat_lt current (suc below) ≡ c → n ≡ suc current
              at below_n true f =
                  let short = is_below current (suc below) f in
                  absurd (not_before (omega (arith, short)))
              at below_n false f =
                  let least = not_below current (suc below) f in
                  omega (arith, below_n, least, is)

    next : (m n : ℕ) → far.there m ≡ true → far.there n ≡ true → m < n
        → ((k : ℕ) → m < k → k < n → far.there k ≡ false) → has_handover (far.seen m) ≡ true
        → n ≡ suc (r.proxies m).shelves.current
    next m n here_m here_n less none mark = by (turns n here_n)
      where
        by : (n ≡ 1) ⊎ ((below : ℕ) × (n ≡ suc (suc below))
            × (far.there (reader (suc below)) ≡ true)) → n ≡ suc (r.proxies m).shelves.current
        by (inl one) =
            let some = positive m here_m in absurd (omega (arith, some, less, one))
        by (inr t) = next_is m n t.0 here_m here_n less none mark t.1 t.2

    pub far_up : IsSeenFar r far
    far_up = record { of_put = of_put; first = first; next = next }
