-- of which channels acknowledgements wait, by how many OUT_R1/A8 their in proxy put
use Rattle.law_order.proofs.Vocabulary.{◌≡◌, ◌⊎◌, ℕ, zero, suc, ◌+◌, ◌≤◌, ◌<◌, ◌==◌, nat_lt, Bool, true, false, List, [], ◌∷◌, ◌++◌, inl, inr, arith, refl, sym, ap, ◌∙◌, subst, nat_tests, AllByRecursion}
use Rattle.law_moves.proofs.Vocabulary.{same_number, Cookie, Leg, sum_below}
use Rattle.law_moves.proofs.Lemmas.{each_so}
use Rattle.law_peers_moments.specs.Moments.{ReadInTurn}
use Rattle.law_peers_room.proofs.InRoom.Names.{Among, among_first, among_last, among_window, window}
use Rattle.law_peers_room.proofs.InRoom.OnEach.{sum_none}
use Rattle.law_peers_room.specs.InRoom.Acks.{IsNear}

-- ---- numbers

less_by : (a b : ℕ) → (a == b) ≡ false → a ≤ b → suc a ≤ b
less_by a b e least = grind (arith, nat_tests, e, least)

-- ---- readers

module _ (reader : ℕ → ℕ) (turn : ReadInTurn reader) where
  -- an in proxy has at most the number of a channel that it reads
  pub reader_most : (n : ℕ) → reader n ≤ n
  reader_most zero = let none = turn.none in omega (arith, none)
  reader_most (suc n) = by (turn.next n) (reader_most n)
    where
      by : (reader (suc n) ≡ 0) ⊎ ((reader (suc n) ≡ suc n) ⊎ (reader (suc n) ≡ reader n))
          → reader n ≤ n → reader (suc n) ≤ suc n
      by (inl none) below = omega (arith, none)
      by (inr (inl own)) below = omega (arith, own)
      by (inr (inr same)) below = omega (arith, same, below)

  -- it reads all channels between its own and that one
  pub reads_between : (m n : ℕ) → 1 ≤ m → reader n ≡ m → (k : ℕ) → m ≤ k → k ≤ n → reader k ≡ m
  reads_between m zero least is k low high =
      let none = turn.none in absurd (omega (arith, none, is, least))
  reads_between m (suc n) least is k low high =
      by (k == suc n) refl (turn.next n) (λ same. reads_between m n least same k low)
    where
      by : (b : Bool) → (k == suc n) ≡ b
          → (reader (suc n) ≡ 0) ⊎ ((reader (suc n) ≡ suc n) ⊎ (reader (suc n) ≡ reader n))
          → (reader n ≡ m → k ≤ n → reader k ≡ m) → reader k ≡ m
      by true e next rest =
          subst (λ (j : ℕ). reader j ≡ m) (sym (same_number k (suc n) e)) is
      by false e (inl none) rest = absurd (omega (arith, none, is, least))
      by false e (inr (inl own)) rest =
          let under = less_by k (suc n) e high in absurd (omega (arith, own, is, low, under))
      by false e (inr (inr same)) rest =
          let under = less_by k (suc n) e high in rest (sym same ∙ is) (omega (arith, under))

-- ---- sums

pub sums_rise : (f : ℕ → ℕ) (a b : ℕ) → a ≤ b → sum_below f a ≤ sum_below f b
sums_rise f a zero less = let none : a ≡ 0 = omega (arith, less) in
    subst (λ (k : ℕ). sum_below f k ≤ 0) (sym none) (omega arith)
sums_rise f a (suc b) less = by (a == suc b) refl (sums_rise f a b)
  where
    by : (t : Bool) → (a == suc b) ≡ t → (a ≤ b → sum_below f a ≤ sum_below f b)
        → sum_below f a ≤ sum_below f b + f b
    by true e rest =
        let same : suc b ≡ a = grind (arith, nat_tests, e) in
        subst (λ (k : ℕ). sum_below f k ≤ sum_below f (suc b)) same (omega arith)
    by false e rest =
        let under : a ≤ b = grind (arith, nat_tests, e, less) in
        let before = rest under in
        omega (arith, before)

-- f and g are the same from a number on, where f has none below
pub sums_from : (f g : ℕ → ℕ) (m n : ℕ) → m ≤ n → ((k : ℕ) → k < m → f k ≡ 0)
    → ((k : ℕ) → m ≤ k → k < n → f k ≡ g k) → sum_below g n ≡ sum_below g m + sum_below f n
sums_from f g m zero least none same =
    let is : m ≡ 0 = omega (arith, least) in
    subst (λ (k : ℕ). 0 ≡ sum_below g k + 0) (sym is) (omega arith)
sums_from f g m (suc n) least none same =
    by (m == suc n) refl
    (λ under. sums_from f g m n under none (λ k l h. same k l (omega (arith, h))))
  where
    by : (b : Bool) → (m == suc n) ≡ b
        → (m ≤ n → sum_below g n ≡ sum_below g m + sum_below f n)
        → sum_below g (suc n) ≡ sum_below g m + sum_below f (suc n)
    by true e rest =
        let is : suc n ≡ m = grind (arith, nat_tests, e) in
        let nothing : sum_below f (suc n) ≡ 0 =
        sum_none f (suc n) (λ k l. none k (omega (arith, l, is))) in
        subst (λ (k : ℕ). sum_below g (suc n) ≡ sum_below g k + sum_below f (suc n)) is
        (omega (arith, nothing))
    by false e rest =
        let under : m ≤ n = grind (arith, nat_tests, e, least) in
        let before = rest under in
        let here = same n under (omega arith) in
        omega (arith, before, here)

-- where there is none behind a number
pub sums_end : (f : ℕ → ℕ) (n more : ℕ) → ((k : ℕ) → n ≤ k → f k ≡ 0)
    → sum_below f (n + more) ≡ sum_below f n
sums_end f n zero none =
    let same : n + 0 ≡ n = omega arith in ap (sum_below f) same
sums_end f n (suc more) none =
    let rest = sums_end f n more none in
    let here = none (n + more) (omega arith) in
    let sum : sum_below f (suc (n + more)) ≡ sum_below f n = omega (arith, rest, here) in
    let same : n + suc more ≡ suc (n + more) = omega arith in
    ap (sum_below f) same ∙ sum

-- ---- where it is of

-- f: the OUT_R1/A7 that the client put on each channel that the in proxy reads; often: the
-- OUT_R1/A8 that it put; base: the OUT_R1/A7 on the channels before its own
module _ (Comes : Leg → Cookie → Type 0)
    (one : (leg : Leg) (a b : Cookie) → Comes leg a → Comes leg b → a ≡ b) (f : ℕ → ℕ)
    (base often : ℕ) (most : (n : ℕ) → sum_below f n ≤ suc often) where
  -- it came on a channel, and is of an OUT channel of such a number
  pub record IsPlaced (cookie : Cookie) : Type 0 where
    pub number : ℕ
    pub switched : ℕ
    pub near : IsNear Comes (base + switched) cookie
    pub low : sum_below f (suc number) ≤ suc switched
    pub high : switched ≤ sum_below f (suc number)
    pub reach : often ≤ sum_below f (suc (suc number))

  -- behind one channel alone so many were reached first
  record IsLow (n : ℕ) : Type 0 where
    under : sum_below f (suc n) < often
    reach : often ≤ sum_below f (suc (suc n))

  low_one : (a b : ℕ) → IsLow a → IsLow b → a ≡ b
  low_one a b h k = by (nat_lt a b) refl (nat_lt b a) refl
    where
      by : (s : Bool) → nat_lt a b ≡ s → (t : Bool) → nat_lt b a ≡ t → a ≡ b
      by true e t g =
          let less : suc (suc a) ≤ suc b = grind (arith, nat_tests, e) in
          let rise = sums_rise f (suc (suc a)) (suc b) less in
          let reach = h.reach in
          let under = k.under in
          absurd (omega (arith, rise, reach, under))
      by false e true g =
          let less : suc (suc b) ≤ suc a = grind (arith, nat_tests, g) in
          let rise = sums_rise f (suc (suc b)) (suc a) less in
          let reach = k.reach in
          let under = h.under in
          absurd (omega (arith, rise, reach, under))
      by false e false g = grind (arith, nat_tests, e, g)

  -- by what was put on the channels up to one
  abbrev pub names : ℕ → List ℕ
  names reached = 0 ∷ (window (base + often) 5 ++ window (base + reached) 4)

  abbrev Named : ℕ → Cookie → Type 0
  Named reached cookie = Among Comes one (names reached) cookie

  high_named : (reached : ℕ) (cookie : Cookie) (p : IsPlaced cookie)
      → often ≤ suc p.switched → Named reached cookie
  high_named reached cookie p least = by p.near
    where
      by : IsNear Comes (base + p.switched) cookie → Named reached cookie
      by (inl none) = inl none
      by (inr h) =
          let low = h.low in
          let high = h.high in
          let above = p.high in
          let top = most (suc p.number) in
          inr (among_first Comes one (window (base + often) 5) (window (base + reached) 4) cookie
          (among_window Comes one (base + often) 5 (suc h.number) cookie
          (omega (arith, low, least)) (omega (arith, high, above, top)) h.comes))

  low_named : (cookie : Cookie) (p : IsPlaced cookie)
      → Named (sum_below f (suc p.number)) cookie
  low_named cookie p = by p.near
    where
      reached : ℕ
      reached = sum_below f (suc p.number)

      by : IsNear Comes (base + p.switched) cookie
          → Named (sum_below f (suc p.number)) cookie
      by (inl none) = inl none
      by (inr h) =
          let low = h.low in
          let high = h.high in
          let above = p.high in
          let under = p.low in
          inr (among_last Comes one (window (base + often) 5)
          (window (base + sum_below f (suc p.number)) 4) cookie
          (among_window Comes one (base + sum_below f (suc p.number)) 4 (suc h.number) cookie
          (omega (arith, low, under)) (omega (arith, high, above)) h.comes))

  -- one of two
  high_or_low : (cookie : Cookie) (p : IsPlaced cookie)
      → (often ≤ suc p.switched) ⊎ IsLow p.number
  high_or_low cookie p = by (nat_lt (suc p.switched) often) refl
    where
      by : (b : Bool) → nat_lt (suc p.switched) often ≡ b
          → (often ≤ suc p.switched) ⊎ IsLow p.number
      by false e = inl (grind (arith, nat_tests, e))
      by true e =
          let less : suc p.switched < often = grind (arith, nat_tests, e) in
          let low = p.low in
          inr (record { under = omega (arith, less, low); reach = p.reach })

  all_named : (n : ℕ) → IsLow n → (cookie : Cookie) → IsPlaced cookie
      → Named (sum_below f (suc n)) cookie
  all_named n h cookie p = by (high_or_low cookie p)
    where
      by : (often ≤ suc p.switched) ⊎ IsLow p.number → Named (sum_below f (suc n)) cookie
      by (inl least) = high_named (sum_below f (suc n)) cookie p least
      by (inr low) =
          subst (λ (k : ℕ). Named (sum_below f (suc k)) cookie) (low_one p.number n low h)
          (low_named cookie p)

  find : (cookies : List Cookie) → AllByRecursion IsPlaced cookies
      → AllByRecursion (Named 0) cookies ⊎ ((n : ℕ) × IsLow n)
  find [] all = inl tt
  find (cookie ∷ cookies) all = by (high_or_low cookie all.0) (find cookies all.1)
    where
      by : (often ≤ suc all.0.switched) ⊎ IsLow all.0.number
          → AllByRecursion (Named 0) cookies ⊎ ((n : ℕ) × IsLow n)
          → AllByRecursion (Named 0) (cookie ∷ cookies) ⊎ ((n : ℕ) × IsLow n)
      by (inr low) rest = inr (all.0.number, low)
      by (inl least) (inl rest) = inl (high_named 0 cookie all.0 least, rest)
      by (inl least) (inr low) = inr low

  pub few_placed : (cookies : List Cookie) → AllByRecursion IsPlaced cookies
      → (reached : ℕ) × AllByRecursion (Named reached) cookies
  few_placed cookies all = by (find cookies all)
    where
      by : AllByRecursion (Named 0) cookies ⊎ ((n : ℕ) × IsLow n)
          → (reached : ℕ) × AllByRecursion (Named reached) cookies
      by (inl high) = (0, high)
      by (inr low) = (
        sum_below f (suc low.0),
        each_so IsPlaced (Named (sum_below f (suc low.0))) (all_named low.0 low.1) cookies all,
      )
