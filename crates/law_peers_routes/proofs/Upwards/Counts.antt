-- channels by their numbers: each has a leg of its own at the server, or is carried on that of one
-- before it, whose in proxy reads it
use Rattle.law_order.proofs.Vocabulary.{◌≡◌, ◌≢◌, ◌⊎◌, ℕ, ◌+◌, ◌<◌, ◌≤◌, Bool, true, false, ◌||◌, nat_eq, nat_le, refl, sym, ◌∙◌, subst, arith, inl, inr, or_left, or_right, nat_tests}
use Rattle.law_moves.proofs.Vocabulary.{same_number, other_number}

-- in proxy m reads channel n; reader n is the one that does; final m is how often in proxy m told
-- the server of one
pub record AreRead (made : ℕ → Bool) (reader : ℕ → ℕ) (reads : ℕ → ℕ → Bool) (final : ℕ → ℕ)
    : Type 0 where
  pub own : (n : ℕ) → made n ≡ true → reader n ≡ n
  pub read : (m n : ℕ) → reads m n ≡ true → reader n ≡ m
  pub all : (m j : ℕ) → 0 < j → j ≤ final m → reads m (m + j) ≡ true

module _ (made : ℕ → Bool) (reader : ℕ → ℕ) (reads : ℕ → ℕ → Bool) (final : ℕ → ℕ)
    (are : AreRead made reader reads final) where
  -- channel n is carried on leg m, where a tells how many are carried on each
  pub record IsCarried (a : ℕ → ℕ) (n : ℕ) : Type 0 where
    pub on : ℕ
    pub read : reads on n ≡ true
    pub above : on < n
    pub within : n ≤ on + a on

  -- u: the legs that came up; the numbers up to this one were given to them and to channels
  abbrev pub AreGiven : (ℕ → Bool) → (ℕ → ℕ) → ℕ → Type 0
  AreGiven u a most = (n : ℕ) → 0 < n → n ≤ most → (u n ≡ true) ⊎ IsCarried a n

  -- the legs up to this number, but for the first, are those of in proxies
  abbrev pub AreMade : (ℕ → Bool) → ℕ → Type 0
  AreMade u most = (n : ℕ) → 1 < n → n ≤ most → u n ≡ true → made n ≡ true

  -- all numbers up to the newest were given so
  record Full (u : ℕ → Bool) (a : ℕ → ℕ) (newest : ℕ) : Type 0 where
    given : AreGiven u a newest
    room : (m : ℕ) → 0 < a m → m + a m ≤ newest

  -- the numbers were given so below the first leg of which there is no in proxy
  pub record Counted (u : ℕ → Bool) (a : ℕ → ℕ) (newest : ℕ) : Type 0 where
    low : (m : ℕ) → u m ≡ true → (0 < m) × (m ≤ newest)
    full : AreMade u newest → Full u a newest
    pub given : (most : ℕ) → most ≤ newest → AreMade u most → AreGiven u a most

  pub none_counted : (u : ℕ → Bool) (a : ℕ → ℕ) → ((n : ℕ) → u n ≡ false)
      → ((n : ℕ) → a n ≡ 0) → Counted u a 0
  none_counted u a up none = record {
    low = λ m e. absurd (let f = sym (up m) ∙ e in cc);
    full = λ makes. record {
      given = λ n above below. absurd (omega (arith, above, below));
      room = λ m some. absurd (let e = none m in omega (arith, some, e));
    };
    given = λ most least makes n above below. absurd (omega (arith, above, below, least));
  }

  -- what was given stays so
  more_given : (u v : ℕ → Bool) (a b : ℕ → ℕ) → ((n : ℕ) → u n ≡ true → v n ≡ true)
      → ((n : ℕ) → a n ≤ b n) → (n : ℕ) → (u n ≡ true) ⊎ IsCarried a n
      → (v n ≡ true) ⊎ IsCarried b n
  more_given u v a b ups counts n (inl e) = inl (ups n e)
  more_given u v a b ups counts n (inr e) = inr (record {
    on = e.on;
    read = e.read;
    above = e.above;
    within = let f = counts e.on in let r = e.within in omega (arith, r, f);
  })

  -- up to a number below the newest one, or up to that
  up_to : (u v : ℕ → Bool) (a b : ℕ → ℕ) (newest now : ℕ) → now ≡ newest + 1
      → ((n : ℕ) → u n ≡ true → v n ≡ true) → ((n : ℕ) → a n ≤ b n) → Counted u a newest
      → (AreMade v now → Full v b now)
      → (most : ℕ) → most ≤ now → AreMade v most → AreGiven v b most
  up_to u v a b newest now next ups counts c all most least makes =
      by (nat_le most newest) refl
    where
      by : (t : Bool) → nat_le most newest ≡ t → AreGiven v b most
      by true e n above below =
          more_given u v a b ups counts n
          (c.given most (grind (arith, nat_tests))
          (λ k some low is. makes k some low (ups k is)) n above below)
      by false e n above below =
          let high : newest < most = grind (arith, nat_tests) in
          let same : most ≡ now = omega (arith, next, least, high) in
          (all (λ k some low is. makes k some (omega (arith, low, same)) is)).given n above
          (omega (arith, below, same))

  -- nothing that counts has changed
  pub same_counted : (u v : ℕ → Bool) (a b : ℕ → ℕ) (newest now : ℕ) → ((n : ℕ) → v n ≡ u n)
      → ((n : ℕ) → b n ≡ a n) → now ≡ newest → Counted u a newest → Counted v b now
  same_counted u v a b newest now ups counts same c = record {
    low = λ m e. let r = c.low m (sym (ups m) ∙ e) in (r.0, omega (arith, r.1, same));
    full = λ makes.
        let f = c.full (λ n some low is. makes n some (omega (arith, low, same)) (ups n ∙ is)) in
        record {
          given = λ n above below. still n (f.given n above (omega (arith, below, same)));
          room = λ m some. let e = counts m in let r = f.room m (omega (arith, e, some)) in
              omega (arith, r, e, same);
        };
    given = λ most least makes n above below.
        still n (c.given most (omega (arith, least, same))
        (λ k some low is. makes k some low (ups k ∙ is)) n above below);
  }
    where
      still : (n : ℕ) → (u n ≡ true) ⊎ IsCarried a n → (v n ≡ true) ⊎ IsCarried b n
      still = more_given u v a b (λ n is. ups n ∙ is)
          (λ n. let e = counts n in omega (arith, e))

  -- a leg comes up with the next number
  pub risen_counted : (u v : ℕ → Bool) (a : ℕ → ℕ) (newest n : ℕ) → n ≡ newest + 1
      → ((k : ℕ) → v k ≡ u k || nat_eq k n) → Counted u a newest → Counted v a n
  risen_counted u v a newest n next ups c = record {
    low = λ m e. low m (u m) (nat_eq m n) refl refl (sym (ups m) ∙ e);
    full = full;
    given = up_to u v a a newest n next more (λ k. omega arith) c full;
  }
    where
      more : (k : ℕ) → u k ≡ true → v k ≡ true
      more k e = ups k ∙ or_left (u k) (nat_eq k n) e

      low : (m : ℕ) (b t : Bool) → u m ≡ b → nat_eq m n ≡ t → b || t ≡ true
          → (0 < m) × (m ≤ n)
      low m true t p q e = let r = c.low m p in (r.0, omega (arith, r.1, next))
      low m false true p q e =
          let same = same_number m n q in (omega (arith, same, next), omega (arith, same))
      low m false false p q e = absurd cc

      full : AreMade v n → Full v a n
      full makes =
          let f = c.full (λ k some low is. makes k some (omega (arith, low, next)) (more k is)) in
          record {
            given = λ k above below. by f k above below (nat_eq k n) refl;
            room = λ m some. let r = f.room m some in omega (arith, r, next);
          }
        where
          by : Full u a newest → (k : ℕ) → 0 < k → k ≤ n → (t : Bool) → nat_eq k n ≡ t
              → (v k ≡ true) ⊎ IsCarried a k
          by f k above below true e = inl (ups k ∙ or_right (u k) (nat_eq k n) e)
          by f k above below false e =
              let other = other_number k n e in
              more_given u v a a more (λ j. omega arith) k
              (f.given k above (omega (arith, below, next, other)))

  -- leg m carries one channel more
  module _ (u : ℕ → Bool) (a b : ℕ → ℕ) (newest m : ℕ) (up : u m ≡ true)
      (more : b m ≡ a m + 1) (others : (k : ℕ) → k ≢ m → b k ≡ a k) (within : b m ≤ final m)
      (c : Counted u a newest) where
    reaches : reads m (m + b m) ≡ true
    reaches = are.all m (b m) (omega (arith, more)) within

    grown : (k : ℕ) → a k ≤ b k
    grown k = by (nat_eq k m) refl
      where
        by : (t : Bool) → nat_eq k m ≡ t → a k ≤ b k
        by true e =
            let same = same_number k m e in
            subst (λ j. a j ≤ b j) (sym same) (omega (arith, more))
        by false e = let same = others k (other_number k m e) in omega (arith, same)

    still_given : (k : ℕ) → (u k ≡ true) ⊎ IsCarried a k → (u k ≡ true) ⊎ IsCarried b k
    still_given = more_given u u a b (λ k is. is) grown

    module _ (makes : AreMade u newest) (f : Full u a newest) where
      top : m + a m ≤ newest
      top = by (nat_eq (a m) 0) refl
        where
          by : (t : Bool) → nat_eq (a m) 0 ≡ t → m + a m ≤ newest
          by true e =
              let zero = same_number (a m) 0 e in let r = (c.low m up).1 in
              omega (arith, zero, r)
          by false e =
              let some = other_number (a m) 0 e in f.room m (omega (arith, some))

      -- the number behind those that leg m carries was not given
      taken : (u (m + b m) ≡ true) ⊎ IsCarried a (m + b m) → ⊥
      taken (inl e) =
          let some = (c.low m up).0 in
          let low = (c.low (m + b m) e).1 in
          let own = are.own (m + b m) (makes (m + b m) (omega (arith, some, more)) low e) in
          let read = are.read m (m + b m) reaches in
          absurd (omega (arith, own, read, more))
      taken (inr e) =
          let one = are.read e.on (m + b m) e.read in
          let other = are.read m (m + b m) reaches in
          let same : e.on ≡ m = sym one ∙ other in
          let most = subst (λ k. m + b m ≤ k + a k) same e.within in
          absurd (omega (arith, most, more))

      -- so it is the next one
      next : newest + 1 ≡ m + b m
      next = by (nat_le (m + b m) newest) refl
        where
          by : (t : Bool) → nat_le (m + b m) newest ≡ t → newest + 1 ≡ m + b m
          by true e =
              let below : m + b m ≤ newest = grind (arith, nat_tests) in
              absurd (taken (f.given (m + b m) (omega (arith, more)) below))
          by false e =
              let above : newest < m + b m = grind (arith, nat_tests) in
              omega (arith, above, top, more)

      given : (k : ℕ) → 0 < k → k ≤ newest + 1 → (t : Bool) → nat_le k newest ≡ t
          → (u k ≡ true) ⊎ IsCarried b k
      given k above below true e =
          let least : k ≤ newest = grind (arith, nat_tests) in
          still_given k (f.given k above least)
      given k above below false e =
          let most : newest < k = grind (arith, nat_tests) in
          let same : k ≡ m + b m = omega (arith, most, below, next) in
          inr (record {
            on = m;
            read = subst (λ j. reads m j ≡ true) (sym same) reaches;
            above = omega (arith, same, more);
            within = omega (arith, same);
          })

      room : (k : ℕ) (t : Bool) → nat_eq k m ≡ t → 0 < b k → k + b k ≤ newest + 1
      room k true e some =
          let same = same_number k m e in
          subst (λ j. j + b j ≤ newest + 1) (sym same) (omega (arith, next))
      room k false e some =
          let same = others k (other_number k m e) in
          let r = f.room k (omega (arith, some, same)) in
          omega (arith, r, same)

    full : AreMade u (newest + 1) → Full u b (newest + 1)
    full makes =
        let below : AreMade u newest =
        (λ k some low is. makes k some (omega (arith, low)) is) in
        let f = c.full below in
        record {
          given = λ k above least. given below f k above least (nat_le k newest) refl;
          room = λ k some. room below f k (nat_eq k m) refl some;
        }

    pub carried_counted : Counted u b (newest + 1)
    carried_counted = record {
      low = λ k e. let r = c.low k e in (r.0, omega (arith, r.1));
      full = full;
      given = up_to u u a b newest (newest + 1) refl (λ k is. is) grown c full;
    }
