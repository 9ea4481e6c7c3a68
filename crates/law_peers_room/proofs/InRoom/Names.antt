-- no more cookies that are apart than names that they have
use Rattle.law_order.proofs.Vocabulary.{◌≡◌, ◌⊎◌, ℕ, zero, suc, ◌+◌, ◌≤◌, ◌<◌, ◌==◌, Bool, true, false, List, [], ◌∷◌, ◌++◌, length, inl, inr, arith, refl, sym, ◌∙◌, subst, nat_tests, AllByRecursion}
use Rattle.law_moves.proofs.Vocabulary.{Cookie, Leg}
use Rattle.law_moves.proofs.Lemmas.{each_so}
use Rattle.law_role_client.proofs.Vocabulary.{no_cookie, co}

abbrev pub AreDistinct : List Cookie → Type 0
AreDistinct [] = Unit {0}
AreDistinct (cookie ∷ cookies) =
    AllByRecursion (λ (other : Cookie). cookie ≡ other → ⊥) cookies × AreDistinct cookies

-- numbers in a row
abbrev pub window : ℕ → ℕ → List ℕ
window start zero = []
window start (suc count) = start ∷ window (suc start) count

-- Comes says of a leg and a cookie that the leg came up with it, each with one
module _ (Comes : Leg → Cookie → Type 0)
    (one : (leg : Leg) (a b : Cookie) → Comes leg a → Comes leg b → a ≡ b) where
  -- 0 names the cookie that stands for none, and each other number that of the OUT channel before
  abbrev pub IsNamed : ℕ → Cookie → Type 0
  IsNamed zero cookie = cookie ≡ no_cookie
  IsNamed (suc n) cookie = Comes (co n) cookie

  named_one : (n : ℕ) (a b : Cookie) → IsNamed n a → IsNamed n b → a ≡ b
  named_one zero a b h k = h ∙ sym k
  named_one (suc n) a b h k = one (co n) a b h k

  abbrev pub Among : List ℕ → Cookie → Type 0
  Among [] cookie = ⊥
  Among (n ∷ names) cookie = IsNamed n cookie ⊎ Among names cookie

  pub among_first : (a b : List ℕ) (cookie : Cookie) → Among a cookie → Among (a ++ b) cookie
  among_first [] b cookie h = absurd h
  among_first (n ∷ a) b cookie (inl is) = inl is
  among_first (n ∷ a) b cookie (inr more) = inr (among_first a b cookie more)

  pub among_last : (a b : List ℕ) (cookie : Cookie) → Among b cookie → Among (a ++ b) cookie
  among_last [] b cookie h = h
  among_last (n ∷ a) b cookie h = inr (among_last a b cookie h)

  pub among_window : (start count n : ℕ) (cookie : Cookie) → start ≤ n → n < start + count
      → IsNamed n cookie → Among (window start count) cookie
  among_window start zero n cookie low high h = absurd (omega (arith, low, high))
  among_window start (suc count) n cookie low high h =
      by (among_window (suc start) count n cookie) (start == n) refl
    where
      by : (suc start ≤ n → n < suc start + count → IsNamed n cookie
          → Among (window (suc start) count) cookie) → (b : Bool) → (start == n) ≡ b
          → Among (window start (suc count)) cookie
      by rest true e =
          let is : start ≡ n = grind (arith, nat_tests, e) in
          inl (subst (λ (k : ℕ). IsNamed k cookie) (sym is) h)
      by rest false e =
          let above : suc start ≤ n = grind (arith, nat_tests, e, low) in
          inr (rest above (omega (arith, high)) h)

  -- ---- without those of one name

  record Others (names : List ℕ) (cookies : List Cookie) : Type 1 where
    others : List Cookie
    apart : AreDistinct others
    among : AllByRecursion (Among names) others
    few : length cookies ≤ suc (length others)
    -- they are of them
    of : (P : Cookie → Type 0) → AllByRecursion P cookies → AllByRecursion P others

  without : (n : ℕ) (names : List ℕ) (cookies : List Cookie) → AreDistinct cookies
      → AllByRecursion (Among (n ∷ names)) cookies → Others names cookies
  without n names [] apart among = record {
    others = [];
    apart = tt;
    among = tt;
    few = omega arith;
    of = λ P all. tt;
  }
  without n names (cookie ∷ cookies) apart among =
      by (without n names cookies apart.1 among.1) among.0
    where
      others_named : IsNamed n cookie → (other : Cookie)
          → (cookie ≡ other → ⊥) × Among (n ∷ names) other → Among names other
      others_named is other (differs, inl named) =
          absurd (differs (named_one n cookie other is named))
      others_named is other (differs, inr more) = more

      both : (ds : List Cookie) → AllByRecursion (λ (other : Cookie). cookie ≡ other → ⊥) ds
          → AllByRecursion (Among (n ∷ names)) ds
          → AllByRecursion (λ (other : Cookie).
          (cookie ≡ other → ⊥) × Among (n ∷ names) other) ds
      both [] a b = tt
      both (d ∷ ds) a b = ((a.0, b.0), both ds a.1 b.1)

      by : Others names cookies → Among (n ∷ names) cookie → Others names (cookie ∷ cookies)
      by rest (inl is) = record {
        others = cookies;
        apart = apart.1;
        among = each_so
            (λ (other : Cookie). (cookie ≡ other → ⊥) × Among (n ∷ names) other) (Among names)
            (others_named is) cookies (both cookies apart.0 among.1);
        few = omega arith;
        of = λ P all. all.1;
      }
      by rest (inr more) = record {
        others = cookie ∷ rest.others;
        apart = (rest.of (λ (other : Cookie). cookie ≡ other → ⊥) apart.0, rest.apart);
        among = (more, rest.among);
        few = let few = rest.few in omega (arith, few);
        of = λ P all. (all.0, rest.of P all.1);
      }

  pub no_more : (names : List ℕ) (cookies : List Cookie) → AreDistinct cookies
      → AllByRecursion (Among names) cookies → length cookies ≤ length names
  no_more [] [] apart among = omega arith
  no_more [] (cookie ∷ cookies) apart among = absurd among.0
  no_more (n ∷ names) cookies apart among =
      let rest = without n names cookies apart among in
      let few = rest.few in
      let most = no_more names rest.others rest.apart rest.among in
      omega (arith, few, most)
