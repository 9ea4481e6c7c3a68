-- no more cookies than numbers of their channels
use Rattle.law_order.proofs.Vocabulary.{◌≡◌, inl, inr, ℕ, zero, suc, ◌+◌, ◌<◌, ◌≤◌, nat_lt, Bool, true, false, List, [], ◌∷◌, length, refl, subst, arith, nat_tests, AllByRecursion}
use Rattle.law_moves.proofs.Vocabulary.{Cookie}
use Rattle.law_peers_room.specs.OutRoom.Waits.{AreDifferent}
use Rattle.law_peers_forwarding.proofs.ServerFull.Counting.{Less, less}
use Rattle.law_peers_forwarding.specs.ServerFull.Few.{IsAmong}

-- ---- cookies

module _ (Is : Cookie → ℕ → Type 0)
    (own : (n : ℕ) (a b : Cookie) → Is a n → Is b n → a ≡ b) where
  -- each has a number among these
  abbrev pub HaveNumbers : List ℕ → List Cookie → Type 0
  HaveNumbers all cookies =
      AllByRecursion (λ (cookie : Cookie). (n : ℕ) × Is cookie n × IsAmong n all) cookies

  pub no_more : (cookies : List Cookie) (all : List ℕ) → AreDifferent cookies
      → HaveNumbers all cookies → length cookies ≤ length all
  no_more [] all different each = omega arith
  no_more (cookie ∷ cookies) all different each =
      let rest = no_more cookies others.others different.1
      (leave cookies different.0 each.1) in
      let one = others.one in omega (arith, rest, one)
    where
      others : Less each.0.0 all
      others = less each.0.0 all each.0.2

      leave : (cs : List Cookie) → AllByRecursion (λ (c : Cookie). c ≡ cookie → ⊥) cs
          → HaveNumbers all cs → HaveNumbers others.others cs
      leave [] apart have = tt
      leave (c ∷ cs) apart have = (
        (
          have.0.0,
          have.0.1,
          others.each have.0.0
              (λ same. apart.0 (own each.0.0 c cookie
              (subst (Is c) same have.0.1) each.0.1)) have.0.2,
        ),
        leave cs apart.1 have.1,
      )

-- ---- numbers

-- the next so many
abbrev pub behind_number : ℕ → ℕ → List ℕ
behind_number n zero = []
behind_number n (suc k) = suc n ∷ behind_number (suc n) k

pub so_many : (n k : ℕ) → length (behind_number n k) ≡ k
so_many n zero = refl
so_many n (suc k) = let rest = so_many (suc n) k in omega (arith, rest)

pub among_next : (n k i : ℕ) → n < i → i ≤ n + k → IsAmong i (behind_number n k)
among_next n zero i above below = absurd (omega (arith, above, below))
among_next n (suc k) i above below =
    by (nat_lt (suc n) i) refl (λ more. among_next (suc n) k i more (omega (arith, below)))
  where
    by : (b : Bool) → nat_lt (suc n) i ≡ b
        → (suc n < i → IsAmong i (behind_number (suc n) k))
        → IsAmong i (suc n ∷ behind_number (suc n) k)
    by true e rest =
        let more : suc n < i = grind (arith, nat_tests, e) in inr (rest more)
    by false e rest =
        let most : i ≤ suc n = grind (arith, nat_tests, e) in
        inl (omega (arith, most, above))
