-- lists of numbers: one behind another, and the numbers that follow one
use Rattle.law_order.proofs.Vocabulary.{◌≡◌, ◌⊎◌, inl, inr, ℕ, zero, suc, ◌+◌, ◌<◌, ◌≤◌, List, [], ◌∷◌, ◌++◌, length, refl, ap, arith}
use Rattle.law_peers_forwarding.specs.ServerFull.Few.{IsAmong}

-- ---- one behind another

pub among_front : (n : ℕ) (a b : List ℕ) → IsAmong n a → IsAmong n (a ++ b)
among_front n [] b h = absurd h
among_front n (first ∷ a) b (inl is) = inl is
among_front n (first ∷ a) b (inr h) = inr (among_front n a b h)

pub among_behind : (n : ℕ) (a b : List ℕ) → IsAmong n b → IsAmong n (a ++ b)
among_behind n [] b h = h
among_behind n (first ∷ a) b h = inr (among_behind n a b h)

-- ---- so many that follow a number

abbrev pub next_ones : ℕ → ℕ → List ℕ
next_ones n zero = []
next_ones n (suc count) = suc n ∷ next_ones (suc n) count

pub as_many : (n count : ℕ) → length (next_ones n count) ≡ count
as_many n zero = refl
as_many n (suc count) = ap suc (as_many (suc n) count)

-- a number that is no less is the same, or greater
same_or_more : (a b : ℕ) → a ≤ b → (b ≡ a) ⊎ (a < b)
same_or_more zero zero h = inl refl
same_or_more zero (suc b) h = inr (omega arith)
same_or_more (suc a) zero h = absurd (omega (arith, h))
same_or_more (suc a) (suc b) h = by (same_or_more a b (omega (arith, h)))
  where
    by : (b ≡ a) ⊎ (a < b) → (suc b ≡ suc a) ⊎ (suc a < suc b)
    by (inl same) = inl (ap suc same)
    by (inr more) = inr (omega (arith, more))

pub among_next : (count n k : ℕ) → n < k → k ≤ n + count → IsAmong k (next_ones n count)
among_next zero n k above most = absurd (omega (arith, above, most))
among_next (suc count) n k above most =
    by (same_or_more (suc n) k (omega (arith, above))) (among_next count (suc n) k)
  where
    by : (k ≡ suc n) ⊎ (suc n < k)
        → (suc n < k → k ≤ suc n + count → IsAmong k (next_ones (suc n) count))
        → (k ≡ suc n) ⊎ IsAmong k (next_ones (suc n) count)
    by (inl is) rest = inl is
    by (inr more) rest = inr (rest more (omega (arith, most)))

-- how many follow one number up to another
pub record UpTo (a b : ℕ) : Type 0 where
  pub count : ℕ
  pub reaches : b ≤ a + count
  pub least : (count ≡ 0) ⊎ (a + count ≡ b)

pub up_to : (a b : ℕ) → UpTo a b
up_to zero b = record { count = b; reaches = omega arith; least = inr (omega arith) }
up_to (suc a) zero = record { count = 0; reaches = omega arith; least = inl refl }
up_to (suc a) (suc b) = more (up_to a b)
  where
    more : UpTo a b → UpTo (suc a) (suc b)
    more gap = record {
      count = gap.count;
      reaches = let reaches = gap.reaches in omega (arith, reaches);
      least = by gap.least;
    }
      where
        by : (gap.count ≡ 0) ⊎ (a + gap.count ≡ b)
            → (gap.count ≡ 0) ⊎ (suc a + gap.count ≡ suc b)
        by (inl none) = inl none
        by (inr is) = inr (omega (arith, is))
