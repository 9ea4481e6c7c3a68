-- fronts of two lists, one behind the other
use Rattle.law_order.proofs.Vocabulary.{◌≡◌, ◌<◌, ◌++◌, ◌⊎◌, ℕ, List, [], ◌∷◌, length, get_or, drop, refl, ap, ap₂, inl, inr, arith, IsPrefix}

-- a strict front
pub record IsCutFrom (text bytes : List ℕ) : Type 0 where
  pub rest : List ℕ
  pub joined : bytes ++ rest ≡ text
  pub some : 0 < length rest

-- all of it, and then a front of what is behind
pub record IsBehind (text behind bytes : List ℕ) : Type 0 where
  pub front : List ℕ
  pub is : bytes ≡ text ++ front
  pub of_behind : IsPrefix front behind

pub front_of : (text behind bytes : List ℕ) → IsPrefix bytes (text ++ behind)
    → IsCutFrom text bytes ⊎ IsBehind text behind bytes
front_of [] behind bytes p = inr (record { front = bytes; is = refl; of_behind = p })
front_of (t ∷ text) behind [] p =
    inl (record { rest = t ∷ text; joined = refl; some = omega arith })
front_of (t ∷ text) behind (b ∷ bytes) p =
    by (front_of text behind bytes (p.0, ap (drop 1) p.1))
  where
    first : b ≡ t
    first = ap (λ (l : List ℕ). get_or l 0 0) p.1

    by : IsCutFrom text bytes ⊎ IsBehind text behind bytes
        → IsCutFrom (t ∷ text) (b ∷ bytes) ⊎ IsBehind (t ∷ text) behind (b ∷ bytes)
    by (inl cut) = inl (record {
      rest = cut.rest;
      joined = ap₂ (λ (x : ℕ) (l : List ℕ). x ∷ l) first cut.joined;
      some = cut.some;
    })
    by (inr all) = inr (record {
      front = all.front;
      is = ap₂ (λ (x : ℕ) (l : List ℕ). x ∷ l) first all.is;
      of_behind = all.of_behind;
    })
