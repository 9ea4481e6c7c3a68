-- a front of two texts, one behind the other
use Rattle.law_order.proofs.Vocabulary.{◌≡◌, ◌⊎◌, ℕ, List, [], ◌∷◌, ◌++◌, get_or, drop, inl, inr, refl, ap, IsPrefix}

-- the front ends within the first, or reaches into the second
abbrev pub Parted : List ℕ → List ℕ → List ℕ → Type 0
Parted front a b =
    ((y : ℕ) × (rest : List ℕ) × (front ++ y ∷ rest ≡ a))
    ⊎ ((more : List ℕ) × (front ≡ a ++ more) × IsPrefix more b)

pub parted : (front a b : List ℕ) → IsPrefix front (a ++ b) → Parted front a b
parted front [] b p = inr (front, refl, p)
parted [] (y ∷ a) b p = inl (y, a, refl)
parted (x ∷ front) (y ∷ a) b p =
    longer x y front a b (ap (λ (l : List ℕ). get_or l 0 0) p.1)
    (parted front a b (p.0, ap (λ (l : List ℕ). drop 1 l) p.1))
  where
    longer : (x y : ℕ) (front a b : List ℕ) → x ≡ y → Parted front a b
        → Parted (x ∷ front) (y ∷ a) b
    longer x y front a b e (inl h) = inl (h.0, h.1, cc)
    longer x y front a b e (inr h) = inr (h.0, cc, h.2)
