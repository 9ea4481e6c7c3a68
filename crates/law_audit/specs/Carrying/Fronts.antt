-- legs of a chain, and the side of a route whose legs they are (profile)
use Rattle.std.specs.Prelude.{◌≡◌, ◌⊎◌, ◌++◌, ℕ, zero, suc, List, [], ◌∷◌, true, false}
use Rattle.rh_audit.specs.Chains.{Leg}
use Rattle.law_order.specs.Items.{has_handover, pdus}
use Rattle.law_audit.specs.FarAndNear.Seen.{Side}

-- the leg tells what is seen on that of this number
pub record IsLegOf (side : Side) (n : ℕ) (legs : List Leg) : Type 0 where
  pub there : side.there n ≡ true
  pub leg : Leg
  pub is : legs ≡ leg ∷ []
  pub pdus_are : leg.pdus ≡ pdus (side.seen n)
  pub marked : leg.marked ≡ has_handover (side.seen n)

-- or there is none
abbrev pub IsNumber : Side → ℕ → List Leg → Type 0
IsNumber side n legs = ((side.there n ≡ false) × (legs ≡ [])) ⊎ IsLegOf side n legs

-- the legs of so many numbers from one on, in order
abbrev pub AreInOrder : Side → ℕ → ℕ → List Leg → Type 0
AreInOrder side n zero legs = legs ≡ []
AreInOrder side n (suc more) legs =
    (here : List Leg) × (rest : List Leg) × (legs ≡ here ++ rest) × IsNumber side n here
    × AreInOrder side (suc n) more rest

-- all of a side
abbrev pub AreLegsOf : Side → List Leg → Type 0
AreLegsOf side legs = AreInOrder side 0 (suc side.most) legs
