-- legs in the order in which they were met
use Rattle.std.specs.Prelude.{ℕ, suc, ◌==◌, ◌&&◌, List, [], ◌∷◌, Bool, true, if◌then◌else◌}
use Rattle.rh_line.specs.declared.leg.Leg.{Leg}
use Rattle.rh_audit.specs.Links.{same_kind}

abbrev pub same_leg : Leg → Leg → Bool
same_leg a b = same_kind a.kind b.kind && a.number == b.number

-- the tag of a leg: its place among those that were met, from 1; one that was not is the next
abbrev pub tag_of : List Leg → Leg → ℕ
tag_of [] leg = 1
tag_of (one ∷ legs) leg = if same_leg one leg then 1 else suc (tag_of legs leg)

-- the legs with this one, which is the last where it was not met
abbrev pub with_leg : List Leg → Leg → List Leg
with_leg [] leg = leg ∷ []
with_leg (one ∷ legs) leg = if same_leg one leg then one ∷ legs else one ∷ with_leg legs leg
