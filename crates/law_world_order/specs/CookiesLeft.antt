-- the legs that came up by events of a node, and how often one of them did (profile)
use Rattle.std.specs.Prelude.{ℕ, suc, List, [], ◌∷◌, if◌then◌else◌}
use Rattle.rh_line.specs.declared.leg.Leg.{Leg}
use Rattle.rh_shell.specs.Shells.{same_leg}
use Rattle.law_moves.specs.Moving.{Event, ComesUp}

abbrev pub legs_up : List Event → List Leg
legs_up [] = []
legs_up (ComesUp leg cookie ∷ events) = leg ∷ legs_up events
legs_up (event ∷ events) = legs_up events

abbrev pub times : Leg → List Leg → ℕ
times leg [] = 0
times leg (other ∷ legs) = if same_leg other leg then suc (times leg legs) else times leg legs
