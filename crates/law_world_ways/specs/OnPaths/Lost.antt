-- the legs of which a node was told that they are lost (profile)
use Rattle.std.specs.Prelude.{List, Bool, false}
use Rattle.std.specs.List.{list_any}
use Rattle.rh_line.specs.declared.leg.Leg.{Leg}
use Rattle.rh_shell.specs.Shells.{same_leg}
use Rattle.law_moves.specs.Moving.{Event, Ends, Breaks}

-- the node is told that the leg ended or broke
abbrev pub is_loss_of : Leg → Event → Bool
is_loss_of leg (Ends other) = same_leg other leg
is_loss_of leg (Breaks other) = same_leg other leg
is_loss_of leg event = false

abbrev pub was_lost : Leg → List Event → Bool
was_lost leg events = list_any (is_loss_of leg) events
