-- nodes that were not told that a leg of theirs is lost (profile)
use Rattle.std.specs.Prelude.{List}
use Rattle.std.specs.List.{AllByRecursion}
use Rattle.rh_line.specs.declared.leg.Leg.{Leg}
use Rattle.law_moves.specs.Moving.{EndEvent, Event}
use Rattle.law_node_history.specs.Carried.{happened}
use Rattle.law_node_marks.specs.Losing.{KeepsLeg}

-- none of these events loses the leg
abbrev pub KeptLeg : Leg → List Event → Type 0
KeptLeg leg events = AllByRecursion (KeepsLeg leg) events

-- and none at an end
abbrev pub KeptLegAtEnd : Leg → List EndEvent → Type 0
KeptLegAtEnd leg events = AllByRecursion (KeepsLeg leg) (happened events)
