-- changes that end a leg only where it is over (profile)
use Rattle.std.specs.Prelude.{◌≡◌, ◌++◌, IfSome, List, ◌∷◌, Some, None, true}
use Rattle.std.specs.declared.option.Option.{Option}
use Rattle.rh_text.specs.declared.ends.Dir.{Dir}
use Rattle.rh_line.specs.declared.leg.Leg.{Leg}
use Rattle.rh_wires.specs.Legs as legs
use Rattle.rh_wires.specs.Wires.{sender}
use Rattle.rh_company.specs.declared.event.Event.TheVariants.{Ends, Breaks}
use Rattle.rh_company.specs.Company.{Rulebook}
use Rattle.rh_nodes.specs.Giving.{Deeds}
use Rattle.rh_nodes.specs.Opening.{Makers}
use Rattle.rh_nodes.specs.Settling.{is_finished}
use Rattle.rh_nodes.specs.World.{World}
use Rattle.law_node_history.specs.Changes.{ByLines, Change, GoesDown, IsTold, all_changed}

-- what one end puts on a leg is over: the leg is up for it, its node has the leg finished, and
-- nothing is in flight there
pub record IsOver {K C S I O : Type 0} (r : Rulebook C S I O) (w : World K C S I O) (leg : Leg)
    : Type 0 where
  pub dir : Dir
  pub up : legs.is_up leg (sender dir) w.legs ≡ true
  pub done : is_finished r leg dir w ≡ true

-- the leg that a change ends for a node: it is told so, or has the leg down
abbrev pub ended_by : Change → Option Leg
ended_by (IsTold node (Ends leg)) = Some leg
ended_by (IsTold node (Breaks leg)) = Some leg
ended_by (GoesDown node leg end) = Some leg
ended_by change = None

-- the leg is over behind some front of these changes
pub record WasOver {K C S I O : Type 0} (r : Rulebook C S I O) (m : Makers K I O) (d : Deeds C S)
    (w : World K C S I O) (before : List Change) (leg : Leg) : Type 0 where
  pub earlier : List Change
  pub later : List Change
  pub front : before ≡ earlier ++ later
  pub over : IsOver r (all_changed r m d w earlier) leg

-- each change ends a leg only where that is or was over: one end of a leg that is lost is told so
-- behind the other, which may be let go
abbrev pub AllEndInTime : {K C S I O : Type 0} → Rulebook C S I O → Makers K I O → Deeds C S
    → World K C S I O → List Change → Type 0
AllEndInTime r m d w changes =
    (before : List Change) (change : Change) (behind : List Change)
    → changes ≡ before ++ change ∷ behind
    → IfSome (ended_by change) (λ (leg : Leg). WasOver r m d w before leg)

-- such changes of lines lead from one world to the other
pub record EndsInTime {K C S I O : Type 0} (r : Rulebook C S I O) (m : Makers K I O)
    (d : Deeds C S) (w v : World K C S I O) : Type 0 where
  pub lines : ByLines r m d w v
  pub in_time : AllEndInTime r m d w lines.leads.changes
