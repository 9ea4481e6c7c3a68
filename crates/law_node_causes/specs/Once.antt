-- a leg comes up at most once at a node: its number names one channel (MS-RPCH 3.2; the numbers of
-- legs are this profile's)
use Rattle.std.specs.Prelude.{◌≡◌, List, [], ◌∷◌, true, false, None}
use Rattle.rh_rts.specs.declared.command.Cookie.{Cookie}
use Rattle.rh_line.specs.declared.leg.Leg.{Leg}
use Rattle.rh_shell.specs.Rules.{Rules, Acts}
use Rattle.rh_shell.specs.NearEnds.{NearEnd}
use Rattle.rh_shell.specs.Shells.{Shell, end_at, may_up}
use Rattle.law_moves.specs.Moves.{Move, Up, Passage, EndMove, EndPassage, MayMove, MayEndMove, moved, end_moved}
use Rattle.law_moves.specs.Moving.{Event, ComesUp, Hears, Ends, Breaks, Draws, Ticks, after_event, EndEvent, Happens, IsGiven, IsTaken, IsClosed, IsRecycled, after_end_event}
use Rattle.law_node_causes.specs.Reasons.{StandsIn}

-- ---- by a role's rules

-- where something holds of a role that each move keeps: a leg that comes up was up from then on,
-- and a leg that was up may not come up, and is not wanted
pub record ComesUpOnce {S : Type 0} (rules : Rules S) (Holds : S → Type 0) : Type 0 where
  pub kept : (p : Passage S) (move : Move) → Holds p.role → MayMove rules p.role move
      → Holds (moved rules p move).role
  pub stays : (p : Passage S) (move : Move) (leg : Leg) → Holds p.role
      → MayMove rules p.role move → rules.was_up p.role leg ≡ true
      → rules.was_up (moved rules p move).role leg ≡ true
  pub up : (s : S) (leg : Leg) (cookie : Cookie) → Holds s → MayMove rules s (Up leg cookie)
      → rules.was_up (rules.up s leg cookie) leg ≡ true
  pub once : (s : S) (leg : Leg) → Holds s → rules.was_up s leg ≡ true
      → rules.may_up s leg ≡ false
  pub unwanted : (s : S) (leg : Leg) → Holds s → rules.was_up s leg ≡ true
      → rules.wants s leg ≡ false

-- what an end does besides keeps that
pub record KeepsUp {S : Type 0} (rules : Rules S) (acts : Acts S) (Holds : S → Type 0)
    : Type 0 where
  pub kept : (p : EndPassage S) (move : EndMove) → Holds p.passage.role
      → MayEndMove rules p.passage.role move → Holds (end_moved rules acts p move).passage.role
  pub stays : (p : EndPassage S) (move : EndMove) (leg : Leg) → Holds p.passage.role
      → MayEndMove rules p.passage.role move → rules.was_up p.passage.role leg ≡ true
      → rules.was_up (end_moved rules acts p move).passage.role leg ≡ true

-- ---- at a node

-- it holds of the node's role, and each leg that the node keeps was up
pub record AreUpOnce {S : Type 0} (rules : Rules S) (Holds : S → Type 0) (node : Shell S)
    : Type 0 where
  pub holds : Holds node.role
  pub kept : (end : NearEnd) → StandsIn node.legs end → rules.was_up node.role end.leg ≡ true

-- the leg was up, and is not to come up again
pub record WasUp {S : Type 0} (rules : Rules S) (node : Shell S) (leg : Leg) : Type 0 where
  pub was_up : rules.was_up node.role leg ≡ true
  pub not_again : rules.may_up node.role leg ≡ false
  pub not_wanted : rules.wants node.role leg ≡ false

-- a leg that comes up is none of those that the node keeps
abbrev pub IsNewLeg : {S : Type 0} → Rules S → Shell S → Event → Type 0
IsNewLeg rules node (ComesUp leg cookie) = may_up rules node leg ≡ true → end_at node leg ≡ None
IsNewLeg rules node (Hears leg piece) = Unit {0}
IsNewLeg rules node (Ends leg) = Unit {0}
IsNewLeg rules node (Breaks leg) = Unit {0}
IsNewLeg rules node (Draws leg room) = Unit {0}
IsNewLeg rules node (Ticks now) = Unit {0}

-- so it is at each of these events
abbrev pub AreNewLegs : {S : Type 0} → Rules S → Shell S → List Event → Type 0
AreNewLegs rules node [] = Unit {0}
AreNewLegs rules node (event ∷ events) =
    IsNewLeg rules node event × AreNewLegs rules (after_event rules node event) events

abbrev pub IsNewLegAtEnd : {S : Type 0} → Rules S → Shell S → EndEvent → Type 0
IsNewLegAtEnd rules node (Happens event) = IsNewLeg rules node event
IsNewLegAtEnd rules node (IsGiven pdu) = Unit {0}
IsNewLegAtEnd rules node IsTaken = Unit {0}
IsNewLegAtEnd rules node IsClosed = Unit {0}
IsNewLegAtEnd rules node IsRecycled = Unit {0}

abbrev pub AreNewLegsAtEnd : {S : Type 0} → Rules S → Acts S → Shell S → List EndEvent → Type 0
AreNewLegsAtEnd rules acts node [] = Unit {0}
AreNewLegsAtEnd rules acts node (event ∷ events) =
    IsNewLegAtEnd rules node event
    × AreNewLegsAtEnd rules acts (after_end_event rules acts node event) events
