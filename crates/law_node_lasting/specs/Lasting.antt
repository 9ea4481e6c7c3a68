-- nodes that lose legs behind their marks alone (profile)
use Rattle.std.specs.Prelude.{◌≡◌, ◌&&◌, ◌||◌, List, [], ◌∷◌, Bool, true, false, not, Some, None}
use Rattle.std.specs.declared.option.Option.{Option}
use Rattle.rh_line.specs.declared.leg.Leg.{Leg}
use Rattle.rh_line.specs.declared.leg.LegKind.TheVariants.{InServer}
use Rattle.rh_shell.specs.Rules.{Acts, Rules}
use Rattle.rh_shell.specs.Shells.{Shell, is_of}
use Rattle.rh_inproxy.specs.State.{InProxy, has_come}
use Rattle.rh_server.specs.Ending.{only_marks}
use Rattle.rh_server.specs.States.{Server, in_leg, stays}
use Rattle.rh_server.specs.declared.state.InLeg.{InLeg}
use Rattle.law_moves.specs.Moving.{EndEvent, Happens, after_end_event}
use Rattle.law_node_marks.specs.Losing.{AgreeOn}

-- where the event of an end loses a leg, the rules say the same of it as these marks
abbrev pub AgreeOnAtEnd : {S : Type 0} → Rules S → (S → Leg → Bool) → S → EndEvent → Type 0
AgreeOnAtEnd rules marks s (Happens event) = AgreeOn rules marks s event
AgreeOnAtEnd rules marks s act = Unit {0}

-- so it is at each of these events
abbrev pub AllAgreeAtEnd : {S : Type 0} → Rules S → Acts S → (S → Leg → Bool) → Shell S
    → List EndEvent → Type 0
AllAgreeAtEnd rules acts marks node [] = Unit {0}
AllAgreeAtEnd rules acts marks node (event ∷ events) =
    AgreeOnAtEnd rules marks node.role event
    × AllAgreeAtEnd rules acts marks (after_end_event rules acts node event) events

-- the is leg is kept, and no IN_R1/A6 came there
abbrev pub in_stays : Option InLeg → Bool
in_stays None = false
in_stays (Some leg) = stays leg.leaving

-- a server loses no is leg but behind IN_R1/A6
abbrev pub marks_left : Server → Leg → Bool
marks_left s leg =
    only_marks s leg && (not (is_of InServer leg) || not (in_stays (in_leg leg.number s.ins)))

-- an in proxy lost its newest ci leg, and no IN_R1/A5 came there
abbrev pub IsLostUnhanded : InProxy → Type 0
IsLostUnhanded s = (s.newest_lost ≡ true) × (has_come s.handover ≡ false)
