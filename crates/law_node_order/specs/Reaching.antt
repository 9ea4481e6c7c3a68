-- the events that reach a node: a leg comes up where it may, and bytes come where the node goes on,
-- on a leg that is up and of use. Any other leg that comes up, and any other bytes, change nothing
-- (profile)
use Rattle.std.specs.Prelude.{List, [], ◌∷◌, ◌++◌, Bool, true, if◌then◌else◌}
use Rattle.rh_shell.specs.Rules.{Rules, Acts}
use Rattle.rh_shell.specs.Shells.{Shell, may_up}
use Rattle.law_moves.specs.Moving.{Event, ComesUp, Hears, Ends, Breaks, Draws, Ticks, EndEvent, Happens, IsGiven, IsTaken, IsClosed, IsRecycled, after_event, after_end_event}
use Rattle.law_node_causes.specs.Moments.{hears_bytes}

abbrev pub reaches : {S : Type 0} → Rules S → Shell S → Event → Bool
reaches rules node (ComesUp leg cookie) = may_up rules node leg
reaches rules node (Hears leg piece) = hears_bytes rules node leg piece
reaches rules node (Ends leg) = true
reaches rules node (Breaks leg) = true
reaches rules node (Draws leg room) = true
reaches rules node (Ticks now) = true

-- those of a list
abbrev pub reaching : {S : Type 0} → Rules S → Shell S → List Event → List Event
reaching rules node [] = []
reaching rules node (event ∷ events) =
    (if reaches rules node event then event ∷ [] else [])
    ++ reaching rules (after_event rules node event) events

-- and at an end, whose calls reach it
abbrev pub reaches_end : {S : Type 0} → Rules S → Shell S → EndEvent → Bool
reaches_end rules node (Happens event) = reaches rules node event
reaches_end rules node (IsGiven pdu) = true
reaches_end rules node IsTaken = true
reaches_end rules node IsClosed = true
reaches_end rules node IsRecycled = true

abbrev pub reaching_end : {S : Type 0} → Rules S → Acts S → Shell S → List EndEvent
    → List EndEvent
reaching_end rules acts node [] = []
reaching_end rules acts node (event ∷ events) =
    (if reaches_end rules node event then event ∷ [] else [])
    ++ reaching_end rules acts (after_end_event rules acts node event) events
