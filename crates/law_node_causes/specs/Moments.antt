-- since when a leg was not heard, and what is heard at all (profile)
use Rattle.std.specs.Prelude.{ℕ, ◌&&◌, List, [], ◌∷◌, Bool, false, not, if◌then◌else◌, nat_le, Some, None}
use Rattle.std.specs.declared.option.Option.{Option}
use Rattle.rh_line.specs.declared.leg.Leg.{Leg}
use Rattle.rh_shell.specs.NearEnds.{NearEnd, is_empty, is_over}
use Rattle.rh_shell.specs.Rules.{Rules, Acts}
use Rattle.rh_shell.specs.Shells.{Shell, same_leg, is_going, is_working, end_at, may_up}
use Rattle.law_moves.specs.Moving.{Event, ComesUp, Hears, Ends, Breaks, Draws, Ticks, after_event, EndEvent, Happens, IsGiven, IsTaken, IsClosed, IsRecycled, after_end_event}

-- ---- what is heard

abbrev pub is_heard_at : {S : Type 0} → Rules S → S → Option NearEnd → Bool
is_heard_at rules role None = false
is_heard_at rules role (Some end) = not (is_over rules end role)

-- the node did not close, and the leg is up there, not lost, and of use
abbrev pub is_heard_on : {S : Type 0} → Rules S → Shell S → Leg → Bool
is_heard_on rules node leg =
    is_going node.course && is_heard_at rules node.role (end_at node leg)

-- bytes are heard
abbrev pub hears_bytes : {S : Type 0} → Rules S → Shell S → Leg → List ℕ → Bool
hears_bytes rules node leg piece = not (is_empty piece) && is_heard_on rules node leg

-- the leg comes up, or bytes are heard there
abbrev pub touches : {S : Type 0} → Rules S → Shell S → Leg → Event → Bool
touches rules node leg (ComesUp at cookie) = same_leg at leg && may_up rules node at
touches rules node leg (Hears at piece) = same_leg at leg && hears_bytes rules node at piece
touches rules node leg (Ends at) = false
touches rules node leg (Breaks at) = false
touches rules node leg (Draws at room) = false
touches rules node leg (Ticks now) = false

-- an end's own calls touch no leg
abbrev pub touches_at_end : {S : Type 0} → Rules S → Shell S → Leg → EndEvent → Bool
touches_at_end rules node leg (Happens event) = touches rules node leg event
touches_at_end rules node leg (IsGiven pdu) = false
touches_at_end rules node leg IsTaken = false
touches_at_end rules node leg IsClosed = false
touches_at_end rules node leg IsRecycled = false

-- ---- the last moment of that, over a list of events

abbrev pub moment_if : Bool → ℕ → Option ℕ → Option ℕ
moment_if touched now last = if touched then Some now else last

abbrev pub last_touched : {S : Type 0} → Rules S → Leg → Shell S → List Event → Option ℕ
    → Option ℕ
last_touched rules leg node [] last = last
last_touched rules leg node (event ∷ events) last =
    last_touched rules leg (after_event rules node event) events
    (moment_if (touches rules node leg event) node.now last)

abbrev pub last_touched_at_end : {S : Type 0} → Rules S → Acts S → Leg → Shell S
    → List EndEvent → Option ℕ → Option ℕ
last_touched_at_end rules acts leg node [] last = last
last_touched_at_end rules acts leg node (event ∷ events) last =
    last_touched_at_end rules acts leg (after_end_event rules acts node event) events
    (moment_if (touches_at_end rules node leg event) node.now last)

-- ---- the node's moment

-- it is that of the last tick at which the node worked and that was not below the one before
abbrev pub moment_after : {S : Type 0} → Rules S → Shell S → Event → ℕ
moment_after rules node (Ticks now) =
    if is_working rules node && nat_le node.now now then now else node.now
moment_after rules node (ComesUp leg cookie) = node.now
moment_after rules node (Hears leg piece) = node.now
moment_after rules node (Ends leg) = node.now
moment_after rules node (Breaks leg) = node.now
moment_after rules node (Draws leg room) = node.now
