-- what a node does to its role: moves that are allowed, and nothing else (profile)
use Rattle.std.specs.Prelude.{ℕ, ◌≡◌, List, [], ◌∷◌, All}
use Rattle.rh_pdu.specs.Frames.{IsUnfinished}
use Rattle.rh_rts.specs.declared.command.Cookie.{Cookie}
use Rattle.rh_line.specs.declared.leg.Leg.{Leg}
use Rattle.rh_shell.specs.declared.stage.Stage.TheVariants as stage
use Rattle.rh_shell.specs.Rules.{Rules, Acts}
use Rattle.rh_shell.specs.NearEnds.{NearEnd}
use Rattle.rh_shell.specs.Shells.{Shell, up, bytes, ended, broken, drawn, tick}
use Rattle.rh_shell.specs.Ends.{give, after_take, close, recycle}
use Rattle.law_moves.specs.Moves.{Move, EndMove, Passage, EndPassage, MayMove, AreAllowed, AreAllowedAtEnd, moved, all_moved, all_end_moved}

-- ---- what may happen at a node

pub data Event : Type 0 where
  ComesUp : Leg → Cookie → Event
  -- a piece comes on a leg
  Hears : Leg → List ℕ → Event
  Ends : Leg → Event
  Breaks : Leg → Event
  -- up to so many bytes are drawn
  Draws : Leg → ℕ → Event
  Ticks : ℕ → Event

abbrev pub after_event : {S : Type 0} → Rules S → Shell S → Event → Shell S
after_event rules s (ComesUp leg cookie) = up rules s leg cookie
after_event rules s (Hears leg piece) = (bytes rules s leg piece).0
after_event rules s (Ends leg) = (ended rules s leg).0
after_event rules s (Breaks leg) = (broken rules s leg).0
after_event rules s (Draws leg room) = (drawn rules s leg room).0
after_event rules s (Ticks now) = (tick rules s now).0

abbrev pub after_events : {S : Type 0} → Rules S → Shell S → List Event → Shell S
after_events rules s [] = s
after_events rules s (event ∷ events) = after_events rules (after_event rules s event) events

-- and at an end
pub data EndEvent : Type 0 where
  Happens : Event → EndEvent
  IsGiven : List ℕ → EndEvent
  IsTaken : EndEvent
  IsClosed : EndEvent
  IsRecycled : EndEvent

abbrev pub after_end_event : {S : Type 0} → Rules S → Acts S → Shell S → EndEvent → Shell S
after_end_event rules acts s (Happens event) = after_event rules s event
after_end_event rules acts s (IsGiven pdu) = (give acts s pdu).0
after_end_event rules acts s IsTaken = after_take acts s
after_end_event rules acts s IsClosed = close acts s
after_end_event rules acts s IsRecycled = (recycle acts rules s).0

abbrev pub after_end_events : {S : Type 0} → Rules S → Acts S → Shell S → List EndEvent → Shell S
after_end_events rules acts s [] = s
after_end_events rules acts s (event ∷ events) =
    after_end_events rules acts (after_end_event rules acts s event) events

-- ---- the moves

-- what is held of a leg of frames is no whole frame
abbrev pub IsHeld : NearEnd → Type 0
IsHeld end = end.intake.stage ≡ stage.Frames → IsUnfinished end.intake.held

abbrev pub AreHeld : {S : Type 0} → Shell S → Type 0
AreHeld s = All IsHeld s.legs

-- moves that are allowed, each where it is made, lead from one passage to the other
pub record Leads {S : Type 0} (rules : Rules S) (p q : Passage S) : Type 0 where
  pub moves : List Move
  pub allowed : AreAllowed rules p moves
  pub reached : all_moved rules p moves ≡ q

-- moves lead from a passage to one whose role is the node's
pub record Follows {S : Type 0} (rules : Rules S) (p : Passage S) (s : Shell S) : Type 0 where
  pub passage : Passage S
  pub leads : Leads rules p passage
  pub role : passage.role ≡ s.role
  pub held : AreHeld s

-- each move that may be made keeps the property
abbrev pub MovesKeep : {S : Type 0} → Rules S → (Passage S → Type 0) → Type 0
MovesKeep {S} rules P =
    (p : Passage S) (move : Move) → P p → MayMove rules p.role move → P (moved rules p move)

-- and the passage that is reached has it
pub record FollowsKeeping {S : Type 0} (rules : Rules S) (P : Passage S → Type 0)
    (p : Passage S) (s : Shell S) : Type 0 where
  pub follows : Follows rules p s
  pub keeps : P follows.passage

-- and the same at an end
pub record EndLeads {S : Type 0} (rules : Rules S) (acts : Acts S) (p q : EndPassage S)
    : Type 0 where
  pub moves : List EndMove
  pub allowed : AreAllowedAtEnd rules acts p moves
  pub reached : all_end_moved rules acts p moves ≡ q

pub record EndFollows {S : Type 0} (rules : Rules S) (acts : Acts S) (p : EndPassage S)
    (s : Shell S) : Type 0 where
  pub passage : EndPassage S
  pub leads : EndLeads rules acts p passage
  pub role : passage.passage.role ≡ s.role
  pub held : AreHeld s
