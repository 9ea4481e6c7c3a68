-- the law of streams at a node, over any list of its events (profile)
use Rattle.std.specs.Prelude.{ℕ, ◌≡◌, List, [], Bool, true, false}
use Rattle.std.specs.List.{list_any}
use Rattle.std.specs.declared.option.Option.{Option}
use mathlib.Core.List.{IsPrefix}
use Rattle.law_order.specs.Items.{Item, pdus}
use Rattle.law_order.specs.Logs.{Log, seen}
use Rattle.law_order.specs.Passing.{from_first}
use Rattle.rh_sig.specs.declared.name.Pipe.{Pipe}
use Rattle.rh_line.specs.declared.leg.Leg.{Leg}
use Rattle.rh_shell.specs.declared.rooms.Rooms.{Rooms}
use Rattle.rh_shell.specs.Rules.{Rules, Acts, Message}
use Rattle.rh_shell.specs.Shells.{begun}
use Rattle.law_moves.specs.Carrying.{spelled}
use Rattle.law_moves.specs.Moves.{OnLeg}
use Rattle.law_moves.specs.Moving.{Event, EndEvent, Happens, IsGiven, IsTaken, IsClosed, IsRecycled}
use Rattle.law_moves.specs.ReadBack.Reading.{messages_read}
use Rattle.law_moves.specs.Wires.{of_leg}
use Rattle.law_node_history.specs.Carried.{came_up, drawn_on, end_drawn_on, happened, heard_on}
use Rattle.law_node_streams.specs.Streams.{IsDrawn, all_given, all_taken}
use Rattle.law_node_order.specs.Feeds.{GivesOut, IsOfFed, PassesOn}
use Rattle.law_node_order.specs.Reaching.{reaching, reaching_end}

-- ---- what a node is fed

-- the legs of one kind, by their numbers, and what order sees of a message there
pub record Feed : Type 0 where
  pub leg : ℕ → Leg
  pub view : Message → List Item

-- all in the bytes that reached the node
abbrev pub fed_by : Feed → (Leg → Option Pipe) → List Event → Log
fed_by feed pipe events n =
    seen feed.view (messages_read (pipe (feed.leg n)) (heard_on (feed.leg n) events))

-- ---- a proxy

-- there are messages whose bytes it drew, or it refused its client where it put nothing; and what
-- is on its far leg among them is passed on from its near legs, which are numbered from the first
pub record StreamsThrough {S : Type 0} (rules : Rules S) (role : S) (rooms : Rooms)
    (pipe : Leg → Option Pipe) (near : Feed) (first : ℕ) (far : List OnLeg → List Item)
    (events : List Event) : Type 0 where
  pub put : List OnLeg
  pub drawn : (leg : Leg)
      → IsDrawn (of_leg leg put) (drawn_on rules (begun role rooms) leg events)
  pub passes : PassesOn (from_first first)
      (fed_by near pipe (reaching rules (begun role rooms) events)) (far put)
  -- and no RPC PDU is put back on those
  pub back : (n : ℕ) → pdus (seen near.view (of_leg (near.leg n) put)) ≡ []

-- ---- an end

abbrev pub is_close : EndEvent → Bool
is_close (Happens event) = false
is_close (IsGiven pdu) = false
is_close IsTaken = false
is_close IsClosed = true
is_close IsRecycled = false

-- there are messages whose bytes it drew; those on its legs in the one direction are what it was
-- given, and what was taken is of what it was fed on the legs that came up in the other
pub record StreamsAtEnd {S : Type 0} (rules : Rules S) (acts : Acts S) (role : S) (rooms : Rooms)
    (pipe : Leg → Option Pipe) (far : List OnLeg → Log) (near : Feed) (events : List EndEvent)
    : Type 0 where
  pub put : List OnLeg
  pub drawn : (leg : Leg)
      → IsPrefix (end_drawn_on rules acts (begun role rooms) leg events) (spelled (of_leg leg put))
  pub gives : GivesOut (all_given rules acts (begun role rooms) events)
      (list_any is_close events) (far put)
  pub takes : (let fed = happened (reaching_end rules acts (begun role rooms) events) in
      IsOfFed (λ n. came_up (near.leg n) fed) (fed_by near pipe fed)
      (all_taken rules acts (begun role rooms) events))
