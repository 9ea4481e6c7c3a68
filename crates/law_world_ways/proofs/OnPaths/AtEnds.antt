-- what the nodes at the two ends of a leg did there
use Rattle.law_order.proofs.Vocabulary.{◌≡◌, ℕ, Bool, true, false, List, [], ◌++◌, Some, sym, ap, ◌∙◌, Option, append-nil, IsPrefix}
use Rattle.law_moves.proofs.Vocabulary.{nil_front, Pipe, Leg, Going, Rooms, NearEnd, is_over, Acts, Rules, Message, Shell, begun, end_at, spelled, EndEvent, Event, after_end_events, after_events, of_leg, Reading, messages_read}
use Rattle.law_node_history.proofs.Vocabulary.{Place, Absent, Here, Gone, IsHeard, came_up, drawn_on, end_drawn_on, happened, heard_on, IsRun}
use Rattle.law_node_streams.specs.Streams.{EndStream, IsReadTo, Stream, is_live, is_refused_on}
use Rattle.law_world_ways.proofs.OnPaths.Ends.{gone_unread}
use Rattle.law_world_ways.specs.OnPaths.Forgotten.{DrawsOut, EndDrawsOut, IsDrawnOut}
use Rattle.law_world_ways.specs.OnPaths.Lost.{was_lost}
use Rattle.law_world_ways.specs.OnPaths.OnWay.{read_on}

-- the node that puts: what it put spells what it drew and what is begun, or what it drew where it
-- forgot the leg; and it put nothing on a leg that did not come up
pub record Puts {P : Type 0} (node : Shell P) (leg : Leg) (up told : Bool) (put : List Message)
    (drawn : List ℕ) : Type 0 where
  pub spells : (end : NearEnd) → is_refused_on leg node.course ≡ false
      → end_at node leg ≡ Some end → spelled put ≡ drawn ++ end.begun
  pub all : IsDrawnOut node leg up told put drawn
  pub unput : up ≡ false → put ≡ []

-- the node that takes: what came is read in what it heard, which is a front of what it was fed,
-- and all of it while it takes something there
pub record Takes {T : Type 0} (rules : Rules T) (node : Shell T) (pipe : Option Pipe) (leg : Leg)
    (up : Bool) (came : List Message) (heard fed : List ℕ) : Type 0 where
  pub reads : (end : NearEnd) → node.course ≡ Going → end_at node leg ≡ Some end
      → is_over rules end node.role ≡ false → is_live end.intake.stage ≡ true
      → IsReadTo pipe came heard end.intake
  pub read : IsPrefix came (messages_read pipe heard)
  pub front : IsPrefix heard fed
  pub all : (r : Reading) → read_on rules node pipe leg up ≡ Some r → heard ≡ fed

-- ---- an end

module _ {S : Type 0} {rules : Rules S} {acts : Acts S} {made : S} {rooms : Rooms}
    {pipe : Leg → Option Pipe} {events : List EndEvent}
    (stream : EndStream rules acts made rooms pipe events) (leg : Leg) where
  pub end_puts : EndDrawsOut rules acts made rooms pipe events stream
      → Puts (after_end_events rules acts (begun made rooms) events) leg
      (came_up leg (happened events)) (was_lost leg (happened events))
      (of_leg leg stream.passage.passage.put)
      (end_drawn_on rules acts (begun made rooms) leg events)
  end_puts all = record {
    spells = stream.left leg;
    all = all leg;
    unput = stream.unput leg;
  }

  pub end_takes : (fed : List ℕ) → heard_on leg (happened events) ≡ fed
      → Takes rules (after_end_events rules acts (begun made rooms) events) (pipe leg) leg
      (came_up leg (happened events)) (of_leg leg stream.passage.passage.came)
      (heard_on leg (happened events)) fed
  end_takes fed is = record {
    reads = λ end going at. (stream.seats leg end going at).reads;
    read = stream.read leg;
    front = ([], append-nil (heard_on leg (happened events)) ∙ is);
    all = λ r told. is;
  }

-- ---- a proxy

-- it heard a front of what it was fed
pub proxy_front : {S : Type 0} (rules : Rules S) (first : Shell S) (events : List Event) (leg : Leg)
    (fed : List ℕ) (place : Place S) → IsRun rules first events place
    → IsHeard place (heard_on leg events) fed → IsPrefix (heard_on leg events) fed
proxy_front rules first events leg fed Absent run is =
    (fed, ap (λ (e : List Event). heard_on leg e ++ fed) run)
proxy_front rules first events leg fed (Here node legs) run is =
    ([], append-nil (heard_on leg events) ∙ is)
proxy_front rules first events leg fed (Gone now) run is = is

module _ {S : Type 0} {rules : Rules S} {made : S} {rooms : Rooms} {pipe : Leg → Option Pipe}
    {events : List Event} (stream : Stream rules made rooms pipe events) (leg : Leg) where
  pub proxy_puts : DrawsOut rules made rooms pipe events stream
      → Puts (after_events rules (begun made rooms) events) leg (came_up leg events)
      (was_lost leg events) (of_leg leg stream.passage.put)
      (drawn_on rules (begun made rooms) leg events)
  proxy_puts all = record {
    spells = stream.left leg;
    all = all leg;
    unput = stream.unput leg;
  }

  module _ (fed : List ℕ) (unfed : came_up leg events ≡ false → fed ≡ []) where
    heard_all : (r : Reading)
        → read_on rules (after_events rules (begun made rooms) events) (pipe leg) leg
        (came_up leg events) ≡ Some r
        → (place : Place S) → IsRun rules (begun made rooms) events place
        → IsHeard place (heard_on leg events) fed → heard_on leg events ≡ fed
    heard_all r told Absent run is = ap (heard_on leg) run ∙ sym is
    heard_all r told (Here node legs) run is = is
    heard_all r told (Gone now) run is =
        let none : fed ≡ [] =
        unfed (gone_unread (after_events rules (begun made rooms) events) leg (came_up leg events)
        rules (pipe leg) r run.stopped told) in
        nil_front (heard_on leg events) is.0 (is.1 ∙ none) ∙ sym none

    pub proxy_takes : (place : Place S) → IsRun rules (begun made rooms) events place
        → IsHeard place (heard_on leg events) fed
        → Takes rules (after_events rules (begun made rooms) events) (pipe leg) leg
        (came_up leg events) (of_leg leg stream.passage.came) (heard_on leg events) fed
    proxy_takes place run is = record {
      reads = λ end going at. (stream.seats leg end going at).reads;
      read = stream.read leg;
      front = proxy_front rules (begun made rooms) events leg fed place run is;
      all = λ r told. heard_all r told place run is;
    }
