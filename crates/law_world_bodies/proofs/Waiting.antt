-- where a head is waited for, a node holds all that it heard: its stream says so
use Rattle.law_order.proofs.Vocabulary.{◌≡◌, List, [], ◌∷◌, ◌++◌, true, false, Some, refl, sym, ap, ◌∙◌, subst, Option}
use Rattle.law_moves.proofs.Vocabulary.{Pipe, Leg, Going, Rooms, Stage, NearEnd, is_over, Rules, Acts, Shell, begun, end_at, Event, EndEvent, after_events, after_end_events, begin, reading, reading_after}
use Rattle.law_moves.specs.Moving as moving
use Rattle.law_node_history.proofs.Vocabulary.{AreAccepted, AreAcceptedAtEnd, ComesUpOnce, ComesUpOnceAtEnd, happened, heard_on}
use Rattle.law_node_streams.proofs.Streams.Heads.{waited}
use Rattle.law_node_streams.proofs.Grown.Ends.{turn_front as turns_front}
use Rattle.law_node_streams.specs.Streams.{EndStream, HasPipes, HearsInTurn, NeverRefuses, StaysUnused, StaysUnusedAtEnd, Stream, is_live}
use Rattle.law_world_order.proofs.Flowing.{EndStreams, NodeStreams}
use Rattle.law_world_honest.proofs.Refusals.ClosedClients.{accepted_front as end_accepted_front}
use Rattle.law_world_honest.proofs.Refusals.Fronts.{accepted_front}
use Rattle.law_world_bodies.proofs.NodeCounts.{AreBehind, Heards, WaitsAt, end_events_behind, events_behind}

-- ---- by what is read

pub waits_by : {S : Type 0} (rules : Rules S) (pipe : Leg → Option Pipe) (heard : Heards)
    (s : Shell S) → ((leg : Leg) (end : NearEnd) → s.course ≡ Going → end_at s leg ≡ Some end
    → is_over rules end s.role ≡ false → is_live end.intake.stage ≡ true
    → reading_after (pipe leg) (begin (pipe leg)) (heard leg)
    ≡ reading end.intake.stage end.intake.held)
    → WaitsAt rules pipe heard s
waits_by rules pipe heard s reads leg end going at on st =
    let live : is_live end.intake.stage ≡ true =
    subst (λ (x : Stage). is_live x ≡ true) (sym st) refl in
    let w =
    waited (pipe leg) (begin (pipe leg)) (heard leg) end.intake.held
    (reads leg end going at on live ∙ ap (λ (x : Stage). reading x end.intake.held) st) in
    record { head = w.head; held_is = w.held_is; none = w.none }

-- ---- what holds of all events holds of those at the front

-- what happened in all events begins with what happened in those
happened_front : (front back : List EndEvent)
    → (rest : List Event) × (happened (front ++ back) ≡ happened front ++ rest)
happened_front [] back = (happened back, refl)
happened_front (moving.Happens event ∷ front) back =
    let more = happened_front front back in
    (more.0, ap (λ (x : List Event). event ∷ x) more.1)
happened_front (moving.IsGiven pdu ∷ front) back = happened_front front back
happened_front (moving.IsTaken ∷ front) back = happened_front front back
happened_front (moving.IsClosed ∷ front) back = happened_front front back
happened_front (moving.IsRecycled ∷ front) back = happened_front front back

pub end_turns_front : (front back : List EndEvent) → HearsInTurn (happened (front ++ back))
    → HearsInTurn (happened front)
end_turns_front front back turns =
    let more = happened_front front back in
    turns_front (happened front) more.0 (subst HearsInTurn more.1 turns)

-- ---- whatever happened at a node

module _ {S : Type 0} (rules : Rules S) (law : NodeStreams rules) (first : S) (rooms : Rooms)
    (pipe : Leg → Option Pipe) (events : List Event) (pipes : HasPipes rules first pipe)
    (stays : StaysUnused rules first) (once : ComesUpOnce rules (begun first rooms))
    (accepted : AreAccepted rules (begun first rooms) events) (turns : HearsInTurn events) where
  abbrev heard_by : List Event → Heards
  heard_by front leg = heard_on leg front

  pub node_waits : (front back : List Event) → front ++ back ≡ events
      → WaitsAt rules pipe (heard_by front) (after_events rules (begun first rooms) front)
  node_waits front back e =
      waits_by rules pipe (heard_by front) (after_events rules (begun first rooms) front)
      (λ leg end going at over live. ((stream.seats leg end going at).reads over live).after)
    where
      stream : Stream rules first rooms pipe front
      stream =
          law first rooms pipe front pipes stays once
          (accepted_front rules (begun first rooms) front back
          (subst (λ (es : List Event). AreAccepted rules (begun first rooms) es) (sym e) accepted))
          (turns_front front back (subst HearsInTurn (sym e) turns))

  pub node_behind : AreBehind rules pipe (heard_by events)
      (after_events rules (begun first rooms) events).legs
  node_behind =
      events_behind rules pipe (λ leg. []) (begun first rooms) events node_waits tt

-- and at an end
module _ {S : Type 0} (rules : Rules S) (acts : Acts S) (law : EndStreams rules acts) (first : S)
    (rooms : Rooms) (pipe : Leg → Option Pipe) (events : List EndEvent)
    (pipes : (s : S) (leg : Leg) → rules.pipe s leg ≡ pipe leg) (never : NeverRefuses rules)
    (stays : StaysUnusedAtEnd rules acts first)
    (once : ComesUpOnceAtEnd rules acts (begun first rooms))
    (accepted : AreAcceptedAtEnd rules acts (begun first rooms) events)
    (turns : HearsInTurn (happened events)) where
  abbrev end_heard_by : List EndEvent → Heards
  end_heard_by front leg = heard_on leg (happened front)

  pub end_waits : (front back : List EndEvent) → front ++ back ≡ events
      → WaitsAt rules pipe (end_heard_by front)
      (after_end_events rules acts (begun first rooms) front)
  end_waits front back e =
      waits_by rules pipe (end_heard_by front)
      (after_end_events rules acts (begun first rooms) front)
      (λ leg end going at over live. ((stream.seats leg end going at).reads over live).after)
    where
      stream : EndStream rules acts first rooms pipe front
      stream =
          law first rooms pipe front pipes never stays once
          (end_accepted_front rules acts (begun first rooms) front back
          (subst (λ (es : List EndEvent). AreAcceptedAtEnd rules acts (begun first rooms) es)
          (sym e) accepted))
          (end_turns_front front back
          (subst (λ (es : List EndEvent). HearsInTurn (happened es)) (sym e) turns))

  pub ends_behind : AreBehind rules pipe (end_heard_by events)
      (after_end_events rules acts (begun first rooms) events).legs
  ends_behind =
      end_events_behind rules pipe acts (λ leg. []) (begun first rooms) events end_waits tt
