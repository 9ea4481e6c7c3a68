-- the stream of a proxy at each front of its events
use Rattle.law_order.proofs.Vocabulary.{◌≡◌, List, [], ◌∷◌, ◌++◌, subst, Option}
use Rattle.law_moves.proofs.Vocabulary.{Pipe, Leg, Rooms, Rules, Shell, begun, Event, after_event}
use Rattle.law_node_history.proofs.Vocabulary.{AreAccepted, ComesUpOnce}
use Rattle.law_node_streams.proofs.Grown.Ends.{turn_front as turns_front}
use Rattle.law_node_streams.specs.Streams.{HasPipes, HearsInTurn, StaysUnused, Stream}
use Rattle.law_world_order.proofs.Flowing.{NodeStreams}

pub accepted_front : {S : Type 0} (rules : Rules S) (s : Shell S) (xs ys : List Event)
    → AreAccepted rules s (xs ++ ys) → AreAccepted rules s xs
accepted_front rules s [] ys a = tt
accepted_front rules s (x ∷ xs) ys a =
    (a.0, accepted_front rules (after_event rules s x) xs ys a.1)

-- what the stream of a node rests on
pub record Traced {S : Type 0} (rules : Rules S) (first : S) (rooms : Rooms)
    (pipe : Leg → Option Pipe) (events : List Event) : Type 0 where
  pub streams : NodeStreams rules
  pub pipes : HasPipes rules first pipe
  pub unused : StaysUnused rules first
  pub once : ComesUpOnce rules (begun first rooms)
  pub accepted : AreAccepted rules (begun first rooms) events
  pub turns : HearsInTurn events

module _ {S : Type 0} (rules : Rules S) (first : S) (rooms : Rooms) (pipe : Leg → Option Pipe)
    (events : List Event) (law : Traced rules first rooms pipe events) where
  pub front_stream : (before behind : List Event) → events ≡ before ++ behind
      → Stream rules first rooms pipe before
  front_stream before behind is =
      law.streams first rooms pipe before law.pipes law.unused law.once
      (accepted_front rules (begun first rooms) before behind
      (subst (AreAccepted rules (begun first rooms)) is law.accepted))
      (turns_front before behind (subst HearsInTurn is law.turns))
