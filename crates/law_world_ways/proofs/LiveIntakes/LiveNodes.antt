-- what a node that goes on keeps is read: where a head is waited for it holds all that it heard, as
-- its stream says
use Rattle.law_order.proofs.Vocabulary.{◌≡◌, List, [], ◌∷◌, ◌++◌, true, false, Some, refl, sym, ap, ◌∙◌, subst, Option}
use Rattle.law_moves.proofs.Vocabulary.{Pipe, Leg, Going, Rooms, Stage, NearEnd, is_over, Rules, Acts, Shell, begun, end_at, Event, EndEvent, after_event, after_events, after_end_event, after_end_events, begin, reading, reading_after}
use Rattle.law_node_history.proofs.Lemmas.{happened_append}
use Rattle.law_node_history.proofs.Vocabulary.{AreAccepted, AreAcceptedAtEnd, ComesUpOnce, ComesUpOnceAtEnd, happened, heard_on}
use Rattle.law_node_streams.proofs.Streams.Heads.{waited}
use Rattle.law_node_streams.proofs.Grown.Ends.{turn_front as turns_front}
use Rattle.law_node_streams.specs.Streams.{EndStream, HasPipes, HearsInTurn, NeverRefuses, StaysUnused, StaysUnusedAtEnd, Stream, is_live}
use Rattle.law_world_order.proofs.Flowing.{EndStreams, NodeStreams}
use Rattle.law_world_ways.proofs.LiveIntakes.LiveBytes.{BringsFrames}
use Rattle.law_world_ways.proofs.LiveIntakes.LiveEnds.{EndWaits, Heards, Waits, WaitsAt, end_events_read, events_read}
use Rattle.law_world_ways.specs.LiveIntakes.{ReadsLeg}

-- ---- by what is read

waits_by : {S : Type 0} (rules : Rules S) (pipe : Leg → Option Pipe) (heard : Heards)
    (s : Shell S) → ((leg : Leg) (end : NearEnd) → s.course ≡ Going → end_at s leg ≡ Some end
    → is_over rules end s.role ≡ false → is_live end.intake.stage ≡ true
    → reading_after (pipe leg) (begin (pipe leg)) (heard leg)
    ≡ reading end.intake.stage end.intake.held)
    → WaitsAt rules pipe heard s
waits_by rules pipe heard s reads leg end going at on st =
    waited (pipe leg) (begin (pipe leg)) (heard leg) end.intake.held
    (reads leg end going at on (ap is_live st)
    ∙ ap (λ (x : Stage). reading x end.intake.held) st)

-- ---- what holds of all events holds of those at the front

accepted_front : {S : Type 0} (rules : Rules S) (s : Shell S) (front back : List Event)
    → AreAccepted rules s (front ++ back) → AreAccepted rules s front
accepted_front rules s [] back all = tt
accepted_front rules s (event ∷ front) back all =
    (all.0, accepted_front rules (after_event rules s event) front back all.1)

end_accepted_front : {S : Type 0} (rules : Rules S) (acts : Acts S) (s : Shell S)
    (front back : List EndEvent) → AreAcceptedAtEnd rules acts s (front ++ back)
    → AreAcceptedAtEnd rules acts s front
end_accepted_front rules acts s [] back all = tt
end_accepted_front rules acts s (event ∷ front) back all =
    (all.0, end_accepted_front rules acts (after_end_event rules acts s event) front back all.1)

-- ---- whatever happens at a node

pub node_read : {S : Type 0} (rules : Rules S) → NodeStreams rules → (first : S) (rooms : Rooms)
    (pipe : Leg → Option Pipe) (events : List Event) → HasPipes rules first pipe
    → StaysUnused rules first → ComesUpOnce rules (begun first rooms)
    → AreAccepted rules (begun first rooms) events → HearsInTurn events → (leg : Leg)
    → BringsFrames rules (pipe leg) leg (heard_on leg events)
    → ReadsLeg (after_events rules (begun first rooms) events) leg
node_read rules law first rooms pipe events pipes stays once accepted turns leg =
    events_read rules pipe (begun first rooms) events leg refl waits
  where
    stream : (front back : List Event) → front ++ back ≡ events
        → Stream rules first rooms pipe front
    stream front back e =
        law first rooms pipe front pipes stays once
        (accepted_front rules (begun first rooms) front back
        (subst (λ (es : List Event). AreAccepted rules (begun first rooms) es) (sym e) accepted))
        (turns_front front back (subst HearsInTurn (sym e) turns))

    waits : Waits rules pipe (λ l. []) (begun first rooms) events
    waits front back e =
        waits_by rules pipe (λ l. heard_on l front) (after_events rules (begun first rooms) front)
        (λ leg end going at over live.
        (((stream front back e).seats leg end going at).reads over live).after)

-- and at an end
pub end_read : {S : Type 0} (rules : Rules S) (acts : Acts S) → EndStreams rules acts
    → (first : S) (rooms : Rooms) (pipe : Leg → Option Pipe) (events : List EndEvent)
    → ((s : S) (leg : Leg) → rules.pipe s leg ≡ pipe leg) → NeverRefuses rules
    → StaysUnusedAtEnd rules acts first → ComesUpOnceAtEnd rules acts (begun first rooms)
    → AreAcceptedAtEnd rules acts (begun first rooms) events → HearsInTurn (happened events)
    → (leg : Leg) → BringsFrames rules (pipe leg) leg (heard_on leg (happened events))
    → ReadsLeg (after_end_events rules acts (begun first rooms) events) leg
end_read rules acts law first rooms pipe events pipes never stays once accepted turns leg =
    end_events_read rules pipe acts (begun first rooms) events leg refl waits
  where
    stream : (front back : List EndEvent) → front ++ back ≡ events
        → EndStream rules acts first rooms pipe front
    stream front back e =
        law first rooms pipe front pipes never stays once
        (end_accepted_front rules acts (begun first rooms) front back
        (subst (λ (es : List EndEvent). AreAcceptedAtEnd rules acts (begun first rooms) es)
        (sym e) accepted))
        (turns_front (happened front) (happened back)
        (subst HearsInTurn (ap happened (sym e) ∙ happened_append front back) turns))

    waits : EndWaits rules pipe acts (λ l. []) (begun first rooms) events
    waits front back e =
        waits_by rules pipe (λ l. heard_on l (happened front))
        (after_end_events rules acts (begun first rooms) front)
        (λ leg end going at over live.
        (((stream front back e).seats leg end going at).reads over live).after)
