-- by streams that grow with the events: all that was put on a leg that is forgotten was drawn
use Rattle.law_order.proofs.Vocabulary.{◌≡◌, ◌⊎◌, inl, inr, ℕ, List, [], ◌∷◌, ◌++◌, append_assoc, true, false, ◌||◌, refl, sym, ap, ◌∙◌, subst, Option, append-nil, append_cancel_left, list_any-append, IsPrefix}
use Rattle.law_moves.proofs.Vocabulary.{neither, nil_front, Pipe, Leg, Rooms, Acts, Rules, Shell, begun, end_at, spelled, AreAllowed, AreAllowedAtEnd, EndMove, EndPassage, Move, Passage, all_end_moved, all_moved, end_moved, end_started, moved, started, EndEvent, EndLeads, Event, Leads, after_end_event, after_end_events, after_event, after_events, of_leg}
use Rattle.law_node_history.proofs.Lemmas.{came_append, drawn_append, end_drawn_append, happened_append, end_events_append, events_append}
use Rattle.law_node_history.proofs.Vocabulary.{AreAccepted, AreAcceptedAtEnd, IsAccepted, IsAcceptedAtEnd, came_up, drawn_on, end_drawn_on, happened, is_up_of}
use Rattle.law_node_causes.proofs.OnceUp.{AllFollow, AllFollowAtEnd}
use Rattle.law_node_causes.specs.Once.{ComesUpOnce, KeepsUp}
use Rattle.law_node_streams.proofs.Streams.EndMoves.{all_end_moved_append}
use Rattle.law_node_streams.proofs.Streams.Ends.{end_is}
use Rattle.law_node_streams.proofs.Streams.Ways.{all_moved_append, or_false as or_none}
use Rattle.law_node_streams.specs.Streams.{EndStream, StaysUnused, StaysUnusedAtEnd, Stream}
use Rattle.law_node_streams.specs.Grown.{EndGrowing, EndGrows, Growing, Grows}
use Rattle.law_world_order.proofs.Flowing.{no_end as absent}
use Rattle.law_world_ways.proofs.OnPaths.KeptEnds.{IsFree, IsLeft, Stands, Unused, refuses}
use Rattle.law_world_ways.proofs.OnPaths.KeptLegs.{Known, is_lost_at, known_after, known_at_end, known_first, left_stays, left_stays_at_end}
use Rattle.law_world_ways.specs.OnPaths.Forgotten.{DrawsOut, EndDrawsOut}
use Rattle.law_world_ways.specs.OnPaths.Lost.{is_loss_of, was_lost}

-- ---- lists

-- between a list and itself is no other
same_between : (old now all : List ℕ) → IsPrefix old now → IsPrefix now all → all ≡ old
    → all ≡ now
same_between old now all p q is =
    let both : old ++ (p.0 ++ q.0) ≡ old ++ [] =
    sym (append_assoc old p.0 q.0) ∙ ap (λ (x : List ℕ). x ++ q.0) p.1 ∙ q.1 ∙ is
    ∙ sym (append-nil old) in
    let none : p.0 ≡ [] =
    nil_front p.0 q.0 (append_cancel_left old (p.0 ++ q.0) [] both) in
    is ∙ sym (append-nil old) ∙ ap (λ (x : List ℕ). old ++ x) (sym none) ∙ p.1

lost_append : (leg : Leg) (es fs : List Event)
    → was_lost leg (es ++ fs) ≡ (was_lost leg es || was_lost leg fs)
lost_append leg es fs = list_any-append (is_loss_of leg) es fs

-- ---- streams by which it is so on each leg

pub record Drawn {S : Type 0} (rules : Rules S) (first : S) (rooms : Rooms)
    (pipe : Leg → Option Pipe) (events : List Event) : Type 0 where
  pub stream : Stream rules first rooms pipe events
  pub all : DrawsOut rules first rooms pipe events stream

pub record EndDrawn {S : Type 0} (rules : Rules S) (acts : Acts S) (first : S) (rooms : Rooms)
    (pipe : Leg → Option Pipe) (events : List EndEvent) : Type 0 where
  pub stream : EndStream rules acts first rooms pipe events
  pub all : EndDrawsOut rules acts first rooms pipe events stream

-- ---- a node

module _ {S : Type 0} (rules : Rules S) (Holds : S → Type 0) (once : ComesUpOnce rules Holds)
    (follow : AllFollow rules) (first : S) (rooms : Rooms) (pipe : Leg → Option Pipe)
    (unused : StaysUnused rules first) where
  abbrev start : Shell S
  start = begun first rooms

  abbrev StreamTo : List Event → Type 0
  StreamTo events = Stream rules first rooms pipe events

  -- the role has no use for the leg, and all that was put there was drawn
  record IsDrawn (leg : Leg) (events : List Event) (stream : StreamTo events) : Type 0 where
    none : Unused rules leg stream.passage.role
    whole : spelled (of_leg leg stream.passage.put) ≡ drawn_on rules start leg events

  abbrev Knows : (leg : Leg) (events : List Event) → Shell S → StreamTo events → Type 0
  Knows leg events s stream =
      Known rules Holds once leg (IsDrawn leg events stream) s (came_up leg events)

  allowed_rest : (p : Passage S) (ms ns : List Move) → AreAllowed rules p (ms ++ ns)
      → AreAllowed rules (all_moved rules p ms) ns
  allowed_rest p [] ns all = all
  allowed_rest p (m ∷ ms) ns all = allowed_rest (moved rules p m) ms ns all.1

  module _ (events : List Event) (event : Event) (s : Shell S)
      (is : after_events rules start events ≡ s) (stream : StreamTo events)
      (next : StreamTo (events ++ event ∷ []))
      (grown : IsPrefix stream.leads.moves next.leads.moves) where
    abbrev behind : List Event
    behind = events ++ event ∷ []

    then_is : after_events rules start behind ≡ after_event rules s event
    then_is =
        events_append rules start events (event ∷ [])
        ∙ ap (λ (x : Shell S). after_event rules x event) is

    more : Leads rules stream.passage next.passage
    more = record {
      moves = grown.0;
      allowed =
          subst (λ (p : Passage S). AreAllowed rules p grown.0) stream.leads.reached
          (allowed_rest (started first) stream.leads.moves grown.0
          (subst (AreAllowed rules (started first)) (sym grown.1) next.leads.allowed));
      reached =
          ap (λ (p : Passage S). all_moved rules p grown.0) (sym stream.leads.reached)
          ∙ sym (all_moved_append rules (started first) stream.leads.moves grown.0)
          ∙ ap (all_moved rules (started first)) grown.1 ∙ next.leads.reached;
    }

    role_is : stream.passage.role ≡ s.role
    role_is = stream.role ∙ ap (λ (x : Shell S). x.role) is

    module _ (leg : Leg) where
      leaves : IsFree leg s → IsLeft rules leg s → IsDrawn leg events stream
      leaves free gone = record {
        none = subst (Unused rules leg) (sym role_is) gone.unused;
        whole =
            stream.left leg gone.end (ap (refuses leg) is ∙ free)
            (ap (λ (x : Shell S). end_at x leg) is ∙ end_is leg s.legs ∙ gone.at)
            ∙ ap (λ (b : List ℕ). drawn_on rules start leg events ++ b) gone.undrawn
            ∙ append-nil (drawn_on rules start leg events);
      }

      stays : Knows leg events s stream → IsFree leg (after_event rules s event)
          → came_up leg events ≡ true → IsDrawn leg events stream → IsDrawn leg behind next
      stays known free rose gone =
          let put = of_leg leg stream.passage.put in
          let left = left_stays rules Holds once leg first unused put stream.passage
          next.passage more (record {
            leads = stream.leads;
            holds = subst Holds (sym role_is) known.are.holds;
            was =
                subst (λ (r : S). rules.was_up r leg ≡ true) (sym role_is) (known.was rose);
            none = gone.none;
            put_is = refl;
          }) in
          record {
            none = left.none;
            whole =
                same_between (drawn_on rules start leg events) (drawn_on rules start leg behind)
                (spelled (of_leg leg next.passage.put)) (
                  drawn_on rules (after_events rules start events) leg (event ∷ []),
                  sym (drawn_append rules leg start events (event ∷ [])),
                ) (next.unrefused leg (ap (refuses leg) then_is ∙ free))
                (ap spelled left.put_is ∙ gone.whole);
          }

      knows_then : IsAccepted rules s event
          → (was_lost leg events ≡ false → Knows leg events s stream)
          → was_lost leg behind ≡ false → Knows leg behind (after_event rules s event) next
      knows_then ok knows kept =
          let two = neither (was_lost leg events) (was_lost leg (event ∷ []))
          (sym (lost_append leg events (event ∷ [])) ∙ kept) in
          let known = knows two.0 in
          subst (Known rules Holds once leg (IsDrawn leg behind next) (after_event rules s event))
          (ap (λ b. came_up leg events || b) (sym (or_none (is_up_of leg event)))
          ∙ sym (came_append leg events (event ∷ [])))
          (known_after rules Holds once leg follow s (came_up leg events)
          (IsDrawn leg events stream) (IsDrawn leg behind next) known leaves event ok
          (neither (is_loss_of leg event) false two.1).0 (stays known))

  abbrev DrawnTo : List Event → Type 0
  DrawnTo events = Drawn rules first rooms pipe events

  drawn_out : (events : List Event) (s : Shell S) → after_events rules start events ≡ s
      → (stream : StreamTo events)
      → ((leg : Leg) → was_lost leg events ≡ false → Knows leg events s stream)
      → DrawsOut rules first rooms pipe events stream
  drawn_out events s is stream knows leg gone =
      by ((knows leg gone.untold).kept
      (ap (refuses leg) (sym is) ∙ gone.free) gone.rose)
    where
      by : Stands rules leg s ⊎ IsDrawn leg events stream
          → spelled (of_leg leg stream.passage.put) ≡ drawn_on rules start leg events
      by (inl stands) =
          absurd (absent stands.end
          (sym (ap (λ (x : Shell S). end_at x leg) (sym is) ∙ gone.gone) ∙ end_is leg s.legs
          ∙ stands.at))
      by (inr drawn) = drawn.whole

  all_drawn : (events later : List Event) (s : Shell S) → after_events rules start events ≡ s
      → (stream : StreamTo events) → Grows rules first rooms pipe events later stream
      → AreAccepted rules s later
      → ((leg : Leg) → was_lost leg events ≡ false → Knows leg events s stream)
      → DrawnTo (events ++ later)
  all_drawn events [] s is stream grows ok knows =
      subst DrawnTo (sym (append-nil events))
      (record { stream = stream; all = drawn_out events s is stream knows })
  all_drawn events (event ∷ later) s is stream grows ok knows =
      subst DrawnTo (append_assoc events (event ∷ []) later)
      (all_drawn (events ++ event ∷ []) later (after_event rules s event)
      (then_is events event s is stream grows.0 grows.1) grows.0 grows.2 ok.1
      (λ leg. knows_then events event s is stream grows.0 grows.1 leg ok.0 (knows leg)))

  pub node_drawn : Holds first → (events : List Event) → AreAccepted rules start events
      → Growing rules first rooms pipe events → DrawnTo events
  node_drawn holds events ok growing =
      all_drawn [] events start refl growing.start growing.grows ok
      (λ leg kept.
      known_first rules Holds once leg (IsDrawn leg [] growing.start) first rooms holds)

-- ---- an end

module _ {S : Type 0} (rules : Rules S) (acts : Acts S) (Holds : S → Type 0)
    (once : ComesUpOnce rules Holds) (calls : KeepsUp rules acts Holds)
    (follow : AllFollow rules) (follow_end : AllFollowAtEnd rules acts) (first : S)
    (rooms : Rooms) (pipe : Leg → Option Pipe) (unused : StaysUnusedAtEnd rules acts first) where
  abbrev begin : Shell S
  begin = begun first rooms

  abbrev EndStreamTo : List EndEvent → Type 0
  EndStreamTo events = EndStream rules acts first rooms pipe events

  record IsDrawnThere (leg : Leg) (events : List EndEvent) (stream : EndStreamTo events)
      : Type 0 where
    none : Unused rules leg stream.passage.passage.role
    whole : spelled (of_leg leg stream.passage.passage.put)
        ≡ end_drawn_on rules acts begin leg events

  abbrev KnowsThere : (leg : Leg) (events : List EndEvent) → Shell S → EndStreamTo events
      → Type 0
  KnowsThere leg events s stream =
      Known rules Holds once leg (IsDrawnThere leg events stream) s
      (came_up leg (happened events))

  end_allowed_rest : (p : EndPassage S) (ms ns : List EndMove)
      → AreAllowedAtEnd rules acts p (ms ++ ns)
      → AreAllowedAtEnd rules acts (all_end_moved rules acts p ms) ns
  end_allowed_rest p [] ns all = all
  end_allowed_rest p (m ∷ ms) ns all = end_allowed_rest (end_moved rules acts p m) ms ns all.1

  module _ (events : List EndEvent) (event : EndEvent) (s : Shell S)
      (is : after_end_events rules acts begin events ≡ s) (stream : EndStreamTo events)
      (next : EndStreamTo (events ++ event ∷ []))
      (grown : IsPrefix stream.leads.moves next.leads.moves) where
    abbrev after : List EndEvent
    after = events ++ event ∷ []

    end_then_is : after_end_events rules acts begin after ≡ after_end_event rules acts s event
    end_then_is =
        end_events_append rules acts begin events (event ∷ [])
        ∙ ap (λ (x : Shell S). after_end_event rules acts x event) is

    end_more : EndLeads rules acts stream.passage next.passage
    end_more = record {
      moves = grown.0;
      allowed =
          subst (λ (p : EndPassage S). AreAllowedAtEnd rules acts p grown.0)
          stream.leads.reached
          (end_allowed_rest (end_started first) stream.leads.moves grown.0
          (subst (AreAllowedAtEnd rules acts (end_started first)) (sym grown.1)
          next.leads.allowed));
      reached =
          ap (λ (p : EndPassage S). all_end_moved rules acts p grown.0)
          (sym stream.leads.reached)
          ∙ sym (all_end_moved_append rules acts (end_started first) stream.leads.moves grown.0)
          ∙ ap (all_end_moved rules acts (end_started first)) grown.1 ∙ next.leads.reached;
    }

    end_role_is : stream.passage.passage.role ≡ s.role
    end_role_is = stream.role ∙ ap (λ (x : Shell S). x.role) is

    module _ (leg : Leg) where
      end_leaves : IsFree leg s → IsLeft rules leg s → IsDrawnThere leg events stream
      end_leaves free gone = record {
        none = subst (Unused rules leg) (sym end_role_is) gone.unused;
        whole =
            stream.left leg gone.end (ap (refuses leg) is ∙ free)
            (ap (λ (x : Shell S). end_at x leg) is ∙ end_is leg s.legs ∙ gone.at)
            ∙ ap (λ (b : List ℕ). end_drawn_on rules acts begin leg events ++ b) gone.undrawn
            ∙ append-nil (end_drawn_on rules acts begin leg events);
      }

      end_stays : KnowsThere leg events s stream
          → IsFree leg (after_end_event rules acts s event)
          → came_up leg (happened events) ≡ true → IsDrawnThere leg events stream
          → IsDrawnThere leg after next
      end_stays known free rose gone =
          let put = of_leg leg stream.passage.passage.put in
          let left = left_stays_at_end rules Holds once leg acts follow follow_end calls first
          unused put stream.passage next.passage end_more (record {
            leads = stream.leads;
            holds = subst Holds (sym end_role_is) known.are.holds;
            was =
                subst (λ (r : S). rules.was_up r leg ≡ true) (sym end_role_is)
                (known.was rose);
            none = gone.none;
            put_is = refl;
          }) in
          record {
            none = left.none;
            whole =
                same_between (end_drawn_on rules acts begin leg events)
                (end_drawn_on rules acts begin leg after)
                (spelled (of_leg leg next.passage.passage.put)) (
                  end_drawn_on rules acts (after_end_events rules acts begin events) leg
                      (event ∷ []),
                  sym (end_drawn_append rules acts leg begin events (event ∷ [])),
                ) (next.drawn leg) (ap spelled left.put_is ∙ gone.whole);
          }

      end_knows_then : IsAcceptedAtEnd rules s event
          → (was_lost leg (happened events) ≡ false → KnowsThere leg events s stream)
          → was_lost leg (happened after) ≡ false
          → KnowsThere leg after (after_end_event rules acts s event) next
      end_knows_then ok knows kept =
          let split = happened_append events (event ∷ []) in
          let two = neither (was_lost leg (happened events)) (is_lost_at leg event)
          (sym (ap (was_lost leg) split
          ∙ lost_append leg (happened events) (happened (event ∷ []))) ∙ kept) in
          let known = knows two.0 in
          subst (Known rules Holds once leg (IsDrawnThere leg after next)
          (after_end_event rules acts s event))
          (sym (ap (came_up leg) split
          ∙ came_append leg (happened events) (happened (event ∷ []))))
          (known_at_end rules Holds once leg acts follow follow_end calls s
          (came_up leg (happened events)) (IsDrawnThere leg events stream)
          (IsDrawnThere leg after next) known end_leaves event ok two.1 (end_stays known))

  abbrev EndDrawnTo : List EndEvent → Type 0
  EndDrawnTo events = EndDrawn rules acts first rooms pipe events

  end_drawn_out : (events : List EndEvent) (s : Shell S)
      → after_end_events rules acts begin events ≡ s → (stream : EndStreamTo events)
      → ((leg : Leg) → was_lost leg (happened events) ≡ false
      → KnowsThere leg events s stream)
      → EndDrawsOut rules acts first rooms pipe events stream
  end_drawn_out events s is stream knows leg gone =
      by ((knows leg gone.untold).kept
      (ap (refuses leg) (sym is) ∙ gone.free) gone.rose)
    where
      by : Stands rules leg s ⊎ IsDrawnThere leg events stream
          → spelled (of_leg leg stream.passage.passage.put)
          ≡ end_drawn_on rules acts begin leg events
      by (inl stands) =
          absurd (absent stands.end
          (sym (ap (λ (x : Shell S). end_at x leg) (sym is) ∙ gone.gone) ∙ end_is leg s.legs
          ∙ stands.at))
      by (inr drawn) = drawn.whole

  all_drawn_there : (events later : List EndEvent) (s : Shell S)
      → after_end_events rules acts begin events ≡ s → (stream : EndStreamTo events)
      → EndGrows rules acts first rooms pipe events later stream
      → AreAcceptedAtEnd rules acts s later
      → ((leg : Leg) → was_lost leg (happened events) ≡ false
      → KnowsThere leg events s stream)
      → EndDrawnTo (events ++ later)
  all_drawn_there events [] s is stream grows ok knows =
      subst EndDrawnTo (sym (append-nil events))
      (record { stream = stream; all = end_drawn_out events s is stream knows })
  all_drawn_there events (event ∷ later) s is stream grows ok knows =
      subst EndDrawnTo (append_assoc events (event ∷ []) later)
      (all_drawn_there (events ++ event ∷ []) later (after_end_event rules acts s event)
      (end_then_is events event s is stream grows.0 grows.1) grows.0 grows.2 ok.1
      (λ leg. end_knows_then events event s is stream grows.0 grows.1 leg ok.0 (knows leg)))

  pub end_drawn : Holds first → (events : List EndEvent)
      → AreAcceptedAtEnd rules acts begin events
      → EndGrowing rules acts first rooms pipe events → EndDrawnTo events
  end_drawn holds events ok growing =
      all_drawn_there [] events begin refl growing.start growing.grows ok
      (λ leg kept.
      known_first rules Holds once leg (IsDrawnThere leg [] growing.start) first rooms holds)
