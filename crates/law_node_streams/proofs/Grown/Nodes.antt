-- the streams of a node behind each front of its events, event by event
use Rattle.law_order.proofs.Vocabulary.{◌≡◌, List, [], ◌∷◌, ◌++◌, append_assoc, false, ◌||◌, refl, sym, ap, ◌∙◌, subst, Option, append-nil, IsPrefix}
use Rattle.law_moves.proofs.Vocabulary.{prefix_more, prefix_self, prefix_trans, Cookie, Pipe, Leg, Rooms, Rules, Shell, begun, Move, Passage, MayMove, moved, Event, after_event, after_events, of_leg, IsCounted, RefusesInTurn, Stages, IsInTurn, stages_after}
use Rattle.law_node_history.proofs.Lemmas.{events_append, accepted_append, came_append, drawn_append, heard_append}
use Rattle.law_node_history.proofs.Vocabulary.{AreAccepted, ComesUpOnce, IsAccepted, came_up, drawn_in, drawn_on, heard_in, heard_on, is_up_of}
use Rattle.law_node_streams.proofs.Streams.Going.{kept_seated, spelled_at}
use Rattle.law_node_streams.proofs.Streams.Nodes.{IsReached, asked, drawn_is, more, piped, refused_is, stays, unreached}
use Rattle.law_node_streams.proofs.Streams.Runs.{IsFit, Ran, ran_as, ran_event, ran_none}
use Rattle.law_node_streams.proofs.Streams.Ways.{or_false}
use Rattle.law_node_streams.proofs.Grown.Based.{ran_with}
use Rattle.law_node_streams.specs.Streams.{HasPipes, HearsInTurn, StaysUnused, Stream, is_refused_on}
use Rattle.law_node_streams.specs.Grown.{Growing, Grows}

module _ {S : Type 0} (rules : Rules S) (first : S) (rooms : Rooms) (pipe : Leg → Option Pipe)
    (has : HasPipes rules first pipe) (unused : StaysUnused rules first)
    (once : ComesUpOnce rules (begun first rooms)) where
  abbrev start : Shell S
  start = begun first rooms

  abbrev after : List Event → Shell S
  after events = after_events rules start events

  abbrev Sound : Leg → Type 0
  Sound leg = RefusesInTurn rules first pipe leg

  abbrev anyhow : Leg → Cookie → Type 0
  anyhow leg cookie = Unit {0}

  abbrev Reached : Passage S → List Move → Stages → Type 0
  Reached p ms g = IsReached rules first rooms pipe has unused once p ms g

  -- these moves are a front of them
  record GoesOn (base : List Move) (p : Passage S) (ms : List Move) (g : Stages) : Type 0 where
    at : IsReached rules first rooms pipe has unused once p ms g
    on : IsPrefix base ms

  abbrev RanBy : (Passage S → List Move → Stages → Type 0) → Shell S → List Event → Type 0
  RanBy At s events =
      Ran rules pipe Sound (Unit {0}) anyhow At s (λ leg. heard_on leg events)
      (λ leg. drawn_on rules start leg events) (λ leg. came_up leg events)

  abbrev Behind : List Event → Type 0
  Behind events = RanBy Reached (after events) events

  abbrev Fits : List Event → Event → Type 0
  Fits events event = IsFit rules anyhow (after events) (λ leg. came_up leg events) event

  -- ---- one event more

  module _ (base : List Move) where
    goes_more : (p : Passage S) (ms : List Move) (g : Stages) (move : Move) → GoesOn base p ms g
        → MayMove rules p.role move → IsInTurn rules p.role g move → IsCounted p move
        → GoesOn base (moved rules p move) (ms ++ move ∷ []) (stages_after rules p.role g move)
    goes_more p ms g move goes may turn count = record {
      at = more rules first rooms pipe has unused once p ms g move goes.at may turn count;
      on = prefix_trans base ms (ms ++ move ∷ []) goes.on (prefix_more ms (move ∷ []));
    }

    goes_event : (events : List Event) (event : Event) → RanBy (GoesOn base) (after events) events
        → Fits events event
        → RanBy (GoesOn base) (after_event rules (after events) event) (events ++ event ∷ [])
    goes_event events event ran fit =
        let s = after events in
        ran_as rules pipe Sound (Unit {0}) anyhow (GoesOn base) (after_event rules s event)
        (λ leg. heard_on leg events ++ heard_in leg event)
        (λ leg. drawn_on rules start leg events ++ drawn_in rules s leg event)
        (λ leg. heard_on leg (events ++ event ∷ []))
        (λ leg. drawn_on rules start leg (events ++ event ∷ []))
        (λ leg. came_up leg events || is_up_of leg event)
        (λ leg. came_up leg (events ++ event ∷ []))
        (λ leg.
        ap (λ x. heard_on leg events ++ x) (sym (append-nil (heard_in leg event)))
        ∙ sym (heard_append leg events (event ∷ [])))
        (λ leg.
        ap (λ x. drawn_on rules start leg events ++ x)
        (sym (append-nil (drawn_in rules s leg event)))
        ∙ sym (drawn_append rules leg start events (event ∷ [])))
        (λ leg.
        ap (λ b. came_up leg events || b) (sym (or_false (is_up_of leg event)))
        ∙ sym (came_append leg events (event ∷ [])))
        (ran_event rules pipe Sound (Unit {0}) anyhow (GoesOn base)
        (λ leg p ms g text fault sound goes.
        asked rules first rooms pipe has unused once leg p ms g text fault sound goes.at)
        (λ leg p ms g wanted sound goes.
        unreached rules first rooms pipe has unused once leg p ms g wanted sound goes.at)
        goes_more
        (λ p ms g move leg goes.
        stays rules first rooms pipe has unused once p ms g move leg goes.at)
        (λ p ms g leg goes. piped rules first rooms pipe has unused once p ms g leg goes.at)
        s event (λ leg. heard_on leg events) (λ leg. drawn_on rules start leg events)
        (λ leg. came_up leg events) ran fit)

  one_more : (events : List Event) (event : Event) (ran : Behind events) → Fits events event
      → (next : Behind (events ++ event ∷ [])) × IsPrefix ran.moves next.moves
  one_more events event ran fit =
      let s = after events in
      let heard = λ (leg : Leg). heard_on leg events in
      let drawn = λ (leg : Leg). drawn_on rules start leg events in
      let up = λ (leg : Leg). came_up leg events in
      let more_events = events ++ event ∷ [] in
      let t = after_event rules s event in
      let goes : RanBy (GoesOn ran.moves) t more_events =
      goes_event ran.moves events event
      (ran_with rules pipe Sound (Unit {0}) anyhow anyhow Reached (GoesOn ran.moves) s heard drawn
      up ran (record { at = ran.at; on = prefix_self ran.moves }) ran.lifted) fit in
      subst (λ (x : Shell S). (next : RanBy Reached x more_events) × IsPrefix ran.moves next.moves)
      (sym (events_append rules start events (event ∷ []))) (
        ran_with rules pipe Sound (Unit {0}) anyhow anyhow (GoesOn ran.moves) Reached t
            (λ leg. heard_on leg more_events) (λ leg. drawn_on rules start leg more_events)
            (λ leg. came_up leg more_events) goes goes.at.at goes.lifted,
        goes.at.on,
      )

  -- ---- all events

  abbrev stream_of : (events : List Event) → Behind events → Stream rules first rooms pipe events
  stream_of events ran = record {
    passage = ran.passage;
    leads = record { moves = ran.moves; allowed = ran.at.allowed; reached = ran.at.reached };
    in_turn = ran.at.in_turn;
    counted = ran.at.counted;
    role = ran.role;
    ups = ran.ups;
    read = λ leg. (ran.kept leg).front;
    drawn = λ leg sound.
        drawn_is rules first rooms pipe has unused once leg ran.passage (heard_on leg events)
        (drawn_on rules start leg events) ((ran.kept leg).spells sound);
    heads = λ leg. (ran.kept leg).texts;
    refused = λ leg sound.
        refused_is rules first rooms pipe has unused once leg ran.passage (heard_on leg events)
        (drawn_on rules start leg events) ((ran.kept leg).spells sound);
    goes = λ leg going. ran.unrefused leg (ap (is_refused_on leg) going);
    unrefused = ran.unrefused;
    seats = λ leg.
        kept_seated rules (pipe leg) leg (Sound leg) (Unit {0}) ran.passage ran.moves
        (after events) (heard_on leg events) (drawn_on rules start leg events)
        (came_up leg events) ran.role (ran.kept leg);
    left = λ leg.
        spelled_at leg (after events) (of_leg leg ran.passage.put)
        (drawn_on rules start leg events) (ran.left leg);
    unput = λ leg none. ((ran.kept leg).new none).put;
  }

  fits : (events later : List Event) (event : Event) → AreAccepted rules start events
      → IsAccepted rules (after events) event → HearsInTurn (events ++ event ∷ later)
      → Fits events event
  fits events later event before accepted turn = record {
    accepted = accepted;
    once = λ leg rose. once.once events leg before rose;
    turn = λ leg piece e. turn events later leg piece (ap (λ x. events ++ x ∷ later) e);
    raises = λ leg cookie e. tt;
  }

  grows : (events later : List Event) (ran : Behind events) → AreAccepted rules start events
      → AreAccepted rules (after events) later → HearsInTurn (events ++ later)
      → Grows rules first rooms pipe events later (stream_of events ran)
  grows events [] ran before accepted turn = tt
  grows events (event ∷ later) ran before accepted turn =
      let next = one_more events event ran
      (fits events later event before accepted.0 turn) in (
        stream_of (events ++ event ∷ []) next.0,
        next.1,
        grows (events ++ event ∷ []) later next.0
            (accepted_append rules start events (event ∷ []) before (accepted.0, tt))
            (subst (λ (x : Shell S). AreAccepted rules x later)
            (sym (events_append rules start events (event ∷ []))) accepted.1)
            (subst HearsInTurn (sym (append_assoc events (event ∷ []) later)) turn),
      )

  -- before any event there was no move
  abbrev Still : Passage S → List Move → Stages → Type 0
  Still p ms g = Reached p ms g × (ms ≡ [])

  still : RanBy Still start []
  still =
      ran_none rules pipe Sound (Unit {0}) anyhow Still first rooms (
        record { allowed = tt; reached = refl; in_turn = tt; stages = refl; counted = tt },
        refl,
      )

  abbrev behind_none : Behind []
  behind_none =
      ran_with rules pipe Sound (Unit {0}) anyhow anyhow Still Reached start (λ leg. [])
      (λ leg. []) (λ leg. false) still still.at.0 still.lifted

  pub node_grows : (events : List Event) → AreAccepted rules start events → HearsInTurn events
      → Growing rules first rooms pipe events
  node_grows events accepted turn = record {
    start = stream_of [] behind_none;
    none = still.at.1;
    grows = grows [] events behind_none tt accepted turn;
  }
