-- the stream of a node, event by event
use Rattle.law_order.proofs.Vocabulary.{◌≡◌, ◌⊎◌, inl, inr, ℕ, List, [], ◌∷◌, ◌++◌, append_assoc, true, false, ◌||◌, Some, Err, refl, sym, ap, ◌∙◌, subst, list_any, Option, append-nil, IsPrefix}
use Rattle.rh_shell.specs.declared.answers.HeadRefused.TheVariants as head
use Rattle.rh_shell.specs.declared.stage.Stage.TheVariants as stage
use Rattle.law_moves.proofs.Vocabulary.{Cookie, Pipe, HttpFault, Leg, Rooms, first_stage, Rules, Shell, begun, may_up, spelled, Move, Passage, AreAllowed, MayMove, all_moved, is_in_use, moved, started, Event, after_event, after_events, of_leg, Stages, AreInTurn, IsInTurn, RefusesInTurn, none_up, stages_after, AreCounted, IsCounted}
use Rattle.law_node_history.proofs.Lemmas.{events_append, accepted_append, came_append, drawn_append, heard_append}
use Rattle.law_node_history.proofs.Vocabulary.{AreAccepted, ComesUpOnce, IsAccepted, came_up, drawn_in, drawn_on, heard_in, heard_on, is_up_of}
use Rattle.law_node_streams.proofs.Streams.Staging.{all_stages, all_stages_append, in_turn_append}
use Rattle.law_node_streams.proofs.Streams.Counts.{counted_append}
use Rattle.law_node_streams.proofs.Streams.Kept.{FrontOf}
use Rattle.law_node_streams.proofs.Streams.Going.{kept_seated, spelled_at}
use Rattle.law_node_streams.proofs.Streams.Runs.{IsFit, Ran, ran_as, ran_event, ran_none}
use Rattle.law_node_streams.proofs.Streams.Ways.{all_allowed_append, all_moved_append, or_false}
use Rattle.law_node_streams.specs.Streams.{HasPipes, HearsInTurn, IsDrawn, RefusalDrawn, StaysUnused, Stream, is_head_on, is_refused_on, is_up_on}

module _ {S : Type 0} (rules : Rules S) (first : S) (rooms : Rooms) (pipe : Leg → Option Pipe)
    (has : HasPipes rules first pipe) (unused : StaysUnused rules first)
    (once : ComesUpOnce rules (begun first rooms)) where
  pub record IsReached (p : Passage S) (ms : List Move) (g : Stages) : Type 0 where
    pub allowed : AreAllowed rules (started first) ms
    pub reached : all_moved rules (started first) ms ≡ p
    pub in_turn : AreInTurn rules first ms
    pub stages : all_stages rules (started first) none_up ms ≡ g
    pub counted : AreCounted rules (started first) ms

  abbrev pub Sound : Leg → Type 0
  Sound leg = RefusesInTurn rules first pipe leg

  -- nothing is asked of the cookie with which a leg comes up
  abbrev pub anyhow : Leg → Cookie → Type 0
  anyhow leg cookie = Unit {0}

  abbrev pub start : Shell S
  start = begun first rooms

  pub more : (p : Passage S) (ms : List Move) (g : Stages) (move : Move) → IsReached p ms g
      → MayMove rules p.role move → IsInTurn rules p.role g move → IsCounted p move
      → IsReached (moved rules p move) (ms ++ move ∷ []) (stages_after rules p.role g move)
  more p ms g move at may turn count = record {
    allowed =
        all_allowed_append rules (started first) ms (move ∷ []) at.allowed
        (subst (λ (x : Passage S). MayMove rules x.role move) (sym at.reached) may, tt);
    reached =
        all_moved_append rules (started first) ms (move ∷ [])
        ∙ ap (λ (x : Passage S). moved rules x move) at.reached;
    in_turn =
        in_turn_append rules (started first) none_up ms (move ∷ []) at.in_turn (
          subst (λ (x : Passage S). IsInTurn rules x.role
              (all_stages rules (started first) none_up ms) move) (sym at.reached)
              (subst (λ (f : Stages). IsInTurn rules p.role f move) (sym at.stages) turn),
          tt,
        );
    stages =
        all_stages_append rules (started first) none_up ms (move ∷ [])
        ∙ ap (λ (x : Passage S). stages_after rules x.role
        (all_stages rules (started first) none_up ms) move) at.reached
        ∙ ap (λ (f : Stages). stages_after rules p.role f move) at.stages;
    counted =
        counted_append rules (started first) ms (move ∷ []) at.counted
        (subst (λ (x : Passage S). IsCounted x move) (sym at.reached) count, tt);
  }

  pub stays : (p : Passage S) (ms : List Move) (g : Stages) (move : Move) (leg : Leg)
      → IsReached p ms g
      → MayMove rules p.role move → is_up_on leg move ≡ false
      → is_in_use rules p.role leg ≡ false → is_in_use rules (moved rules p move).role leg ≡ false
  stays p ms g move leg at may up not_used =
      subst (λ (x : Passage S). is_in_use rules (moved rules x move).role leg ≡ false) at.reached
      (unused ms move leg at.allowed
      (subst (λ (x : Passage S). MayMove rules x.role move) (sym at.reached) may) up
      (subst (λ (x : Passage S). is_in_use rules x.role leg ≡ false) (sym at.reached) not_used))

  pub piped : (p : Passage S) (ms : List Move) (g : Stages) (leg : Leg) → IsReached p ms g
      → rules.pipe p.role leg ≡ pipe leg
  piped p ms g leg at =
      subst (λ (x : Passage S). rules.pipe x.role leg ≡ pipe leg) at.reached (has ms leg at.allowed)

  pub asked : (leg : Leg) (p : Passage S) (ms : List Move) (g : Stages) (text : List ℕ)
      (fault : HttpFault) → Sound leg → IsReached p ms g → first_stage (pipe leg) ≡ stage.Head
      → list_any (is_head_on leg) ms ≡ false
      → (rules.head p.role leg text).1 ≡ Err (head.Request fault)
      → Unit {0} × (of_leg leg p.put ≡ [])
  asked leg p ms g text fault sound at top headless refuses = (
    tt,
    subst (λ (x : Passage S). of_leg leg x.put ≡ []) at.reached
        (sound.asked ms text fault at.allowed at.in_turn top headless
        (subst (λ (x : Passage S). (rules.head x.role leg text).1 ≡ Err (head.Request fault))
        (sym at.reached) refuses)),
  )

  pub unreached : (leg : Leg) (p : Passage S) (ms : List Move) (g : Stages) (wanted : Leg)
      → Sound leg → IsReached p ms g → rules.answers_on p.role ≡ Some leg
      → rules.wants p.role wanted ≡ true → Unit {0} × (of_leg leg p.put ≡ [])
  unreached leg p ms g wanted sound at answers wants = (
    tt,
    subst (λ (x : Passage S). of_leg leg x.put ≡ []) at.reached
        (sound.unreached ms wanted at.allowed at.in_turn
        (subst (λ (x : Passage S). rules.answers_on x.role ≡ Some leg) (sym at.reached) answers)
        (subst (λ (x : Passage S). rules.wants x.role wanted ≡ true) (sym at.reached) wants)),
  )

  -- what is kept behind these events
  abbrev pub RanTo : Shell S → List Event → Type 0
  RanTo s events =
      Ran rules pipe Sound (Unit {0}) anyhow IsReached s (λ leg. heard_on leg events)
      (λ leg. drawn_on rules start leg events) (λ leg. came_up leg events)

  pub ran_one : (events : List Event) (s : Shell S) (event : Event)
      → after_events rules start events ≡ s → RanTo s events
      → IsFit rules anyhow s (λ leg. came_up leg events) event
      → RanTo (after_event rules s event) (events ++ event ∷ [])
  ran_one events s event is ran fit =
      ran_as rules pipe Sound (Unit {0}) anyhow IsReached (after_event rules s event)
      (λ leg. heard_on leg events ++ heard_in leg event)
      (λ leg. drawn_on rules start leg events ++ drawn_in rules s leg event)
      (λ leg. heard_on leg (events ++ event ∷ []))
      (λ leg. drawn_on rules start leg (events ++ event ∷ []))
      (λ leg. came_up leg events || is_up_of leg event)
      (λ leg. came_up leg (events ++ event ∷ []))
      (λ leg.
      ap (λ x. heard_on leg events ++ x) (sym (append-nil (heard_in leg event)))
      ∙ sym (heard_append leg events (event ∷ [])))
      (λ leg.
      ap (λ x. drawn_on rules start leg events ++ x)
      (ap (λ (x : Shell S). drawn_in rules x leg event) (sym is)
      ∙ sym (append-nil (drawn_in rules (after_events rules start events) leg event)))
      ∙ sym (drawn_append rules leg start events (event ∷ [])))
      (λ leg.
      ap (λ b. came_up leg events || b) (sym (or_false (is_up_of leg event)))
      ∙ sym (came_append leg events (event ∷ [])))
      (ran_event rules pipe Sound (Unit {0}) anyhow IsReached asked unreached more stays piped s
      event (λ leg. heard_on leg events) (λ leg. drawn_on rules start leg events)
      (λ leg. came_up leg events) ran fit)

  pub run : (events later : List Event) (s : Shell S) → after_events rules start events ≡ s
      → AreAccepted rules start events → RanTo s events → AreAccepted rules s later
      → HearsInTurn (events ++ later) → RanTo (after_events rules s later) (events ++ later)
  run events [] s is before ran accepted turn =
      subst (RanTo s) (sym (append-nil events)) ran
  run events (event ∷ later) s is before ran accepted turn =
      let next = after_event rules s event in
      let all = append_assoc events (event ∷ []) later in
      let fit : IsFit rules anyhow s (λ leg. came_up leg events) event = record {
        accepted = accepted.0;
        once = λ leg rose.
            subst (λ (x : Shell S). may_up rules x leg ≡ false) is
            (once.once events leg before rose);
        turn = λ leg piece e.
            turn events later leg piece (ap (λ x. events ++ x ∷ later) e);
        raises = λ leg cookie e. tt;
      } in
      subst (RanTo (after_events rules next later)) all
      (run (events ++ event ∷ []) later next
      (events_append rules start events (event ∷ [])
      ∙ ap (λ (x : Shell S). after_event rules x event) is)
      (accepted_append rules start events (event ∷ []) before
      (subst (λ (x : Shell S). IsAccepted rules x event) (sym is) accepted.0, tt))
      (ran_one events s event is ran fit) accepted.1
      (subst HearsInTurn (sym all) turn))

  pub drawn_is : (leg : Leg) (p : Passage S) (heard bytes : List ℕ)
      → IsPrefix bytes (spelled (of_leg leg p.put))
      ⊎ FrontOf rules (pipe leg) leg (Sound leg) (Unit {0}) p heard bytes
      → IsDrawn (of_leg leg p.put) bytes
  drawn_is leg p heard bytes (inl front) = inl front
  drawn_is leg p heard bytes (inr front) =
      inr (
        front.answering.none,
        front.answering.refusal,
        (front.rest, sym front.answering.text),
      )

  pub refused_is : (leg : Leg) (p : Passage S) (heard bytes : List ℕ)
      → IsPrefix bytes (spelled (of_leg leg p.put))
      ⊎ FrontOf rules (pipe leg) leg (Sound leg) (Unit {0}) p heard bytes
      → IsPrefix bytes (spelled (of_leg leg p.put))
      ⊎ RefusalDrawn rules leg (of_leg leg p.put) heard bytes
  refused_is leg p heard bytes (inl front) = inl front
  refused_is leg p heard bytes (inr front) = inr (record {
    none = front.answering.none;
    refusal = front.answering.refusal;
    front = (front.rest, sym front.answering.text);
    why = front.answering.why;
  })

  pub node_stream : (events : List Event) → AreAccepted rules start events → HearsInTurn events
      → Stream rules first rooms pipe events
  node_stream events accepted turn = record {
    passage = ran.passage;
    leads = record { moves = ran.moves; allowed = ran.at.allowed; reached = ran.at.reached };
    in_turn = ran.at.in_turn;
    counted = ran.at.counted;
    role = ran.role;
    ups = ran.ups;
    read = λ leg. (ran.kept leg).front;
    drawn = λ leg sound.
        drawn_is leg ran.passage (heard_on leg events) (drawn_on rules start leg events)
        ((ran.kept leg).spells sound);
    heads = λ leg. (ran.kept leg).texts;
    refused = λ leg sound.
        refused_is leg ran.passage (heard_on leg events) (drawn_on rules start leg events)
        ((ran.kept leg).spells sound);
    goes = λ leg going. ran.unrefused leg (ap (is_refused_on leg) going);
    unrefused = ran.unrefused;
    seats = λ leg.
        kept_seated rules (pipe leg) leg (Sound leg) (Unit {0}) ran.passage ran.moves
        (after_events rules start events) (heard_on leg events) (drawn_on rules start leg events)
        (came_up leg events) ran.role (ran.kept leg);
    left = λ leg.
        spelled_at leg (after_events rules start events) (of_leg leg ran.passage.put)
        (drawn_on rules start leg events) (ran.left leg);
    unput = λ leg none. ((ran.kept leg).new none).put;
  }
    where
      ran : RanTo (after_events rules start events) events
      ran =
          run [] events start refl tt
          (ran_none rules pipe Sound (Unit {0}) anyhow IsReached first rooms
          (record {
            allowed = tt;
            reached = refl;
            in_turn = tt;
            stages = refl;
            counted = tt;
          })) accepted turn
