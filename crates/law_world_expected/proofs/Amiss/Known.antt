-- what a node that goes on knows of a leg whose end it has: the leg was up, and the end's count is
-- of the packets that came there
use Rattle.law_order.proofs.Vocabulary.{◌≡◌, ◌⊎◌, inl, inr, ℕ, List, [], ◌∷◌, ◌++◌, Bool, true, false, Some, refl, sym, ap, ◌∙◌, subst, Option, true≢false}
use Rattle.law_moves.proofs.Vocabulary.{Cookie, Pipe, Leg, Going, Rooms, NearEnd, is_over, Acts, Message, Rules, Shell, begun, end_at, may_up, Move, Passage, end_started, ComesUp, EndEvent, Event, Happens, IsClosed, IsGiven, IsRecycled, IsTaken, Hears, Ends, Breaks, Draws, Ticks, after_end_event, after_end_events, after_event, after_events, Tells, packets, messages_read, RefusesInTurn}
use Rattle.law_moves.proofs.Lemmas.{leg_is}
use Rattle.law_node_history.proofs.Lemmas.{end_events_append, events_append}
use Rattle.law_node_history.proofs.Vocabulary.{AreAccepted, AreAcceptedAtEnd, ComesUpOnce, ComesUpOnceAtEnd, IsAccepted, came_up, end_drawn_on, drawn_on, happened, heard_on, is_up_of}
use Rattle.law_node_causes.specs.Once.{WasUp}
use Rattle.law_role_client_rows.proofs.Refusing.Ends.{either_true as one_of}
use Rattle.law_node_streams.proofs.Streams.Ends.{end_is, end_of}
use Rattle.law_node_streams.proofs.Streams.Kept.{IsSeated, Kept}
use Rattle.law_node_streams.proofs.Streams.Runs.{ran_none}
use Rattle.law_node_streams.proofs.Streams.Seats.{seat}
use Rattle.law_node_streams.proofs.Streams.Turns.{Nowhere, Sits, seat_by}
use Rattle.law_node_streams.proofs.Streams.AtEnds as at_ends
use Rattle.law_node_streams.proofs.Streams.Nodes as nodes
use Rattle.law_node_streams.specs.Streams.{HasPipes, HearsInTurn, NeverRefuses, StaysUnused, StaysUnusedAtEnd, all_given, all_taken, is_live}
use Rattle.law_world_expected.proofs.Amiss.Next.{KnowsEnd}
use Rattle.law_world_expected.specs.Known.{KnowsLegs, KnowsLegsAtEnd}

-- ---- by what is kept of it

module _ {S : Type 0} (rules : Rules S) (pipe : Option Pipe) (leg : Leg)
    (Sound MayRefuse : Type 0) (p : Passage S) (ms : List Move) (s : Shell S)
    (heard drawn : List ℕ) (up : Bool) (role : p.role ≡ s.role)
    (kept : Kept rules pipe leg Sound MayRefuse p ms (seat leg s) heard drawn up)
    (end : NearEnd) (going : s.course ≡ Going) (at : end_at s leg ≡ Some end) where
  sits_here : seat leg s ≡ Sits end
  sits_here =
      ap (λ c. seat_by leg c (end_of leg s.legs)) going
      ∙ ap (seat_by leg Going) (sym (end_is leg s.legs) ∙ at)

  rose : up ≡ true
  rose = by up refl
    where
      by : (b : Bool) → up ≡ b → b ≡ true
      by true e = refl
      by false e =
          absurd (let bad : Nowhere ≡ Sits end = sym (kept.new e).seat ∙ sits_here in cc)

  counts : is_over rules end s.role ≡ false → is_live end.intake.stage ≡ true
      → Tells end.count (packets (messages_read pipe heard))
  counts over live =
      let sits = subst (IsSeated rules pipe leg Sound MayRefuse p ms heard drawn) sits_here
      kept.seat in
      subst (λ (messages : List Message). Tells end.count (packets messages))
      (sits.reads (subst (λ (r : S). is_over rules end r ≡ false) (sym role) over) live).all
      sits.tells

  knows_by : (up ≡ true → rules.was_up s.role leg ≡ true)
      → KnowsEnd rules s.role pipe leg heard end
  knows_by was = record { was_up = was rose; counts = counts }

-- ---- legs that came up were up

-- by an event
up_by : {S : Type 0} (rules : Rules S) (s : Shell S) (leg : Leg)
    → ((cookie : Cookie) → may_up rules s leg ≡ true
    → WasUp rules (after_event rules s (ComesUp leg cookie)) leg)
    → (event : Event) → is_up_of leg event ≡ true → IsAccepted rules s event
    → rules.was_up (after_event rules s event).role leg ≡ true
up_by rules s leg comes (ComesUp other cookie) e may =
    let same = leg_is other leg e in
    subst (λ (l : Leg). rules.was_up (after_event rules s (ComesUp l cookie)).role leg ≡ true)
    (sym same) (comes cookie (subst (λ (l : Leg). may_up rules s l ≡ true) same may)).was_up
up_by rules s leg comes (Hears other piece) e may = absurd cc
up_by rules s leg comes (Ends other) e may = absurd cc
up_by rules s leg comes (Breaks other) e may = absurd cc
up_by rules s leg comes (Draws other room) e may = absurd cc
up_by rules s leg comes (Ticks now) e may = absurd cc

module _ {S : Type 0} (rules : Rules S) (start : Shell S) (leg : Leg) where
  was_up_by : KnowsLegs rules start → (events later : List Event) (s : Shell S)
      → after_events rules start events ≡ s → AreAccepted rules s later
      → came_up leg later ≡ true → rules.was_up (after_events rules s later).role leg ≡ true
  was_up_by k events [] s is accepted came = absurd (true≢false (sym came))
  was_up_by k events (event ∷ later) s is accepted came =
      by (one_of (is_up_of leg event) (came_up leg later) came)
      (was_up_by k (events ++ event ∷ []) later (after_event rules s event) next_is accepted.1)
    where
      next_is : after_events rules start (events ++ event ∷ []) ≡ after_event rules s event
      next_is =
          events_append rules start events (event ∷ [])
          ∙ ap (λ (x : Shell S). after_event rules x event) is

      Was : Type 0
      Was = rules.was_up (after_events rules (after_event rules s event) later).role leg ≡ true

      by : (is_up_of leg event ≡ true) ⊎ (came_up leg later ≡ true)
          → (came_up leg later ≡ true → Was) → Was
      by (inl here) rest =
          subst (λ (x : Shell S). rules.was_up (after_events rules x later).role leg ≡ true)
          next_is (k.once (events ++ event ∷ []) later leg
          (subst (λ (x : Shell S). rules.was_up x.role leg ≡ true) (sym next_is)
          (up_by rules s leg (λ cookie may.
          subst (λ (x : Shell S). WasUp rules (after_event rules x (ComesUp leg cookie)) leg) is
          (k.comes events leg cookie
          (subst (λ (x : Shell S). may_up rules x leg ≡ true) (sym is) may))) event here
          accepted.0))).was_up
      by (inr there) rest = rest there

  module _ (acts : Acts S) where
    next_end : (events : List EndEvent) (s : Shell S) (one : EndEvent)
        → after_end_events rules acts start events ≡ s
        → after_end_events rules acts start (events ++ one ∷ []) ≡ after_end_event rules acts s one
    next_end events s one is =
        end_events_append rules acts start events (one ∷ [])
        ∙ ap (λ (x : Shell S). after_end_event rules acts x one) is

    end_was_up_by : KnowsLegsAtEnd rules acts start → (events later : List EndEvent)
        (s : Shell S) → after_end_events rules acts start events ≡ s
        → AreAcceptedAtEnd rules acts s later → came_up leg (happened later) ≡ true
        → rules.was_up (after_end_events rules acts s later).role leg ≡ true
    end_was_up_by k events [] s is accepted came = absurd (true≢false (sym came))
    end_was_up_by k events (Happens event ∷ later) s is accepted came =
        by (one_of (is_up_of leg event) (came_up leg (happened later)) came)
        (end_was_up_by k (events ++ Happens event ∷ []) later (after_event rules s event) next_is
        accepted.1)
      where
        next_is : after_end_events rules acts start (events ++ Happens event ∷ [])
            ≡ after_event rules s event
        next_is = next_end events s (Happens event) is

        Was : Type 0
        Was =
            rules.was_up (after_end_events rules acts (after_event rules s event) later).role leg
            ≡ true

        by : (is_up_of leg event ≡ true) ⊎ (came_up leg (happened later) ≡ true)
            → (came_up leg (happened later) ≡ true → Was) → Was
        by (inl here) rest =
            subst (λ (x : Shell S).
            rules.was_up (after_end_events rules acts x later).role leg ≡ true) next_is
            (k.once (events ++ Happens event ∷ []) later leg
            (subst (λ (x : Shell S). rules.was_up x.role leg ≡ true) (sym next_is)
            (up_by rules s leg (λ cookie may.
            subst (λ (x : Shell S). WasUp rules (after_event rules x (ComesUp leg cookie)) leg) is
            (k.comes events leg cookie
            (subst (λ (x : Shell S). may_up rules x leg ≡ true) (sym is) may))) event here
            accepted.0))).was_up
        by (inr there) rest = rest there
    end_was_up_by k events (IsGiven pdu ∷ later) s is accepted came =
        end_was_up_by k (events ++ IsGiven pdu ∷ []) later
        (after_end_event rules acts s (IsGiven pdu)) (next_end events s (IsGiven pdu) is)
        accepted.1 came
    end_was_up_by k events (IsTaken ∷ later) s is accepted came =
        end_was_up_by k (events ++ IsTaken ∷ []) later (after_end_event rules acts s IsTaken)
        (next_end events s IsTaken is) accepted.1 came
    end_was_up_by k events (IsClosed ∷ later) s is accepted came =
        end_was_up_by k (events ++ IsClosed ∷ []) later (after_end_event rules acts s IsClosed)
        (next_end events s IsClosed is) accepted.1 came
    end_was_up_by k events (IsRecycled ∷ later) s is accepted came =
        end_was_up_by k (events ++ IsRecycled ∷ []) later (after_end_event rules acts s IsRecycled)
        (next_end events s IsRecycled is) accepted.1 came

-- ---- a proxy

module _ {S : Type 0} (rules : Rules S) (first : S) (rooms : Rooms) (pipe : Leg → Option Pipe)
    (has : HasPipes rules first pipe) (unused : StaysUnused rules first)
    (once : ComesUpOnce rules (begun first rooms)) (legs : KnowsLegs rules (begun first rooms))
  where
    pub node_knows : (events : List Event) → AreAccepted rules (begun first rooms) events
        → HearsInTurn events → (leg : Leg) (end : NearEnd)
        → (let node = after_events rules (begun first rooms) events in
        node.course ≡ Going → end_at node leg ≡ Some end
        → KnowsEnd rules node.role (pipe leg) leg (heard_on leg events) end)
    node_knows events accepted turn leg end going at =
        knows_by rules (pipe leg) leg (RefusesInTurn rules first pipe leg) (Unit {0}) ran.passage
        ran.moves (after_events rules (begun first rooms) events) (heard_on leg events)
        (drawn_on rules (begun first rooms) leg events) (came_up leg events) ran.role (ran.kept leg)
        end going at
        (was_up_by rules (begun first rooms) leg legs [] events (begun first rooms) refl accepted)
      where
        ran : nodes.RanTo rules first rooms pipe has unused once
            (after_events rules (begun first rooms) events) events
        ran =
            nodes.run rules first rooms pipe has unused once [] events (begun first rooms) refl tt
            (ran_none rules pipe (nodes.Sound rules first rooms pipe has unused once) (Unit {0})
            (nodes.anyhow rules first rooms pipe has unused once)
            (nodes.IsReached rules first rooms pipe has unused once) first rooms (record {
              allowed = tt;
              reached = refl;
              in_turn = tt;
              stages = refl;
              counted = tt;
            })) accepted turn

-- ---- an end

module _ {S : Type 0} (rules : Rules S) (acts : Acts S) (first : S) (rooms : Rooms)
    (pipe : Leg → Option Pipe) (piped : (s : S) (leg : Leg) → rules.pipe s leg ≡ pipe leg)
    (never : NeverRefuses rules) (unused : StaysUnusedAtEnd rules acts first)
    (once : ComesUpOnceAtEnd rules acts (begun first rooms))
    (legs : KnowsLegsAtEnd rules acts (begun first rooms)) where
  pub end_knows : (events : List EndEvent) → AreAcceptedAtEnd rules acts (begun first rooms) events
      → HearsInTurn (happened events) → (leg : Leg) (end : NearEnd)
      → (let node = after_end_events rules acts (begun first rooms) events in
      node.course ≡ Going → end_at node leg ≡ Some end
      → KnowsEnd rules node.role (pipe leg) leg (heard_on leg (happened events)) end)
  end_knows events accepted turn leg end going at =
      knows_by rules (pipe leg) leg (Unit {0}) ⊥ ran.passage ran.moves
      (after_end_events rules acts (begun first rooms) events) (heard_on leg (happened events))
      (end_drawn_on rules acts (begun first rooms) leg events) (came_up leg (happened events))
      ran.role (ran.kept leg) end going at
      (end_was_up_by rules (begun first rooms) leg acts legs [] events (begun first rooms) refl
      accepted)
    where
      start : Shell S
      start = begun first rooms

      ran : at_ends.RanTo rules acts first rooms pipe piped never unused once events
          (all_given rules acts start events) (all_taken rules acts start events)
          (after_end_events rules acts start events) events
      ran =
          at_ends.run rules acts first rooms pipe piped never unused once events [] [] [] events
          start refl tt
          (ran_none rules pipe
          (at_ends.Sound rules acts first rooms pipe piped never unused once events) ⊥
          (at_ends.CameUp rules acts first rooms pipe piped never unused once events)
          (at_ends.IsReached rules acts first rooms pipe piped never unused once events [] [])
          first rooms (record {
            end = end_started first;
            leads = record { moves = []; allowed = tt; reached = refl };
            is = refl;
            ups = λ leg. refl;
            lifted = λ have. tt;
            up_first = tt;
            known = λ leg stage is. absurd cc;
            counted = tt;
            given_is = refl;
            taken_is = refl;
          })) accepted turn refl
