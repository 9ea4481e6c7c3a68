-- a leg that came up is known; of one that did not nothing is kept
use Rattle.law_order.proofs.Vocabulary.{◌≡◌, inl, inr, ℕ, zero, suc, List, [], ◌∷◌, ◌++◌, length, cond, Bool, true, false, ◌||◌, nat_lt, Some, None, refl, sym, ap, ◌∙◌, subst, slice_set}
use Rattle.law_moves.proofs.Vocabulary.{neither, Leg, Rooms, cause_of, NearEnd, new_end, Acts, Rules, Shell, begun, free_place, same_leg, seated_at, state_of, AreHeld, EndEvent, Event, ComesUp, Hears, Ends, Breaks, Draws, Ticks, Happens, IsClosed, IsGiven, IsRecycled, IsTaken, after_end_event, after_end_events, after_event, after_events}
use Rattle.law_moves.proofs.Lemmas.{leg_is}
use Rattle.law_node_history.proofs.Vocabulary.{AreAccepted, AreAcceptedAtEnd, IsAccepted, IsAcceptedAtEnd, came_up, happened, is_up_of}
use Rattle.law_node_causes.proofs.LegChanges.{Changes, Comes, Makes, closed_legs, given_legs, makes, recycled_legs, taken_legs}
use Rattle.law_node_causes.proofs.OnceUp.{AllFollow, AllFollowAtEnd, comes_up, first_held, first_once, run_once, run_once_at_end}
use Rattle.law_node_causes.specs.Once.{AreUpOnce, ComesUpOnce, KeepsUp}
use Rattle.law_node_streams.proofs.Streams.Ends.{end_is, end_of, set_beside, none_in}
use Rattle.law_node_streams.proofs.Streams.Ways.{or_false as or_none}
use Rattle.law_world_ways.specs.ExactWays.Keeping.{KnowsLeg}

-- ---- an end of another leg is put

set_none : (leg : Leg) (ends : List NearEnd) (i : ℕ) (new : NearEnd)
    → same_leg new.leg leg ≡ false → end_of leg ends ≡ None
    → end_of leg (slice_set ends i new) ≡ None
set_none leg [] i new other none = none
set_none leg (x ∷ xs) zero new other none =
    ap (λ t. cond t (Some new) (end_of leg xs)) other ∙ (none_in leg x xs none).1
set_none leg (x ∷ xs) (suc i) new other none =
    let two = none_in leg x xs none in
    ap (λ t. cond t (Some x) (end_of leg (slice_set xs i new))) two.0
    ∙ set_none leg xs i new other two.1

push_none : (leg : Leg) (ends : List NearEnd) (new : NearEnd)
    → same_leg new.leg leg ≡ false → end_of leg ends ≡ None
    → end_of leg (ends ++ new ∷ []) ≡ None
push_none leg [] new other none = ap (λ t. cond t (Some new) None) other
push_none leg (x ∷ xs) new other none =
    let two = none_in leg x xs none in
    ap (λ t. cond t (Some x) (end_of leg (xs ++ new ∷ []))) two.0
    ∙ push_none leg xs new other two.1

seat_none : (leg : Leg) (ends : List NearEnd) (i : ℕ) (new : NearEnd)
    → same_leg new.leg leg ≡ false → end_of leg ends ≡ None
    → end_of leg (seated_at ends i new) ≡ None
seat_none leg ends i new other none = by (nat_lt i (length ends))
  where
    by : (t : Bool) → end_of leg (cond t (slice_set ends i new) (ends ++ new ∷ [])) ≡ None
    by true = set_none leg ends i new other none
    by false = push_none leg ends new other none

pub or_more : (a b c : Bool) → ((a || b) || c) ≡ (a || (b || c))
or_more true b c = refl
or_more false b c = refl

pub or_left : (a b : Bool) → b ≡ false → (a || b) ≡ true → a ≡ true
or_left true b e f = refl
or_left false true e f = absurd cc
or_left false false e f = absurd cc

module _ {S : Type 0} (rules : Rules S) (Holds : S → Type 0) (once : ComesUpOnce rules Holds)
    (leg : Leg) (follow : AllFollow rules) where
  record Came (s : Shell S) (up : Bool) : Type 0 where
    held : AreHeld s
    are : AreUpOnce rules Holds s
    was : up ≡ true → rules.was_up s.role leg ≡ true
    none : up ≡ false → end_of leg s.legs ≡ None

  module _ (s : Shell S) (up : Bool) (came : Came s up) where
    was_new : (event : Event) → IsAccepted rules s event → is_up_of leg event ≡ true
        → rules.was_up (after_event rules s event).role leg ≡ true
    was_new (ComesUp k cookie) ok this =
        subst (λ (l : Leg). rules.was_up (after_event rules s (ComesUp k cookie)).role l
        ≡ true) (leg_is k leg this)
        (comes_up rules Holds once s k cookie came.are.holds ok)
    was_new (Hears k piece) ok this = absurd cc
    was_new (Ends k) ok this = absurd cc
    was_new (Breaks k) ok this = absurd cc
    was_new (Draws k room) ok this = absurd cc
    was_new (Ticks now) ok this = absurd cc

    was_then : (event : Event) → IsAccepted rules s event → (up || is_up_of leg event) ≡ true
        → rules.was_up (after_event rules s event).role leg ≡ true
    was_then event ok e = by (is_up_of leg event) refl
      where
        by : (b : Bool) → is_up_of leg event ≡ b
            → rules.was_up (after_event rules s event).role leg ≡ true
        by true this = was_new event ok this
        by false this =
            (run_once rules Holds once follow s (event ∷ []) came.held came.are).up leg
            (came.was (or_left up (is_up_of leg event) this e))

    changed_none : (event : Event) (c : Changes rules s event (after_event rules s event))
        → end_of leg s.legs ≡ None → end_of leg (after_event rules s event).legs ≡ None
    changed_none event c none = by (same_leg c.leg leg) refl
      where
        at : end_of c.leg s.legs ≡ Some c.old
        at = sym (end_is c.leg s.legs) ∙ c.at

        by : (t : Bool) → same_leg c.leg leg ≡ t
            → end_of leg (after_event rules s event).legs ≡ None
        by true e =
            absurd (let bad : Some c.old ≡ None =
            sym at ∙ ap (λ (l : Leg). end_of l s.legs) (leg_is c.leg leg e) ∙ none in cc)
        by false e =
            ap (end_of leg) c.legs
            ∙ set_beside c.leg leg s.legs c.old c.new at c.same e ∙ none

    come_none : (event : Event) (c : Comes rules s event (after_event rules s event))
        → is_up_of leg event ≡ false → end_of leg s.legs ≡ None
        → end_of leg (after_event rules s event).legs ≡ None
    come_none event c other none =
        ap (end_of leg) c.legs
        ∙ seat_none leg s.legs (free_place rules s.role c.leg.kind s.legs)
        (new_end c.leg (rules.pipe s.role c.leg) s.now)
        (ap (is_up_of leg) (sym c.is) ∙ other) none

    none_then : (event : Event) → (up || is_up_of leg event) ≡ false
        → end_of leg (after_event rules s event).legs ≡ None
    none_then event e =
        let two = neither up (is_up_of leg event) e in
        by two.1 (came.none two.0) (makes rules s event)
      where
        by : is_up_of leg event ≡ false → end_of leg s.legs ≡ None
            → Makes rules s event (after_event rules s event)
            → end_of leg (after_event rules s event).legs ≡ None
        by other none (inl stay) = ap (end_of leg) stay.legs ∙ none
        by other none (inr (inl c)) = changed_none event c none
        by other none (inr (inr c)) = come_none event c other none

    came_after : (event : Event) → IsAccepted rules s event
        → Came (after_event rules s event) (up || is_up_of leg event)
    came_after event ok =
        let g = run_once rules Holds once follow s (event ∷ []) came.held came.are in
        record { held = g.held; are = g.are; was = was_then event ok; none = none_then event }

  came_first : (first : S) (rooms : Rooms) → Holds first → Came (begun first rooms) false
  came_first first rooms holds = record {
    held = first_held rules Holds once first rooms;
    are = first_once rules Holds once first rooms holds;
    was = λ e. absurd cc;
    none = λ e. refl;
  }

  knows : (s : Shell S) (up : Bool) → Came s up → KnowsLeg rules s leg up
  knows s up came = record {
    known = came.was;
    absent = λ e. end_is leg s.legs ∙ came.none e;
  }

  came_all : (s : Shell S) (events : List Event) (up : Bool) → Came s up
      → AreAccepted rules s events → Came (after_events rules s events) (up || came_up leg events)
  came_all s [] up came ok = subst (Came s) (sym (or_none up)) came
  came_all s (event ∷ events) up came ok =
      subst (Came (after_events rules s (event ∷ events)))
      (or_more up (is_up_of leg event) (came_up leg events))
      (came_all (after_event rules s event) events (up || is_up_of leg event)
      (came_after s up came event ok.0) ok.1)

  pub node_knows : (first : S) (rooms : Rooms) → Holds first → (events : List Event)
      → AreAccepted rules (begun first rooms) events
      → KnowsLeg rules (after_events rules (begun first rooms) events) leg (came_up leg events)
  node_knows first rooms holds events ok =
      knows (after_events rules (begun first rooms) events) (came_up leg events)
      (came_all (begun first rooms) events false (came_first first rooms holds) ok)

  -- ---- an end

  module _ (acts : Acts S) (follow_end : AllFollowAtEnd rules acts)
      (calls : KeepsUp rules acts Holds) where
    acted : (s : Shell S) (event : EndEvent) (up : Bool) → Came s up
        → (let t = after_end_event rules acts s event in
        t.legs ≡ s.legs → Came t (up || false))
    acted s event up came legs =
        let g = run_once_at_end rules Holds once follow acts calls follow_end s (event ∷ [])
        came.held came.are in
        subst (Came (after_end_event rules acts s event)) (sym (or_none up)) (record {
          held = g.held;
          are = g.are;
          was = λ e. g.up leg (came.was e);
          none = λ e. ap (end_of leg) legs ∙ came.none e;
        })

    abbrev rose : EndEvent → Bool
    rose event = came_up leg (happened (event ∷ []))

    came_then : (s : Shell S) (event : EndEvent) (up : Bool) → Came s up
        → IsAcceptedAtEnd rules s event
        → Came (after_end_event rules acts s event) (up || rose event)
    came_then s (Happens event) up came ok =
        subst (λ b. Came (after_event rules s event) (up || b))
        (sym (or_none (is_up_of leg event))) (came_after s up came event ok)
    came_then s (IsGiven pdu) up came ok =
        acted s (IsGiven pdu) up came (given_legs rules s acts pdu (cause_of s.course))
    came_then s IsTaken up came ok =
        acted s IsTaken up came (taken_legs rules s acts (cause_of s.course))
    came_then s IsClosed up came ok =
        acted s IsClosed up came (closed_legs rules s acts (cause_of s.course))
    came_then s IsRecycled up came ok =
        acted s IsRecycled up came (recycled_legs rules s acts (state_of rules s))

    rose_first : (event : EndEvent) (events : List EndEvent)
        → came_up leg (happened (event ∷ events)) ≡ (rose event || came_up leg (happened events))
    rose_first (Happens event) events =
        ap (λ b. b || came_up leg (happened events)) (sym (or_none (is_up_of leg event)))
    rose_first (IsGiven pdu) events = refl
    rose_first IsTaken events = refl
    rose_first IsClosed events = refl
    rose_first IsRecycled events = refl

    came_all_at_end : (s : Shell S) (events : List EndEvent) (up : Bool) → Came s up
        → AreAcceptedAtEnd rules acts s events
        → Came (after_end_events rules acts s events) (up || came_up leg (happened events))
    came_all_at_end s [] up came ok = subst (Came s) (sym (or_none up)) came
    came_all_at_end s (event ∷ events) up came ok =
        subst (Came (after_end_events rules acts s (event ∷ events)))
        (or_more up (rose event) (came_up leg (happened events))
        ∙ ap (λ b. up || b) (sym (rose_first event events)))
        (came_all_at_end (after_end_event rules acts s event) events (up || rose event)
        (came_then s event up came ok.0) ok.1)

    pub end_knows : (first : S) (rooms : Rooms) → Holds first → (events : List EndEvent)
        → AreAcceptedAtEnd rules acts (begun first rooms) events
        → KnowsLeg rules (after_end_events rules acts (begun first rooms) events) leg
        (came_up leg (happened events))
    end_knows first rooms holds events ok =
        knows (after_end_events rules acts (begun first rooms) events)
        (came_up leg (happened events))
        (came_all_at_end (begun first rooms) events false (came_first first rooms holds) ok)
