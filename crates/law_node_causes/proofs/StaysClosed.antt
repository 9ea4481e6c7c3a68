-- a node that closed stays so, with its cause
use Rattle.law_order.proofs.Vocabulary.{◌≡◌, ℕ, List, [], ◌∷◌, take, drop, cond, Bool, true, false, Some, None, refl, sym, subst, ◌&&◌, nat_le, Option}
use Rattle.rh_line.specs.declared.state.State.TheVariants as state
use Rattle.rh_company.specs.Telling.{tell, happens}
use Rattle.rh_company.specs.declared.event.Event as told
use Rattle.rh_company.specs.declared.event.Event.TheVariants as happened
use Rattle.law_moves.proofs.Vocabulary.{Cookie, Cause, Leg, State, Course, Going, Closed, Refusing, cause_of, give_where, take_where, close_where, recycle_where, Rules, Acts, Shell, same_leg, has_room, may_up, with_leg, up, bytes_by, ended_by, broken_by, drawn_by, is_working, state_of, passed, ClosedWith, Event, ComesUp, Hears, Ends, Breaks, Draws, Ticks, after_event, after_events, EndEvent, Happens, IsGiven, IsTaken, IsClosed, IsRecycled, after_end_event, after_end_events}
use Rattle.law_moves.proofs.Lemmas.{both}
use Rattle.law_node_causes.proofs.Refusing.{not_working}
use Rattle.law_node_causes.proofs.ClosedBy.{told_is}

module _ {S : Type 0} (rules : Rules S) (why : Cause) where
  abbrev IsClosedNode : Shell S → Type 0
  IsClosedNode s = ClosedWith why s.course

  module _ (s : Shell S) (h : ClosedWith why s.course) where
    -- it does not go on
    never : {A : Type 0} → s.course ≡ Going → A
    never is = absurd (subst (ClosedWith why) is h)

    comes_up : (leg : Leg) (cookie : Cookie) → IsClosedNode (up rules s leg cookie)
    comes_up leg cookie = by (may_up rules s leg) refl
      where
        by : (t : Bool) → may_up rules s leg ≡ t
            → IsClosedNode (cond t (with_leg rules s leg cookie) s)
        by false e = h
        by true e =
            never (not_working s.course (rules.phase s.role)
            (both (is_working rules s) (has_room rules s leg.kind && rules.may_up s.role leg) e).0)

    hears : (leg : Leg) (piece : List ℕ) → IsClosedNode (bytes_by rules s leg piece s.course)
    hears leg piece = by s.course refl
      where
        by : (c : Course) → s.course ≡ c → IsClosedNode (bytes_by rules s leg piece c)
        by Going is = never is
        by (Closed first) is = h
        by (Refusing first client rest) is = h

    ends : (leg : Leg) → IsClosedNode (ended_by rules s leg s.course)
    ends leg = by s.course refl
      where
        by : (c : Course) → s.course ≡ c → IsClosedNode (ended_by rules s leg c)
        by Going is = never is
        by (Closed first) is = h
        by (Refusing first client rest) is = h

    breaks : (leg : Leg) → IsClosedNode (broken_by rules s leg s.course)
    breaks leg = by s.course refl
      where
        by : (c : Course) → s.course ≡ c → IsClosedNode (broken_by rules s leg c)
        by Going is = never is
        by (Closed first) is = h
        by (Refusing first client rest) is = h

    draws : (leg : Leg) (n : ℕ) → IsClosedNode (drawn_by rules s leg n s.course).0
    draws leg n = by s.course refl
      where
        rest_drawn : (first : Cause) (client : Leg) (rest : List ℕ) → first ≡ why → (t : Bool)
            → IsClosedNode (cond {A = Shell S × List ℕ} t
            (record s { course = Refusing first client (drop n rest) }, take n rest) (s, [])).0
        rest_drawn first client rest same true = same
        rest_drawn first client rest same false = h

        by : (c : Course) → s.course ≡ c → IsClosedNode (drawn_by rules s leg n c).0
        by Going is = never is
        by (Closed first) is = h
        by (Refusing first client rest) is =
            rest_drawn first client rest (subst (ClosedWith why) is h) (same_leg client leg)

    ticks : (now : ℕ) → IsClosedNode (after_event rules s (Ticks now))
    ticks now = by (is_working rules s && nat_le s.now now) refl
      where
        by : (t : Bool) → (is_working rules s && nat_le s.now now) ≡ t
            → IsClosedNode (cond t (passed rules (record s { now = now })) s)
        by false e = h
        by true e =
            never (not_working s.course (rules.phase s.role)
            (both (is_working rules s) (nat_le s.now now) e).0)

    event_keeps : (event : Event) → IsClosedNode (after_event rules s event)
    event_keeps (ComesUp leg cookie) = comes_up leg cookie
    event_keeps (Hears leg piece) = hears leg piece
    event_keeps (Ends leg) = ends leg
    event_keeps (Breaks leg) = breaks leg
    event_keeps (Draws leg n) = draws leg n
    event_keeps (Ticks now) = ticks now

    -- and it is told nothing that closes it
    pub tells_none : (event : told.Event) → (tell rules s event).1 ≡ None
    tells_none event = by (tell rules s event).1 refl
      where
        going : (event : told.Event) (first : Cause) → (tell rules s event).1 ≡ Some first
            → s.course ≡ Going
        going (happened.Comes leg piece) first e =
            (told_is rules s first (happens rules s (happened.Comes leg piece)).0 e).0
        going (happened.Ends leg) first e =
            (told_is rules s first (happens rules s (happened.Ends leg)).0 e).0
        going (happened.Breaks leg) first e =
            (told_is rules s first (happens rules s (happened.Breaks leg)).0 e).0
        going (happened.Passes now) first e =
            (told_is rules s first (happens rules s (happened.Passes now)).0 e).0

        by : (o : Option Cause) → (tell rules s event).1 ≡ o → o ≡ None
        by None e = refl
        by (Some first) e = never (going event first e)

  pub run_keeps : (s : Shell S) (events : List Event) → ClosedWith why s.course
      → ClosedWith why (after_events rules s events).course
  run_keeps s [] h = h
  run_keeps s (event ∷ events) h =
      run_keeps (after_event rules s event) events (event_keeps s h event)

  -- ---- the calls of an end

  module _ (acts : Acts S) where
    given : (s : Shell S) (pdu : List ℕ) (o : Option Cause)
        → (give_where acts s pdu o).0.course ≡ s.course
    given s pdu None = refl
    given s pdu (Some first) = refl

    took : (s : Shell S) (o : Option Cause) → (take_where acts s o).course ≡ s.course
    took s None = refl
    took s (Some first) = refl

    shut : (s : Shell S) (o : Option Cause) → (close_where acts s o).course ≡ s.course
    shut s None = refl
    shut s (Some first) = refl

    recycled : (s : Shell S) (st : State) → (recycle_where acts s st).0.course ≡ s.course
    recycled s state.Open = refl
    recycled s state.Opening = refl
    recycled s state.Ended = refl
    recycled s (state.Closed first) = refl

    end_keeps : (s : Shell S) (event : EndEvent) → ClosedWith why s.course
        → ClosedWith why (after_end_event rules acts s event).course
    end_keeps s (Happens event) h = event_keeps s h event
    end_keeps s (IsGiven pdu) h =
        subst (ClosedWith why) (sym (given s pdu (cause_of s.course))) h
    end_keeps s IsTaken h = subst (ClosedWith why) (sym (took s (cause_of s.course))) h
    end_keeps s IsClosed h = subst (ClosedWith why) (sym (shut s (cause_of s.course))) h
    end_keeps s IsRecycled h = subst (ClosedWith why) (sym (recycled s (state_of rules s))) h

    pub run_keeps_at_end : (s : Shell S) (events : List EndEvent) → ClosedWith why s.course
        → ClosedWith why (after_end_events rules acts s events).course
    run_keeps_at_end s [] h = h
    run_keeps_at_end s (event ∷ events) h =
        run_keeps_at_end (after_end_event rules acts s event) events (end_keeps s event h)

-- an event that closes a node leaves it closed with that cause
pub closes_with : {S : Type 0} (rules : Rules S) (s : Shell S) (event : told.Event) (why : Cause)
    → (tell rules s event).1 ≡ Some why → ClosedWith why (tell rules s event).0.course
closes_with rules s (happened.Comes leg piece) why e =
    (told_is rules s why (happens rules s (happened.Comes leg piece)).0 e).1
closes_with rules s (happened.Ends leg) why e =
    (told_is rules s why (happens rules s (happened.Ends leg)).0 e).1
closes_with rules s (happened.Breaks leg) why e =
    (told_is rules s why (happens rules s (happened.Breaks leg)).0 e).1
closes_with rules s (happened.Passes now) why e =
    (told_is rules s why (happens rules s (happened.Passes now)).0 e).1
