-- how a role shows that each leg comes up once at a node
use Rattle.law_order.proofs.Vocabulary.{◌≡◌, List, [], ◌∷◌, ◌++◌, true, false, ◌&&◌, refl, sym, ap, ◌∙◌, subst, ⊎_elim, true≢false, or_cases, and_parts, and_from}
use Rattle.law_moves.proofs.Vocabulary.{Cookie, Leg, Rules, Acts, Shell, has_room, is_working, may_up, wants, EndEvent, Happens, IsGiven, IsTaken, IsClosed, IsRecycled, after_event, after_events, after_end_event, after_end_events}
use Rattle.law_moves.specs.Moving as moving
use Rattle.law_node_history.proofs.Ledgers.{and_false}
use Rattle.law_node_history.proofs.Runs.{events_append, end_events_append}
use Rattle.law_node_history.proofs.Wired.{cases_leg}
use Rattle.law_node_history.proofs.Vocabulary.{is_up_of, came_up, happened, IsAccepted, AreAccepted, IsAcceptedAtEnd, AreAcceptedAtEnd, ComesUpOnce, ComesUpOnceAtEnd, RemembersLegs, RemembersLegsAtEnd}

-- what holds of a node, and what of a leg that came up there
record KeepsLegs {S : Type 0} (rules : Rules S) (Holds : Shell S → Type 0)
    (WasUp : Shell S → Leg → Type 0) : Type 0 where
  holds : (s : Shell S) (event : moving.Event) → Holds s → IsAccepted rules s event
      → Holds (after_event rules s event)
  stays : (s : Shell S) (event : moving.Event) (leg : Leg) → Holds s
      → IsAccepted rules s event → WasUp s leg → WasUp (after_event rules s event) leg
  up : (s : Shell S) (leg : Leg) (cookie : Cookie) → Holds s → may_up rules s leg ≡ true
      → WasUp (after_event rules s (moving.ComesUp leg cookie)) leg
  once : (s : Shell S) (leg : Leg) → Holds s → WasUp s leg → may_up rules s leg ≡ false
  wanted : (s : Shell S) (leg : Leg) → Holds s → wants rules s leg ≡ true
      → may_up rules s leg ≡ true

-- the acts of an end keep it
record ActsKeepLegs {S : Type 0} (rules : Rules S) (acts : Acts S)
    (Holds : Shell S → Type 0) (WasUp : Shell S → Leg → Type 0) : Type 0 where
  holds : (s : Shell S) (event : EndEvent) → Holds s → IsAcceptedAtEnd rules s event
      → Holds (after_end_event rules acts s event)
  stays : (s : Shell S) (event : EndEvent) (leg : Leg) → Holds s
      → IsAcceptedAtEnd rules s event → WasUp s leg
      → WasUp (after_end_event rules acts s event) leg

module _ {S : Type 0} (rules : Rules S) (Holds : Shell S → Type 0)
    (WasUp : Shell S → Leg → Type 0) (k : KeepsLegs rules Holds WasUp) where
  -- the leg that an event brought up
  brought : (s : Shell S) (event : moving.Event) (leg : Leg) → Holds s
      → IsAccepted rules s event → is_up_of leg event ≡ true
      → WasUp (after_event rules s event) leg
  brought s (moving.ComesUp other cookie) leg h a e =
      ⊎_elim (λ same. subst (λ (x : Leg).
      WasUp (after_event rules s (moving.ComesUp other cookie)) x) same (k.up s other cookie h a))
      (λ apart. absurd (true≢false (sym e ∙ apart))) (cases_leg other leg)
  brought s (moving.Hears other piece) leg h a e = absurd (true≢false (sym e))
  brought s (moving.Ends other) leg h a e = absurd (true≢false (sym e))
  brought s (moving.Breaks other) leg h a e = absurd (true≢false (sym e))
  brought s (moving.Draws other room) leg h a e = absurd (true≢false (sym e))
  brought s (moving.Ticks now) leg h a e = absurd (true≢false (sym e))

  holds_all : (s : Shell S) (events : List moving.Event) → Holds s → AreAccepted rules s events
      → Holds (after_events rules s events)
  holds_all s [] h a = h
  holds_all s (event ∷ events) h a =
      holds_all (after_event rules s event) events (k.holds s event h a.0) a.1

  stays_all : (s : Shell S) (events : List moving.Event) (leg : Leg) → Holds s
      → AreAccepted rules s events → WasUp s leg → WasUp (after_events rules s events) leg
  stays_all s [] leg h a up = up
  stays_all s (event ∷ events) leg h a up =
      stays_all (after_event rules s event) events leg (k.holds s event h a.0) a.1
      (k.stays s event leg h a.0 up)

  came_was : (s : Shell S) (events : List moving.Event) (leg : Leg) → Holds s
      → AreAccepted rules s events → came_up leg events ≡ true
      → WasUp (after_events rules s events) leg
  came_was s [] leg h a e = absurd (true≢false (sym e))
  came_was s (event ∷ events) leg h a e =
      ⊎_elim (λ here. stays_all (after_event rules s event) events leg (k.holds s event h a.0) a.1
      (brought s event leg h a.0 here))
      (λ later. came_was (after_event rules s event) events leg (k.holds s event h a.0) a.1 later)
      (or_cases (is_up_of leg event) (came_up leg events) e)

  comes_up_once : (first : Shell S) → Holds first → ComesUpOnce rules first
  comes_up_once first h = record {
    wanted = λ events leg a e.
        k.wanted (after_events rules first events) leg (holds_all first events h a) e;
    once = λ events leg a e.
        k.once (after_events rules first events) leg (holds_all first events h a)
        (came_was first events leg h a e);
  }

  module _ (acts : Acts S) (j : ActsKeepLegs rules acts Holds WasUp) where
    end_holds_all : (s : Shell S) (events : List EndEvent) → Holds s
        → AreAcceptedAtEnd rules acts s events → Holds (after_end_events rules acts s events)
    end_holds_all s [] h a = h
    end_holds_all s (event ∷ events) h a =
        end_holds_all (after_end_event rules acts s event) events (j.holds s event h a.0) a.1

    end_stays_all : (s : Shell S) (events : List EndEvent) (leg : Leg) → Holds s
        → AreAcceptedAtEnd rules acts s events → WasUp s leg
        → WasUp (after_end_events rules acts s events) leg
    end_stays_all s [] leg h a up = up
    end_stays_all s (event ∷ events) leg h a up =
        end_stays_all (after_end_event rules acts s event) events leg (j.holds s event h a.0) a.1
        (j.stays s event leg h a.0 up)

    end_came_was : (s : Shell S) (events : List EndEvent) (leg : Leg) → Holds s
        → AreAcceptedAtEnd rules acts s events → came_up leg (happened events) ≡ true
        → WasUp (after_end_events rules acts s events) leg
    end_came_was s [] leg h a e = absurd (true≢false (sym e))
    end_came_was s (Happens event ∷ events) leg h a e =
        let t = after_end_event rules acts s (Happens event) in
        let next = j.holds s (Happens event) h a.0 in
        ⊎_elim (λ here. end_stays_all t events leg next a.1 (brought s event leg h a.0 here))
        (λ later. end_came_was t events leg next a.1 later)
        (or_cases (is_up_of leg event) (came_up leg (happened events)) e)
    end_came_was s (IsGiven pdu ∷ events) leg h a e =
        end_came_was (after_end_event rules acts s (IsGiven pdu)) events leg
        (j.holds s (IsGiven pdu) h a.0) a.1 e
    end_came_was s (IsTaken ∷ events) leg h a e =
        end_came_was (after_end_event rules acts s IsTaken) events leg (j.holds s IsTaken h a.0)
        a.1 e
    end_came_was s (IsClosed ∷ events) leg h a e =
        end_came_was (after_end_event rules acts s IsClosed) events leg (j.holds s IsClosed h a.0)
        a.1 e
    end_came_was s (IsRecycled ∷ events) leg h a e =
        end_came_was (after_end_event rules acts s IsRecycled) events leg
        (j.holds s IsRecycled h a.0) a.1 e

    comes_up_once_at_end : (first : Shell S) → Holds first
        → ComesUpOnceAtEnd rules acts first
    comes_up_once_at_end first h = record {
      wanted = λ events leg a e.
          k.wanted (after_end_events rules acts first events) leg (end_holds_all first events h a)
          e;
      once = λ events leg a e.
          k.once (after_end_events rules acts first events) leg (end_holds_all first events h a)
          (end_came_was first events leg h a e);
    }

-- ---- a role that knows the legs that were up

module _ {S : Type 0} (rules : Rules S) where
  abbrev Was : Shell S → Leg → Type 0
  Was s leg = rules.was_up s.role leg ≡ true

  not_again : (s : Shell S) (leg : Leg) → rules.may_up s.role leg ≡ false
      → may_up rules s leg ≡ false
  not_again s leg e =
      and_false (is_working rules s) (has_room rules s leg.kind && rules.may_up s.role leg)
      (and_false (has_room rules s leg.kind) (rules.may_up s.role leg) e)

  wanted_may : (s : Shell S) (leg : Leg)
      → (rules.wants s.role leg ≡ true → rules.may_up s.role leg ≡ true)
      → wants rules s leg ≡ true → may_up rules s leg ≡ true
  wanted_may s leg may e =
      let a = and_parts (is_working rules s) (has_room rules s leg.kind && rules.wants s.role leg)
      e in
      let b = and_parts (has_room rules s leg.kind) (rules.wants s.role leg) a.1 in
      and_from (is_working rules s) (has_room rules s leg.kind && rules.may_up s.role leg) a.0
      (and_from (has_room rules s leg.kind) (rules.may_up s.role leg) b.0 (may b.1))

  -- the nodes that are reached from the first
  abbrev Reached : Shell S → Shell S → Type 0
  Reached first s = (events : List moving.Event) × (after_events rules first events ≡ s)

  pub once_remembered : (first : Shell S) → RemembersLegs rules first
      → ComesUpOnce rules first
  once_remembered first k = comes_up_once rules (Reached first) Was (record {
    holds = λ s event h a. (
      h.0 ++ event ∷ [],
      events_append rules first h.0 (event ∷ []) ∙ ap (λ (x : Shell S). after_event rules x event)
          h.1,
    );
    stays = λ s event leg h a. subst (λ (x : Shell S). Was x leg
        → Was (after_event rules x event) leg) h.1 (k.stays h.0 (event ∷ []) leg);
    up = λ s leg cookie h. subst (λ (x : Shell S). may_up rules x leg ≡ true
        → Was (after_event rules x (moving.ComesUp leg cookie)) leg) h.1 (k.comes h.0 leg cookie);
    once = λ s leg h up. not_again s leg (subst (λ (x : Shell S). Was x leg
        → rules.may_up x.role leg ≡ false) h.1 (k.once h.0 leg) up);
    wanted = λ s leg h. wanted_may s leg (k.wanted s.role leg);
  }) first ([], refl)

  abbrev ReachedAtEnd : Acts S → Shell S → Shell S → Type 0
  ReachedAtEnd acts first s =
      (events : List EndEvent) × (after_end_events rules acts first events ≡ s)

  module _ (acts : Acts S) (first : Shell S) (k : RemembersLegsAtEnd rules acts first) where
    acts_keep : ActsKeepLegs rules acts (ReachedAtEnd acts first) Was
    acts_keep = record {
      holds = λ s event h a. (
        h.0 ++ event ∷ [],
        end_events_append rules acts first h.0 (event ∷ [])
            ∙ ap (λ (x : Shell S). after_end_event rules acts x event) h.1,
      );
      stays = λ s event leg h a. subst (λ (x : Shell S). Was x leg
          → Was (after_end_event rules acts x event) leg) h.1 (k.stays h.0 (event ∷ []) leg);
    }

    pub once_remembered_at_end : ComesUpOnceAtEnd rules acts first
    once_remembered_at_end = comes_up_once_at_end rules (ReachedAtEnd acts first) Was (record {
      holds = λ s event h a. acts_keep.holds s (Happens event) h a;
      stays = λ s event leg h a. acts_keep.stays s (Happens event) leg h a;
      up = λ s leg cookie h. subst (λ (x : Shell S). may_up rules x leg ≡ true
          → Was (after_event rules x (moving.ComesUp leg cookie)) leg) h.1
          (k.comes h.0 leg cookie);
      once = λ s leg h up. not_again s leg (subst (λ (x : Shell S). Was x leg
          → rules.may_up x.role leg ≡ false) h.1 (k.once h.0 leg) up);
      wanted = λ s leg h. wanted_may s leg (k.wanted s.role leg);
    }) acts acts_keep first ([], refl)
