-- events that don't reach a node can be left out
use Rattle.law_order.proofs.Vocabulary.{◌≡◌, ◌⊎◌, inl, inr, List, [], ◌∷◌, ◌++◌, ◌&&◌, ◌||◌, Bool, true, false, true≢false, if◌then◌else◌, not, Some, None, Option, refl, sym, ap, ◌∙◌, subst, append_assoc, append-nil, and_parts, slice_get, ℕ}
use Rattle.rh_shell.specs.NearEnds.{is_empty}
use Rattle.rh_shell.specs.Shells.{is_going}
use Rattle.law_moves.proofs.Vocabulary.{Cookie, Leg, NearEnd, new_end, Rooms, Rules, Acts, Shell, begun, cause_of, state_of, end_at, place, free_place, with_leg, Event, ComesUp, Hears, Ends, Breaks, Draws, Ticks, EndEvent, Happens, IsGiven, IsTaken, IsClosed, IsRecycled, after_event, after_events, after_end_event, after_end_events}
use Rattle.law_node_history.proofs.Lemmas.{came_append, same_itself}
use Rattle.law_node_history.proofs.Vocabulary.{AreAccepted, AreAcceptedAtEnd, IsAccepted, IsAcceptedAtEnd, came_up, drawn_at_end, drawn_in, drawn_on, end_drawn_on, happened}
use Rattle.law_node_causes.proofs.LegChanges.{Makes, makes, given_legs, taken_legs, closed_legs, recycled_legs}
use Rattle.law_node_causes.proofs.NodeMoments.{unheard_stays}
use Rattle.law_node_causes.proofs.Places.{IsSet, WasThere, set_cases, seat, seat_cases}
use Rattle.law_node_causes.proofs.Sorts.{end_leg}
use Rattle.law_node_causes.specs.Moments.{hears_bytes, is_heard_at}
use Rattle.law_node_causes.specs.Reasons.{StandsIn}
use Rattle.law_node_streams.specs.Streams.{HearsInTurn, all_given, all_taken, given_by, taken_by}
use Rattle.law_node_order.specs.Reaching.{reaches, reaches_end, reaching, reaching_end}

module _ {S : Type 0} (rules : Rules S) where
  -- ---- an event that doesn't reach the node

  quiet : (s : Shell S) (event : Event) → reaches rules s event ≡ false
      → after_event rules s event ≡ s
  quiet s (ComesUp leg cookie) e = ap (λ b. if b then with_leg rules s leg cookie else s) e
  quiet s (Hears leg piece) e = unheard_stays rules s leg piece e
  quiet s (Ends leg) e = absurd (true≢false e)
  quiet s (Breaks leg) e = absurd (true≢false e)
  quiet s (Draws leg room) e = absurd (true≢false e)
  quiet s (Ticks now) e = absurd (true≢false e)

  undrawn : (s : Shell S) (leg : Leg) (event : Event) → reaches rules s event ≡ false
      → drawn_in rules s leg event ≡ []
  undrawn s leg (Draws other room) e = absurd (true≢false e)
  undrawn s leg event e = refl

  fits : (s : Shell S) (event : Event) → reaches rules s event ≡ true
      → IsAccepted rules s event
  fits s (ComesUp leg cookie) e = e
  fits s event e = tt

  -- ---- all events and those that reach the node

  pub record IsSame (s : Shell S) (all some : List Event) : Type 0 where
    pub after : after_events rules s some ≡ after_events rules s all
    pub drawn : (leg : Leg) → drawn_on rules s leg some ≡ drawn_on rules s leg all
    pub accepted : AreAccepted rules s some

  pub same : (s : Shell S) (events : List Event) → IsSame s events (reaching rules s events)
  same s [] = record { after = refl; drawn = λ leg. refl; accepted = tt }
  same s (event ∷ events) = by (reaches rules s event) refl (same next events)
    where
      next : Shell S
      next = after_event rules s event

      by : (b : Bool) → reaches rules s event ≡ b
          → IsSame next events (reaching rules next events)
          → IsSame s (event ∷ events)
          ((if b then event ∷ [] else []) ++ reaching rules next events)
      by true e rest = record {
        after = rest.after;
        drawn = λ leg. ap (λ x. drawn_in rules s leg event ++ x) (rest.drawn leg);
        accepted = (fits s event e, rest.accepted);
      }
      by false e rest =
          let stays = quiet s event e in
          record {
            after = subst (λ (t : Shell S). after_events rules t (reaching rules next events)
                ≡ after_events rules next events) stays rest.after;
            drawn = λ leg.
                subst (λ (t : Shell S). drawn_on rules t leg (reaching rules next events)
                ≡ drawn_on rules next leg events) stays (rest.drawn leg)
                ∙ ap (λ x. x ++ drawn_on rules next leg events) (sym (undrawn s leg event e));
            accepted = subst (λ (t : Shell S). AreAccepted rules t (reaching rules next events))
                stays rest.accepted;
          }

  -- ---- each leg of which the node keeps an end came up

  abbrev AreUp : List Event → List NearEnd → Type 0
  AreUp seen legs = (end : NearEnd) → StandsIn legs end → came_up end.leg seen ≡ true

  more_up : (leg : Leg) (seen later : List Event) → came_up leg seen ≡ true
      → came_up leg (seen ++ later) ≡ true
  more_up leg seen later e = came_append leg seen later ∙ ap (λ b. b || came_up leg later) e

  one_up : (leg : Leg) (cookie : Cookie) (seen : List Event)
      → came_up leg (seen ++ ComesUp leg cookie ∷ []) ≡ true
  one_up leg cookie seen =
      came_append leg seen (ComesUp leg cookie ∷ [])
      ∙ ap (λ b. came_up leg seen || (b || false)) (same_itself leg) ∙ by (came_up leg seen)
    where
      by : (b : Bool) → (b || true) ≡ true
      by true = refl
      by false = refl

  are_up : (seen : List Event) (s : Shell S) (event : Event) → AreUp seen s.legs
      → AreUp (seen ++ event ∷ []) (after_event rules s event).legs
  are_up seen s event are end there = by (makes rules s event)
    where
      t : Shell S
      t = after_event rules s event

      old : StandsIn s.legs end → came_up end.leg (seen ++ event ∷ []) ≡ true
      old was = more_up end.leg seen (event ∷ []) (are end was)

      by : Makes rules s event t → came_up end.leg (seen ++ event ∷ []) ≡ true
      by (inl stay) = old (subst (λ (ends : List NearEnd). StandsIn ends end) stay.legs there)
      by (inr (inl c)) =
          put (set_cases s.legs (place c.leg s.legs) there.place c.new end
          (subst (λ (ends : List NearEnd). slice_get ends there.place ≡ Some end) c.legs there.at))
        where
          put : IsSet (place c.leg s.legs) there.place c.new end
              ⊎ WasThere s.legs (place c.leg s.legs) there.place end
              → came_up end.leg (seen ++ event ∷ []) ≡ true
          put (inl h) =
              subst (λ (l : Leg). came_up l (seen ++ event ∷ []) ≡ true)
              (sym c.same ∙ ap (λ (e : NearEnd). e.leg) (sym h.is))
              (more_up c.old.leg seen (event ∷ [])
              (are c.old (record { place = place c.leg s.legs; at = c.at })))
          put (inr was) = old (record { place = there.place; at = was.at })
      by (inr (inr c)) =
          let at = free_place rules s.role c.leg.kind s.legs in
          put (seat_cases s.legs at there.place (new_end c.leg (rules.pipe s.role c.leg) s.now) end
          (subst (λ (ends : List NearEnd). slice_get ends there.place ≡ Some end) c.legs there.at))
        where
          put : IsSet (seat s.legs (free_place rules s.role c.leg.kind s.legs)) there.place
              (new_end c.leg (rules.pipe s.role c.leg) s.now) end
              ⊎ WasThere s.legs (seat s.legs (free_place rules s.role c.leg.kind s.legs))
              there.place end
              → came_up end.leg (seen ++ event ∷ []) ≡ true
          put (inl h) =
              subst (λ (l : Leg). came_up l (seen ++ event ∷ []) ≡ true)
              (ap (λ (e : NearEnd). e.leg) (sym h.is))
              (subst (λ (x : Event). came_up c.leg (seen ++ x ∷ []) ≡ true) (sym c.is)
              (one_up c.leg c.cookie seen))
          put (inr was) = old (record { place = there.place; at = was.at })

  -- bytes that reach the node come on such a leg
  heard_up : (seen : List Event) (s : Shell S) (leg : Leg) (piece : List ℕ) → AreUp seen s.legs
      → hears_bytes rules s leg piece ≡ true → came_up leg seen ≡ true
  heard_up seen s leg piece are e =
      let some = and_parts (not (is_empty piece))
      (is_going s.course && is_heard_at rules s.role (end_at s leg)) e in
      by (end_at s leg) refl
      (and_parts (is_going s.course) (is_heard_at rules s.role (end_at s leg)) some.1).1
    where
      by : (o : Option NearEnd) → end_at s leg ≡ o → is_heard_at rules s.role o ≡ true
          → came_up leg seen ≡ true
      by None at h = absurd (true≢false (sym h))
      by (Some end) at h =
          subst (λ (l : Leg). came_up l seen ≡ true) (end_leg leg s.legs end at)
          (are end (record { place = place leg s.legs; at = at }))

  -- ---- so bytes come in turn

  -- behind some events bytes come on legs that came up
  abbrev pub Turns : List Event → List Event → Type 0
  Turns seen events =
      (before behind : List Event) (leg : Leg) (piece : List ℕ)
      → events ≡ before ++ Hears leg piece ∷ behind → came_up leg (seen ++ before) ≡ true

  no_turns : (seen : List Event) → Turns seen []
  no_turns seen [] behind leg piece e = absurd cc
  no_turns seen (x ∷ before) behind leg piece e = absurd cc

  one_turn : (seen : List Event) (s : Shell S) (event : Event) (rest : List Event)
      → AreUp seen s.legs
      → reaches rules s event ≡ true → Turns (seen ++ event ∷ []) rest
      → Turns seen (event ∷ rest)
  one_turn seen s event rest are e turns [] behind leg piece is =
      let here : event ≡ Hears leg piece = cc in
      ap (came_up leg) (append-nil seen)
      ∙ heard_up seen s leg piece are
      (ap (reaches rules s) (sym here) ∙ e)
  one_turn seen s event rest are e turns (x ∷ before) behind leg piece is =
      let here : event ≡ x = cc in
      let later : rest ≡ before ++ Hears leg piece ∷ behind = cc in
      ap (λ (y : Event). came_up leg (seen ++ y ∷ before)) (sym here)
      ∙ ap (came_up leg) (sym (append_assoc seen (event ∷ []) before))
      ∙ turns before behind leg piece later

  at_rest : (seen : List Event) (s : Shell S) (event : Event) → reaches rules s event ≡ false
      → AreUp seen s.legs → AreUp seen (after_event rules s event).legs
  at_rest seen s event e are =
      subst (λ (t : Shell S). AreUp seen t.legs) (sym (quiet s event e)) are

  turns_from : (seen : List Event) (s : Shell S) (events : List Event) → AreUp seen s.legs
      → Turns seen (reaching rules s events)
  turns_from seen s [] are = no_turns seen
  turns_from seen s (event ∷ events) are =
      by (reaches rules s event) refl (turns_from (seen ++ event ∷ []) next events)
      (turns_from seen next events)
    where
      next : Shell S
      next = after_event rules s event

      rest : List Event
      rest = reaching rules next events

      by : (b : Bool) → reaches rules s event ≡ b
          → (AreUp (seen ++ event ∷ []) next.legs → Turns (seen ++ event ∷ []) rest)
          → (AreUp seen next.legs → Turns seen rest)
          → Turns seen ((if b then event ∷ [] else []) ++ rest)
      by true e more same = one_turn seen s event rest are e (more (are_up seen s event are))
      by false e more same = same (at_rest seen s event e are)

  none_up : (role : S) (rooms : Rooms) → AreUp [] (begun role rooms).legs
  none_up role rooms end there = absurd (none there.place there.at)
    where
      none : (i : ℕ) → slice_get [] i ≡ Some end → ⊥
      none i at = absurd cc

  pub in_turn : (role : S) (rooms : Rooms) (events : List Event)
      → HearsInTurn (reaching rules (begun role rooms) events)
  in_turn role rooms events =
      turns_from [] (begun role rooms) events (none_up role rooms)

  -- ---- and at an end

  module _ (acts : Acts S) where
    pub record IsSameAtEnd (s : Shell S) (all some : List EndEvent) : Type 0 where
      pub after : after_end_events rules acts s some ≡ after_end_events rules acts s all
      pub drawn : (leg : Leg)
          → end_drawn_on rules acts s leg some ≡ end_drawn_on rules acts s leg all
      pub given : all_given rules acts s some ≡ all_given rules acts s all
      pub taken : all_taken rules acts s some ≡ all_taken rules acts s all
      pub accepted : AreAcceptedAtEnd rules acts s some

    fits_end : (s : Shell S) (event : EndEvent) → reaches_end rules s event ≡ true
        → IsAcceptedAtEnd rules s event
    fits_end s (Happens event) e = fits s event e
    fits_end s act e = tt

    -- it does nothing, and is no call
    record IsIdle (s : Shell S) (event : EndEvent) : Type 0 where
      stays : after_end_event rules acts s event ≡ s
      drawn : (leg : Leg) → drawn_at_end rules acts s leg event ≡ []
      given : given_by acts s event ≡ []
      taken : taken_by acts s event ≡ []

    idle : (s : Shell S) (event : EndEvent) → reaches_end rules s event ≡ false → IsIdle s event
    idle s (Happens event) e = record {
      stays = quiet s event e;
      drawn = λ leg. undrawn s leg event e;
      given = refl;
      taken = refl;
    }
    idle s (IsGiven pdu) e = absurd (true≢false e)
    idle s IsTaken e = absurd (true≢false e)
    idle s IsClosed e = absurd (true≢false e)
    idle s IsRecycled e = absurd (true≢false e)

    pub same_at_end : (s : Shell S) (events : List EndEvent)
        → IsSameAtEnd s events (reaching_end rules acts s events)
    same_at_end s [] =
        record { after = refl; drawn = λ leg. refl; given = refl; taken = refl; accepted = tt }
    same_at_end s (event ∷ events) =
        by (reaches_end rules s event) refl (same_at_end next events)
      where
        next : Shell S
        next = after_end_event rules acts s event

        some : List EndEvent
        some = reaching_end rules acts next events

        by : (b : Bool) → reaches_end rules s event ≡ b → IsSameAtEnd next events some
            → IsSameAtEnd s (event ∷ events) ((if b then event ∷ [] else []) ++ some)
        by true e rest = record {
          after = rest.after;
          drawn = λ leg. ap (λ x. drawn_at_end rules acts s leg event ++ x) (rest.drawn leg);
          given = ap (λ x. given_by acts s event ++ x) rest.given;
          taken = ap (λ x. taken_by acts s event ++ x) rest.taken;
          accepted = (fits_end s event e, rest.accepted);
        }
        by false e rest =
            let i = idle s event e in
            record {
              after = subst (λ (t : Shell S). after_end_events rules acts t some
                  ≡ after_end_events rules acts next events) i.stays rest.after;
              drawn = λ leg.
                  subst (λ (t : Shell S). end_drawn_on rules acts t leg some
                  ≡ end_drawn_on rules acts next leg events) i.stays (rest.drawn leg)
                  ∙ ap (λ x. x ++ end_drawn_on rules acts next leg events) (sym (i.drawn leg));
              given = subst (λ (t : Shell S). all_given rules acts t some
                  ≡ all_given rules acts next events) i.stays rest.given
                  ∙ ap (λ x. x ++ all_given rules acts next events) (sym i.given);
              taken = subst (λ (t : Shell S). all_taken rules acts t some
                  ≡ all_taken rules acts next events) i.stays rest.taken
                  ∙ ap (λ x. x ++ all_taken rules acts next events) (sym i.taken);
              accepted = subst (λ (t : Shell S). AreAcceptedAtEnd rules acts t some) i.stays
                  rest.accepted;
            }

    end_turns : (seen : List Event) (s : Shell S) (events : List EndEvent) → AreUp seen s.legs
        → Turns seen (happened (reaching_end rules acts s events))
    end_turns seen s [] are = no_turns seen
    end_turns seen s (Happens event ∷ events) are =
        by (reaches rules s event) refl (end_turns (seen ++ event ∷ []) next events)
        (end_turns seen next events)
      where
        next : Shell S
        next = after_event rules s event

        rest : List EndEvent
        rest = reaching_end rules acts next events

        by : (b : Bool) → reaches rules s event ≡ b
            → (AreUp (seen ++ event ∷ []) next.legs → Turns (seen ++ event ∷ []) (happened rest))
            → (AreUp seen next.legs → Turns seen (happened rest))
            → Turns seen (happened ((if b then Happens event ∷ [] else []) ++ rest))
        by true e more same =
            one_turn seen s event (happened rest) are e (more (are_up seen s event are))
        by false e more same = same (at_rest seen s event e are)
    end_turns seen s (IsGiven pdu ∷ events) are =
        end_turns seen (after_end_event rules acts s (IsGiven pdu)) events
        (subst (AreUp seen) (sym (given_legs rules s acts pdu (cause_of s.course))) are)
    end_turns seen s (IsTaken ∷ events) are =
        end_turns seen (after_end_event rules acts s IsTaken) events
        (subst (AreUp seen) (sym (taken_legs rules s acts (cause_of s.course))) are)
    end_turns seen s (IsClosed ∷ events) are =
        end_turns seen (after_end_event rules acts s IsClosed) events
        (subst (AreUp seen) (sym (closed_legs rules s acts (cause_of s.course))) are)
    end_turns seen s (IsRecycled ∷ events) are =
        end_turns seen (after_end_event rules acts s IsRecycled) events
        (subst (AreUp seen) (sym (recycled_legs rules s acts (state_of rules s))) are)

    pub in_turn_at_end : (role : S) (rooms : Rooms) (events : List EndEvent)
        → HearsInTurn (happened (reaching_end rules acts (begun role rooms) events))
    in_turn_at_end role rooms events =
        end_turns [] (begun role rooms) events (none_up role rooms)
