-- a leg comes up once at a node
use Rattle.law_order.proofs.Vocabulary.{◌≡◌, ◌⊎◌, inl, inr, ℕ, List, [], ◌∷◌, true, Some, None, refl, sym, ap, ◌∙◌, subst, ◌&&◌, slice_get, Option, All-nil}
use Rattle.rh_shell.specs.declared.answers.Phase.TheVariants as phase
use Rattle.law_moves.proofs.Vocabulary.{Cookie, Leg, Rooms, cause_of, NearEnd, new_end, Rules, Acts, Shell, begun, state_of, is_working, has_room, end_at, may_up, place, free_place, Move, Up, Passage, EndMove, EndPassage, MayMove, AreAllowedAtEnd, moved, started, end_moved, end_started, all_end_moved, Event, ComesUp, Hears, Ends, Breaks, Draws, Ticks, after_event, after_events, EndEvent, Happens, IsGiven, IsTaken, IsClosed, IsRecycled, after_end_event, after_end_events}
use Rattle.law_moves.proofs.Vocabulary.{IsHeld, AreHeld, Follows, EndFollows}
use Rattle.law_moves.proofs.Lemmas.{leads_keep, at_work, both}
use Rattle.law_node_causes.proofs.Sorts.{end_leg}
use Rattle.law_node_causes.proofs.Places.{IsSet, WasThere, set_cases, seat_cases, seat}
use Rattle.law_node_causes.proofs.LegChanges.{Makes, makes, given_legs, taken_legs, closed_legs, recycled_legs}
use Rattle.law_node_causes.specs.Reasons.{StandsIn}
use Rattle.law_node_causes.specs.Once.{ComesUpOnce, KeepsUp, AreUpOnce, WasUp, IsNewLeg, AreNewLegs, IsNewLegAtEnd, AreNewLegsAtEnd}

-- what is said of each event of a node, and of an end's, by what a role's rules allow
abbrev pub AllFollow : {S : Type 0} → Rules S → Type 0
AllFollow {S} rules =
    (passage : Passage S) (node : Shell S) (event : Event) → passage.role ≡ node.role
    → AreHeld node → Follows rules passage (after_event rules node event)

abbrev pub AllFollowAtEnd : {S : Type 0} → Rules S → Acts S → Type 0
AllFollowAtEnd {S} rules acts =
    (passage : EndPassage S) (node : Shell S) (event : EndEvent)
    → passage.passage.role ≡ node.role → AreHeld node
    → EndFollows rules acts passage (after_end_event rules acts node event)

module _ {S : Type 0} (rules : Rules S) (Holds : S → Type 0) (law : ComesUpOnce rules Holds) where
  -- it holds, and what was up was up from then on
  record Grows (r q : S) : Type 0 where
    holds : Holds q
    up : (leg : Leg) → rules.was_up r leg ≡ true → rules.was_up q leg ≡ true

  moves_grow : (r : S) (p : Passage S) (move : Move) → Grows r p.role
      → MayMove rules p.role move → Grows r (moved rules p move).role
  moves_grow r p move g may = record {
    holds = law.kept p move g.holds may;
    up = λ leg h. law.stays p move leg g.holds may (g.up leg h);
  }

  -- the move that a leg that comes up is
  may_move : (s : Shell S) (leg : Leg) (cookie : Cookie) → may_up rules s leg ≡ true
      → MayMove rules s.role (Up leg cookie)
  may_move s leg cookie may =
      let work = both (is_working rules s)
      (has_room rules s leg.kind && rules.may_up s.role leg) may in
      let room = both (has_room rules s leg.kind) (rules.may_up s.role leg) work.1 in
      (at_work s.course (rules.phase s.role) work.0, room.1)

  role_may : (s : Shell S) (leg : Leg) → may_up rules s leg ≡ true
      → rules.may_up s.role leg ≡ true
  role_may s leg may =
      (both (has_room rules s leg.kind) (rules.may_up s.role leg) (both (is_working rules s)
      (has_room rules s leg.kind && rules.may_up s.role leg) may).1).1

  -- ---- the legs that are kept were up

  ends_up : (s t : Shell S) (event : Event) → AreUpOnce rules Holds s → Grows s.role t.role
      → Makes rules s event t → (end : NearEnd) → StandsIn t.legs end
      → rules.was_up t.role end.leg ≡ true
  ends_up s t event are g (inl stay) end there =
      g.up end.leg (are.kept end
      (subst (λ (ends : List NearEnd). StandsIn ends end) stay.legs there))
  ends_up s t event are g (inr (inl c)) end there =
      by (set_cases s.legs (place c.leg s.legs) there.place c.new end
      (subst (λ (ends : List NearEnd). slice_get ends there.place ≡ Some end) c.legs there.at))
    where
      old_up : rules.was_up s.role c.old.leg ≡ true
      old_up = are.kept c.old (record { place = place c.leg s.legs; at = c.at })

      by : IsSet (place c.leg s.legs) there.place c.new end
          ⊎ WasThere s.legs (place c.leg s.legs) there.place end
          → rules.was_up t.role end.leg ≡ true
      by (inl h) =
          g.up end.leg (subst (λ (l : Leg). rules.was_up s.role l ≡ true)
          (sym c.same ∙ ap (λ (e : NearEnd). e.leg) (sym h.is)) old_up)
      by (inr was) = g.up end.leg (are.kept end (record { place = there.place; at = was.at }))
  ends_up s t event are g (inr (inr c)) end there =
      let at = free_place rules s.role c.leg.kind s.legs in
      by (seat_cases s.legs at there.place (new_end c.leg (rules.pipe s.role c.leg) s.now) end
      (subst (λ (ends : List NearEnd). slice_get ends there.place ≡ Some end) c.legs there.at))
    where
      new_up : rules.was_up t.role c.leg ≡ true
      new_up =
          subst (λ (r : S). rules.was_up r c.leg ≡ true) (sym c.role)
          (law.up s.role c.leg c.cookie are.holds (may_move s c.leg c.cookie c.may))

      by : IsSet (seat s.legs (free_place rules s.role c.leg.kind s.legs)) there.place
          (new_end c.leg (rules.pipe s.role c.leg) s.now) end
          ⊎ WasThere s.legs (seat s.legs (free_place rules s.role c.leg.kind s.legs)) there.place
          end
          → rules.was_up t.role end.leg ≡ true
      by (inl h) =
          subst (λ (l : Leg). rules.was_up t.role l ≡ true)
          (ap (λ (e : NearEnd). e.leg) (sym h.is)) new_up
      by (inr was) = g.up end.leg (are.kept end (record { place = there.place; at = was.at }))

  -- ---- a leg that was up is not to come up again

  pub was_up_is : (s : Shell S) (leg : Leg) → Holds s.role → rules.was_up s.role leg ≡ true
      → WasUp rules s leg
  was_up_is s leg holds h = record {
    was_up = h;
    not_again = law.once s.role leg holds h;
    not_wanted = law.unwanted s.role leg holds h;
  }

  new_leg : (s : Shell S) (event : Event) → AreUpOnce rules Holds s → IsNewLeg rules s event
  new_leg s (ComesUp leg cookie) are = λ may. by (end_at s leg) refl (role_may s leg may)
    where
      by : (o : Option NearEnd) → end_at s leg ≡ o → rules.may_up s.role leg ≡ true → o ≡ None
      by None at may = refl
      by (Some end) at may =
          let was = are.kept end (record { place = place leg s.legs; at = at }) in
          let h : rules.was_up s.role leg ≡ true =
          subst (λ (l : Leg). rules.was_up s.role l ≡ true) (end_leg leg s.legs end at) was in
          let never = law.once s.role leg are.holds h in
          absurd cc
  new_leg s (Hears leg piece) are = tt
  new_leg s (Ends leg) are = tt
  new_leg s (Breaks leg) are = tt
  new_leg s (Draws leg n) are = tt
  new_leg s (Ticks now) are = tt

  -- ---- events

  module _ (all : AllFollow rules) where
    event_grows : (s : Shell S) (event : Event) → AreHeld s → Holds s.role
        → Grows s.role (after_event rules s event).role
    event_grows s event held holds =
        let f = all (started s.role) s event refl held in
        subst (Grows s.role) f.role
        (leads_keep rules (λ (q : Passage S). Grows s.role q.role) (moves_grow s.role)
        (started s.role) f.passage f.leads (record { holds = holds; up = λ leg h. h }))

    event_held : (s : Shell S) (event : Event) → AreHeld s → AreHeld (after_event rules s event)
    event_held s event held = (all (started s.role) s event refl held).held

    event_once : (s : Shell S) (event : Event) → AreHeld s → AreUpOnce rules Holds s
        → AreUpOnce rules Holds (after_event rules s event)
    event_once s event held are =
        let g = event_grows s event held are.holds in
        record {
          holds = g.holds;
          kept = ends_up s (after_event rules s event) event are g (makes rules s event);
        }

    -- a node behind events, from one at which it is so
    pub record Goes (s t : Shell S) : Type 0 where
      pub held : AreHeld t
      pub are : AreUpOnce rules Holds t
      pub up : (leg : Leg) → rules.was_up s.role leg ≡ true → rules.was_up t.role leg ≡ true

    pub run_once : (s : Shell S) (events : List Event) → AreHeld s → AreUpOnce rules Holds s
        → Goes s (after_events rules s events)
    run_once s [] held are = record { held = held; are = are; up = λ leg h. h }
    run_once s (event ∷ events) held are =
        let t = after_event rules s event in
        let g = event_grows s event held are.holds in
        let rest = run_once t events (event_held s event held) (event_once s event held are) in
        record {
          held = rest.held;
          are = rest.are;
          up = λ leg h. rest.up leg (g.up leg h);
        }

    pub new_legs : (s : Shell S) (events : List Event) → AreHeld s → AreUpOnce rules Holds s
        → AreNewLegs rules s events
    new_legs s [] held are = tt
    new_legs s (event ∷ events) held are = (
      new_leg s event are,
      new_legs (after_event rules s event) events
          (event_held s event held) (event_once s event held are),
    )

    -- ---- events of an end

    module _ (acts : Acts S) (calls : KeepsUp rules acts Holds)
        (all_at_end : AllFollowAtEnd rules acts) where
      end_moves_keep : (r : S) (p : EndPassage S) (moves : List EndMove)
          → AreAllowedAtEnd rules acts p moves → Grows r p.passage.role
          → Grows r (all_end_moved rules acts p moves).passage.role
      end_moves_keep r p [] allowed g = g
      end_moves_keep r p (m ∷ ms) allowed g =
          end_moves_keep r (end_moved rules acts p m) ms allowed.1 (record {
            holds = calls.kept p m g.holds allowed.0;
            up = λ leg h. calls.stays p m leg g.holds allowed.0 (g.up leg h);
          })

      end_grows : (s : Shell S) (event : EndEvent) → AreHeld s → Holds s.role
          → Grows s.role (after_end_event rules acts s event).role
      end_grows s event held holds =
          let f = all_at_end (end_started s.role) s event refl held in
          subst (Grows s.role) f.role
          (subst (λ (q : EndPassage S). Grows s.role q.passage.role) f.leads.reached
          (end_moves_keep s.role (end_started s.role) f.leads.moves f.leads.allowed
          (record { holds = holds; up = λ leg h. h })))

      end_held : (s : Shell S) (event : EndEvent) → AreHeld s
          → AreHeld (after_end_event rules acts s event)
      end_held s event held = (all_at_end (end_started s.role) s event refl held).held

      by_legs : (s t : Shell S) → t.legs ≡ s.legs → AreUpOnce rules Holds s
          → Grows s.role t.role → AreUpOnce rules Holds t
      by_legs s t same are g = record {
        holds = g.holds;
        kept = λ end there.
            g.up end.leg (are.kept end
            (subst (λ (ends : List NearEnd). StandsIn ends end) same there));
      }

      end_once : (s : Shell S) (event : EndEvent) → AreHeld s → AreUpOnce rules Holds s
          → AreUpOnce rules Holds (after_end_event rules acts s event)
      end_once s (Happens event) held are = event_once s event held are
      end_once s (IsGiven pdu) held are =
          by_legs s (after_end_event rules acts s (IsGiven pdu))
          (given_legs rules s acts pdu (cause_of s.course)) are
          (end_grows s (IsGiven pdu) held are.holds)
      end_once s IsTaken held are =
          by_legs s (after_end_event rules acts s IsTaken)
          (taken_legs rules s acts (cause_of s.course)) are (end_grows s IsTaken held are.holds)
      end_once s IsClosed held are =
          by_legs s (after_end_event rules acts s IsClosed)
          (closed_legs rules s acts (cause_of s.course)) are
          (end_grows s IsClosed held are.holds)
      end_once s IsRecycled held are =
          by_legs s (after_end_event rules acts s IsRecycled)
          (recycled_legs rules s acts (state_of rules s)) are
          (end_grows s IsRecycled held are.holds)

      pub run_once_at_end : (s : Shell S) (events : List EndEvent) → AreHeld s
          → AreUpOnce rules Holds s → Goes s (after_end_events rules acts s events)
      run_once_at_end s [] held are = record { held = held; are = are; up = λ leg h. h }
      run_once_at_end s (event ∷ events) held are =
          let t = after_end_event rules acts s event in
          let g = end_grows s event held are.holds in
          let rest = run_once_at_end t events (end_held s event held)
          (end_once s event held are) in
          record {
            held = rest.held;
            are = rest.are;
            up = λ leg h. rest.up leg (g.up leg h);
          }

      new_at_end : (s : Shell S) (event : EndEvent) → AreUpOnce rules Holds s
          → IsNewLegAtEnd rules s event
      new_at_end s (Happens event) are = new_leg s event are
      new_at_end s (IsGiven pdu) are = tt
      new_at_end s IsTaken are = tt
      new_at_end s IsClosed are = tt
      new_at_end s IsRecycled are = tt

      pub new_legs_at_end : (s : Shell S) (events : List EndEvent) → AreHeld s
          → AreUpOnce rules Holds s → AreNewLegsAtEnd rules acts s events
      new_legs_at_end s [] held are = tt
      new_legs_at_end s (event ∷ events) held are = (
        new_at_end s event are,
        new_legs_at_end (after_end_event rules acts s event) events
            (end_held s event held) (end_once s event held are),
      )

  -- ---- from the start

  pub first_once : (role : S) (rooms : Rooms) → Holds role
      → AreUpOnce rules Holds (begun role rooms)
  first_once role rooms holds = record {
    holds = holds;
    kept = λ end there. absurd (none end there.place there.at);
  }
    where
      none : (end : NearEnd) (i : ℕ) → slice_get [] i ≡ Some end → ⊥
      none end i at = absurd cc

  pub first_held : (role : S) (rooms : Rooms) → AreHeld (begun role rooms)
  first_held role rooms = All-nil IsHeld

  -- a leg that comes up was up then
  pub comes_up : (s : Shell S) (leg : Leg) (cookie : Cookie) → Holds s.role
      → may_up rules s leg ≡ true
      → rules.was_up (after_event rules s (ComesUp leg cookie)).role leg ≡ true
  comes_up s leg cookie holds may =
      rw may (law.up s.role leg cookie holds (may_move s leg cookie may))
