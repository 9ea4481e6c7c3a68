-- the moment at which each leg of a node was last touched
use Rattle.law_order.proofs.Vocabulary.{◌≡◌, ◌⊎◌, inl, inr, ℕ, List, [], ◌∷◌, cond, Bool, true, false, Some, None, refl, sym, ap, ◌∙◌, subst, ◌&&◌, slice_get, Option}
use Rattle.law_moves.proofs.Vocabulary.{Leg, Rooms, cause_of, NearEnd, new_end, Rules, Acts, Shell, begun, state_of, same_leg, is_at, place, free_place, end_at, may_up, Event, ComesUp, after_event, after_events, EndEvent, Happens, IsGiven, IsTaken, IsClosed, IsRecycled, after_end_event, after_end_events}
use Rattle.law_moves.proofs.Lemmas.{leg_is, itself as leg_itself}
use Rattle.law_node_causes.proofs.Sorts.{end_leg}
use Rattle.law_node_causes.proofs.Places.{IsSet, WasThere, set_cases, seat_cases, seat, found, same_is}
use Rattle.law_node_causes.proofs.LegChanges.{Stay, Changes, Comes, Makes, makes, given_legs, taken_legs, closed_legs, recycled_legs}
use Rattle.law_node_causes.specs.Reasons.{StandsIn}
use Rattle.law_node_causes.specs.Once.{IsNewLeg, AreNewLegs, AreNewLegsAtEnd}
use Rattle.law_node_causes.specs.Moments.{touches, moment_if, last_touched, last_touched_at_end}

-- the ends of a list are of different legs
abbrev Differ : List NearEnd → Type 0
Differ ends = (i j : ℕ) (a b : NearEnd) → slice_get ends i ≡ Some a → slice_get ends j ≡ Some b
    → a.leg ≡ b.leg → i ≡ j

-- each end was touched last at its moment
record AreTouched (ends : List NearEnd) (last : Leg → Option ℕ) : Type 0 where
  differ : Differ ends
  since : (i : ℕ) (end : NearEnd) → slice_get ends i ≡ Some end → last end.leg ≡ Some end.since

module _ {S : Type 0} (rules : Rules S) (s : Shell S) (last : Leg → Option ℕ)
    (are : AreTouched s.legs last) (event : Event) where
  -- the last moments behind the event
  abbrev next : Leg → Option ℕ
  next leg = moment_if (touches rules s leg event) s.now (last leg)

  stays : (t : Shell S) → Stay rules s event t → AreTouched t.legs next
  stays t stay =
      subst (λ (ends : List NearEnd). AreTouched ends next) (sym stay.legs) (record {
        differ = are.differ;
        since = λ i end at.
            ap (λ b. moment_if b s.now (last end.leg)) (stay.touch end.leg)
            ∙ are.since i end at;
      })

  -- ---- one end is another one of its leg

  module _ (t : Shell S) (c : Changes rules s event t) where
    i : ℕ
    i = place c.leg s.legs

    of_leg : c.old.leg ≡ c.leg
    of_leg = end_leg c.leg s.legs c.old c.at

    new_leg : c.leg ≡ c.new.leg
    new_leg = sym of_leg ∙ sym c.same

    new_since : (flag : Bool) → c.flag ≡ flag
        → moment_if flag s.now (last c.new.leg) ≡ Some (cond flag s.now c.old.since)
    new_since true is = refl
    new_since false is =
        ap last c.same ∙ are.since (place c.leg s.legs) c.old c.at

    new_is : next c.new.leg ≡ Some c.new.since
    new_is =
        ap (λ b. moment_if b s.now (last c.new.leg))
        (c.touch c.new.leg ∙ ap (λ b. b && c.flag) (same_is c.leg c.new.leg new_leg))
        ∙ new_since c.flag refl ∙ ap Some (sym c.since)

    -- another end is of another leg
    other_leg : (j : ℕ) (end : NearEnd) → WasThere s.legs (place c.leg s.legs) j end
        → (b : Bool) → same_leg c.leg end.leg ≡ b → b ≡ false
    other_leg j end was true e =
        absurd (was.place (are.differ j (place c.leg s.legs) end c.old was.at c.at
        (sym (leg_is c.leg end.leg e) ∙ sym of_leg)))
    other_leg j end was false e = refl

    other_is : (j : ℕ) (end : NearEnd) → WasThere s.legs (place c.leg s.legs) j end
        → next end.leg ≡ Some end.since
    other_is j end was =
        let apart : same_leg c.leg end.leg ≡ false =
        other_leg j end was (same_leg c.leg end.leg) refl in
        ap (λ b. moment_if b s.now (last end.leg))
        (c.touch end.leg ∙ ap (λ b. b && c.flag) apart)
        ∙ are.since j end was.at

    changed_since : (j : ℕ) (end : NearEnd)
        → IsSet (place c.leg s.legs) j c.new end ⊎ WasThere s.legs (place c.leg s.legs) j end
        → next end.leg ≡ Some end.since
    changed_since j end (inl h) =
        subst (λ (e : NearEnd). next e.leg ≡ Some e.since) (sym h.is) new_is
    changed_since j end (inr was) = other_is j end was

    changed_differ : (j k : ℕ) (a b : NearEnd)
        → IsSet (place c.leg s.legs) j c.new a ⊎ WasThere s.legs (place c.leg s.legs) j a
        → IsSet (place c.leg s.legs) k c.new b ⊎ WasThere s.legs (place c.leg s.legs) k b
        → a.leg ≡ b.leg → j ≡ k
    changed_differ j k a b (inl x) (inl y) same = x.place ∙ sym y.place
    changed_differ j k a b (inl x) (inr y) same =
        x.place ∙ are.differ (place c.leg s.legs) k c.old b c.at y.at
        (sym c.same ∙ ap (λ (e : NearEnd). e.leg) (sym x.is) ∙ same)
    changed_differ j k a b (inr x) (inl y) same =
        are.differ j (place c.leg s.legs) a c.old x.at c.at
        (same ∙ ap (λ (e : NearEnd). e.leg) y.is ∙ c.same) ∙ sym y.place
    changed_differ j k a b (inr x) (inr y) same = are.differ j k a b x.at y.at same

    changes : AreTouched t.legs next
    changes =
        subst (λ (ends : List NearEnd). AreTouched ends next) (sym c.legs) (record {
          differ = λ j k a b p q.
              changed_differ j k a b (set_cases s.legs (place c.leg s.legs) j c.new a p)
              (set_cases s.legs (place c.leg s.legs) k c.new b q);
          since = λ j end p.
              changed_since j end (set_cases s.legs (place c.leg s.legs) j c.new end p);
        })

  -- ---- a leg comes up that was none of them

  module _ (t : Shell S) (c : Comes rules s event t) (none : end_at s c.leg ≡ None) where
    new : NearEnd
    new = new_end c.leg (rules.pipe s.role c.leg) s.now

    absent : (j : ℕ) (end : NearEnd) → slice_get s.legs j ≡ Some end → c.leg ≡ end.leg → ⊥
    absent j end at is =
        found (is_at c.leg) s.legs j end at (same_is end.leg c.leg (sym is)) none

    apart : (j : ℕ) (end : NearEnd) → slice_get s.legs j ≡ Some end
        → (b : Bool) → same_leg c.leg end.leg ≡ b → b ≡ false
    apart j end at true e = absurd (absent j end at (leg_is c.leg end.leg e))
    apart j end at false e = refl

    abbrev Seated : ℕ → NearEnd → Type 0
    Seated j end =
        IsSet (seat s.legs (free_place rules s.role c.leg.kind s.legs)) j
        (new_end c.leg (rules.pipe s.role c.leg) s.now) end
        ⊎ WasThere s.legs (seat s.legs (free_place rules s.role c.leg.kind s.legs)) j end

    seated_since : (j : ℕ) (end : NearEnd) → Seated j end → next end.leg ≡ Some end.since
    seated_since j end (inl h) =
        subst (λ (e : NearEnd). next e.leg ≡ Some e.since) (sym h.is)
        (ap (λ b. moment_if b s.now (last c.leg)) (c.touch c.leg ∙ leg_itself c.leg))
    seated_since j end (inr was) =
        ap (λ b. moment_if b s.now (last end.leg))
        (c.touch end.leg ∙ apart j end was.at (same_leg c.leg end.leg) refl)
        ∙ are.since j end was.at

    seated_differ : (j k : ℕ) (a b : NearEnd) → Seated j a → Seated k b → a.leg ≡ b.leg → j ≡ k
    seated_differ j k a b (inl x) (inl y) same = x.place ∙ sym y.place
    seated_differ j k a b (inl x) (inr y) same =
        absurd (absent k b y.at (ap (λ (e : NearEnd). e.leg) (sym x.is) ∙ same))
    seated_differ j k a b (inr x) (inl y) same =
        absurd (absent j a x.at (sym (same ∙ ap (λ (e : NearEnd). e.leg) y.is)))
    seated_differ j k a b (inr x) (inr y) same = are.differ j k a b x.at y.at same

    comes : AreTouched t.legs next
    comes =
        let at = free_place rules s.role c.leg.kind s.legs in
        let end = new_end c.leg (rules.pipe s.role c.leg) s.now in
        subst (λ (ends : List NearEnd). AreTouched ends next) (sym c.legs) (record {
          differ = λ j k a b p q.
              seated_differ j k a b (seat_cases s.legs at j end a p)
              (seat_cases s.legs at k end b q);
          since = λ j e p. seated_since j e (seat_cases s.legs at j end e p);
        })

  -- ---- any event

  new_leg_is : IsNewLeg rules s event → (leg : Leg) (cookie : _) → event ≡ ComesUp leg cookie
      → may_up rules s leg ≡ true → end_at s leg ≡ None
  new_leg_is is leg cookie same may =
      subst (λ (e : Event). IsNewLeg rules s e) same is may

  touched_next : (t : Shell S) → IsNewLeg rules s event → Makes rules s event t
      → AreTouched t.legs next
  touched_next t is (inl stay) = stays t stay
  touched_next t is (inr (inl c)) = changes t c
  touched_next t is (inr (inr c)) = comes t c (new_leg_is is c.leg c.cookie c.is c.may)

-- ---- any events

module _ {S : Type 0} (rules : Rules S) where
  run : (s : Shell S) (events : List Event) (last : Leg → Option ℕ) → AreTouched s.legs last
      → AreNewLegs rules s events
      → AreTouched (after_events rules s events).legs
      (λ leg. last_touched rules leg s events (last leg))
  run s [] last are is = are
  run s (event ∷ events) last are is =
      let t = after_event rules s event in
      run t events (λ leg. moment_if (touches rules s leg event) s.now (last leg))
      (touched_next rules s last are event t is.0 (makes rules s event)) is.1

  none_touched : AreTouched [] (λ leg. None)
  none_touched = record {
    differ = λ i j a b p q same. absurd cc;
    since = λ i end p. absurd cc;
  }

  since_at : (s : Shell S) (last : Leg → Option ℕ) (leg : Leg) (end : NearEnd)
      → AreTouched s.legs last → end_at s leg ≡ Some end → last leg ≡ Some end.since
  since_at s last leg end are at =
      ap last (sym (end_leg leg s.legs end at)) ∙ are.since (place leg s.legs) end at

  pub since_there : (role : S) (rooms : Rooms) (events : List Event) (end : NearEnd)
      → AreNewLegs rules (begun role rooms) events
      → StandsIn (after_events rules (begun role rooms) events).legs end
      → last_touched rules end.leg (begun role rooms) events None ≡ Some end.since
  since_there role rooms events end is there =
      (run (begun role rooms) events (λ l. None) none_touched is).since there.place end there.at

  pub since_is : (role : S) (rooms : Rooms) (events : List Event) (leg : Leg) (end : NearEnd)
      → AreNewLegs rules (begun role rooms) events
      → end_at (after_events rules (begun role rooms) events) leg ≡ Some end
      → last_touched rules leg (begun role rooms) events None ≡ Some end.since
  since_is role rooms events leg end is at =
      since_at (after_events rules (begun role rooms) events)
      (λ l. last_touched rules l (begun role rooms) events None) leg end
      (run (begun role rooms) events (λ l. None) none_touched is) at

  -- ---- and at an end

  module _ (acts : Acts S) where
    by_legs : (s t : Shell S) (last : Leg → Option ℕ) → t.legs ≡ s.legs
        → AreTouched s.legs last → AreTouched t.legs last
    by_legs s t last same are =
        subst (λ (ends : List NearEnd). AreTouched ends last) (sym same) are

    run_at_end : (s : Shell S) (events : List EndEvent) (last : Leg → Option ℕ)
        → AreTouched s.legs last → AreNewLegsAtEnd rules acts s events
        → AreTouched (after_end_events rules acts s events).legs
        (λ leg. last_touched_at_end rules acts leg s events (last leg))
    run_at_end s [] last are is = are
    run_at_end s (Happens event ∷ events) last are is =
        let t = after_event rules s event in
        run_at_end t events (λ leg. moment_if (touches rules s leg event) s.now (last leg))
        (touched_next rules s last are event t is.0 (makes rules s event)) is.1
    run_at_end s (IsGiven pdu ∷ events) last are is =
        let t = after_end_event rules acts s (IsGiven pdu) in
        run_at_end t events last
        (by_legs s t last (given_legs rules s acts pdu (cause_of s.course)) are) is.1
    run_at_end s (IsTaken ∷ events) last are is =
        let t = after_end_event rules acts s IsTaken in
        run_at_end t events last
        (by_legs s t last (taken_legs rules s acts (cause_of s.course)) are) is.1
    run_at_end s (IsClosed ∷ events) last are is =
        let t = after_end_event rules acts s IsClosed in
        run_at_end t events last
        (by_legs s t last (closed_legs rules s acts (cause_of s.course)) are) is.1
    run_at_end s (IsRecycled ∷ events) last are is =
        let t = after_end_event rules acts s IsRecycled in
        run_at_end t events last
        (by_legs s t last (recycled_legs rules s acts (state_of rules s)) are) is.1

    pub since_there_at_end : (role : S) (rooms : Rooms) (events : List EndEvent) (end : NearEnd)
        → AreNewLegsAtEnd rules acts (begun role rooms) events
        → StandsIn (after_end_events rules acts (begun role rooms) events).legs end
        → last_touched_at_end rules acts end.leg (begun role rooms) events None ≡ Some end.since
    since_there_at_end role rooms events end is there =
        (run_at_end (begun role rooms) events (λ l. None) none_touched is).since there.place end
        there.at

    pub since_is_at_end : (role : S) (rooms : Rooms) (events : List EndEvent) (leg : Leg)
        (end : NearEnd) → AreNewLegsAtEnd rules acts (begun role rooms) events
        → end_at (after_end_events rules acts (begun role rooms) events) leg ≡ Some end
        → last_touched_at_end rules acts leg (begun role rooms) events None ≡ Some end.since
    since_is_at_end role rooms events leg end is at =
        since_at (after_end_events rules acts (begun role rooms) events)
        (λ l. last_touched_at_end rules acts l (begun role rooms) events None) leg end
        (run_at_end (begun role rooms) events (λ l. None) none_touched is) at
