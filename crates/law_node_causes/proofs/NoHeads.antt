-- on which legs a role waits for a head: those that come up with one first
use Rattle.law_order.proofs.Vocabulary.{◌≡◌, ◌⊎◌, inl, inr, ℕ, List, [], ◌∷◌, Some, sym, ap, ◌∙◌, subst, true, ◌&&◌, slice_get}
use Rattle.rh_shell.specs.declared.stage.Stage.TheVariants as stage
use Rattle.law_moves.proofs.Vocabulary.{Leg, Rooms, cause_of, NearEnd, first_stage, new_end, Rules, Acts, Shell, begun, state_of, is_working, has_room, place, free_place, Event, after_event, EndEvent, Happens, IsGiven, IsTaken, IsClosed, IsRecycled, after_end_event, after_end_events}
use Rattle.law_moves.proofs.Lemmas.{both}
use Rattle.law_node_causes.proofs.Places.{IsSet, WasThere, set_cases, seat_cases, seat}
use Rattle.law_node_causes.proofs.LegChanges.{Makes, makes, given_legs, taken_legs, closed_legs, recycled_legs}
use Rattle.law_node_causes.specs.Reasons.{StandsIn}

-- an end waits for a head only on such a leg
abbrev pub WaitOn : (Leg → Type 0) → List NearEnd → Type 0
WaitOn On ends =
    (end : NearEnd) → StandsIn ends end → end.intake.stage ≡ stage.Head → On end.leg

module _ {S : Type 0} (rules : Rules S) (On : Leg → Type 0)
    (first : (role : S) (leg : Leg) → rules.may_up role leg ≡ true
    → first_stage (rules.pipe role leg) ≡ stage.Head → On leg) where
  same_legs : (a b : List NearEnd) → b ≡ a → WaitOn On a → WaitOn On b
  same_legs a b same wait = subst (WaitOn On) (sym same) wait

  next : (s t : Shell S) (event : Event) → WaitOn On s.legs → Makes rules s event t
      → WaitOn On t.legs
  next s t event wait (inl stay) = same_legs s.legs t.legs stay.legs wait
  next s t event wait (inr (inl c)) = λ end there.
      by end there.place (set_cases s.legs (place c.leg s.legs) there.place c.new end
      (subst (λ (ends : List NearEnd). slice_get ends there.place ≡ Some end) c.legs there.at))
    where
      by : (end : NearEnd) (i : ℕ) → IsSet (place c.leg s.legs) i c.new end
          ⊎ WasThere s.legs (place c.leg s.legs) i end
          → end.intake.stage ≡ stage.Head → On end.leg
      by end i (inl h) = λ is.
          subst On (sym c.same ∙ ap (λ (e : NearEnd). e.leg) (sym h.is))
          (wait c.old (record { place = place c.leg s.legs; at = c.at })
          (c.head (ap (λ (e : NearEnd). e.intake.stage) (sym h.is) ∙ is)))
      by end i (inr was) = wait end (record { place = i; at = was.at })
  next s t event wait (inr (inr c)) = λ end there.
      by end there.place (seat_cases s.legs (free_place rules s.role c.leg.kind s.legs) there.place
      (new_end c.leg (rules.pipe s.role c.leg) s.now) end
      (subst (λ (ends : List NearEnd). slice_get ends there.place ≡ Some end) c.legs there.at))
    where
      may : rules.may_up s.role c.leg ≡ true
      may = (both (has_room rules s c.leg.kind) (rules.may_up s.role c.leg)
          (both (is_working rules s) (has_room rules s c.leg.kind && rules.may_up s.role c.leg)
          c.may).1).1

      by : (end : NearEnd) (i : ℕ)
          → IsSet (seat s.legs (free_place rules s.role c.leg.kind s.legs)) i
          (new_end c.leg (rules.pipe s.role c.leg) s.now) end
          ⊎ WasThere s.legs (seat s.legs (free_place rules s.role c.leg.kind s.legs)) i end
          → end.intake.stage ≡ stage.Head → On end.leg
      by end i (inl h) = λ is.
          subst On (ap (λ (e : NearEnd). e.leg) (sym h.is))
          (first s.role c.leg may (ap (λ (e : NearEnd). e.intake.stage) (sym h.is) ∙ is))
      by end i (inr was) = wait end (record { place = i; at = was.at })

  pub event_waits : (s : Shell S) (event : Event) → WaitOn On s.legs
      → WaitOn On (after_event rules s event).legs
  event_waits s event wait = next s (after_event rules s event) event wait (makes rules s event)

  module _ (acts : Acts S) where
    at_end : (s : Shell S) (event : EndEvent) → WaitOn On s.legs
        → WaitOn On (after_end_event rules acts s event).legs
    at_end s (Happens event) wait =
        next s (after_event rules s event) event wait (makes rules s event)
    at_end s (IsGiven pdu) wait =
        same_legs s.legs (after_end_event rules acts s (IsGiven pdu)).legs
        (given_legs rules s acts pdu (cause_of s.course)) wait
    at_end s IsTaken wait =
        same_legs s.legs (after_end_event rules acts s IsTaken).legs
        (taken_legs rules s acts (cause_of s.course)) wait
    at_end s IsClosed wait =
        same_legs s.legs (after_end_event rules acts s IsClosed).legs
        (closed_legs rules s acts (cause_of s.course)) wait
    at_end s IsRecycled wait =
        same_legs s.legs (after_end_event rules acts s IsRecycled).legs
        (recycled_legs rules s acts (state_of rules s)) wait

    pub run_at_end : (s : Shell S) (events : List EndEvent) → WaitOn On s.legs
        → WaitOn On (after_end_events rules acts s events).legs
    run_at_end s [] wait = wait
    run_at_end s (event ∷ events) wait =
        run_at_end (after_end_event rules acts s event) events (at_end s event wait)

  pub first_waits : (role : S) (rooms : Rooms) → WaitOn On (begun role rooms).legs
  first_waits role rooms = λ end there. absurd (empty there.place end there.at)
    where
      empty : (i : ℕ) (end : NearEnd) → slice_get [] i ≡ Some end → ⊥
      empty i end at = absurd cc
