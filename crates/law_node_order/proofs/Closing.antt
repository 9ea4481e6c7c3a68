-- an end is closing only where it was told to close
use Rattle.law_order.proofs.Vocabulary.{◌≡◌, ℕ, List, [], ◌∷◌, Bool, true, false, ◌||◌, Some, None, Option, refl, sym, ap, ◌∙◌, subst, All, list_any}
use Rattle.rh_line.specs.declared.state.State.TheVariants as state
use Rattle.law_moves.proofs.Vocabulary.{Cause, Rooms, Rules, Acts, Shell, State, begun, cause_of, state_of, give_where, take_where, recycle_where, Move, Passage, all_moved, moved, started, AreHeld, Follows, IsHeld, Event, EndEvent, Happens, IsGiven, IsTaken, IsClosed, IsRecycled, after_event, after_end_event, after_end_events}
use Rattle.law_node_causes.proofs.LegChanges.{given_legs, taken_legs, recycled_legs}
use Rattle.law_node_ends.proofs.Stops.Stays.{Said, StaysSaid, move_said}
use Rattle.law_node_order.specs.Streams.{is_close}

module _ {S : Type 0} (rules : Rules S) (acts : Acts S) (said : S → Said)
    (law : StaysSaid rules acts said)
    (gives : (s : S) (pdu : List ℕ) → said (acts.give s pdu).0 ≡ said s)
    (follows : (p : Passage S) (s : Shell S) (event : Event) → p.role ≡ s.role → AreHeld s
    → Follows rules p (after_event rules s event)) where
  all_said : (p : Passage S) (moves : List Move)
      → said (all_moved rules p moves).role ≡ said p.role
  all_said p [] = refl
  all_said p (move ∷ moves) =
      all_said (moved rules p move) moves ∙ move_said rules acts said law p move

  given_said : (s : Shell S) (pdu : List ℕ) (o : Option Cause)
      → said (give_where acts s pdu o).0.role ≡ said s.role
  given_said s pdu (Some why) = refl
  given_said s pdu None = gives s.role pdu

  taken_said : (s : Shell S) (o : Option Cause) → said (take_where acts s o).role ≡ said s.role
  taken_said s (Some why) = refl
  taken_said s None = law.take s.role

  recycled_said : (s : Shell S) (st : State)
      → said (recycle_where acts s st).0.role ≡ said s.role
  recycled_said s state.Open = law.recycle s.role
  recycled_said s state.Opening = refl
  recycled_said s state.Ended = refl
  recycled_said s (state.Closed why) = refl

  abbrev IsTold : Shell S → List EndEvent → Type 0
  IsTold s events =
      (said (after_end_events rules acts s events).role).closing ≡ true
      → ((said s.role).closing || list_any is_close events) ≡ true

  as_before : (s t : Shell S) (events : List EndEvent) → said t.role ≡ said s.role
      → (((said t.role).closing || list_any is_close events) ≡ true)
      → ((said s.role).closing || list_any is_close events) ≡ true
  as_before s t events same e =
      ap (λ (x : Said). x.closing || list_any is_close events) (sym same) ∙ e

  was_told : (s : Shell S) (events : List EndEvent) → AreHeld s → IsTold s events
  was_told s [] held h = ap (λ b. b || false) h
  was_told s (Happens event ∷ events) held h =
      let t = after_event rules s event in
      let f = follows (started s.role) s event refl held in
      as_before s t events
      (ap said (sym f.role) ∙ ap (λ (p : Passage S). said p.role) (sym f.leads.reached)
      ∙ all_said (started s.role) f.leads.moves)
      (was_told t events f.held h)
  was_told s (IsGiven pdu ∷ events) held h =
      let t = after_end_event rules acts s (IsGiven pdu) in
      as_before s t events (given_said s pdu (cause_of s.course))
      (was_told t events
      (subst (All IsHeld) (sym (given_legs rules s acts pdu (cause_of s.course))) held) h)
  was_told s (IsTaken ∷ events) held h =
      let t = after_end_event rules acts s IsTaken in
      as_before s t events (taken_said s (cause_of s.course))
      (was_told t events
      (subst (All IsHeld) (sym (taken_legs rules s acts (cause_of s.course))) held) h)
  was_told s (IsClosed ∷ events) held h = by (said s.role).closing
    where
      by : (b : Bool) → (b || true) ≡ true
      by true = refl
      by false = refl
  was_told s (IsRecycled ∷ events) held h =
      let t = after_end_event rules acts s IsRecycled in
      as_before s t events (recycled_said s (state_of rules s))
      (was_told t events
      (subst (All IsHeld) (sym (recycled_legs rules s acts (state_of rules s))) held) h)

  -- from the start, where it is not
  pub is_told : (role : S) (rooms : Rooms) (events : List EndEvent) → AreHeld (begun role rooms)
      → (said role).closing ≡ false
      → (said (after_end_events rules acts (begun role rooms) events).role).closing ≡ true
      → list_any is_close events ≡ true
  is_told role rooms events held none h =
      ap (λ b. b || list_any is_close events) (sym none)
      ∙ was_told (begun role rooms) events held h
