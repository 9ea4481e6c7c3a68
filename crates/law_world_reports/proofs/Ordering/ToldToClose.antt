-- an end gives no more only where it was told so
use Rattle.rh_text.specs.declared.ends.Side.TheVariants as side
use Rattle.law_order.proofs.Vocabulary.{◌≡◌, ℕ, List, [], ◌∷◌, true, Some, None, refl, sym, ap, ◌∙◌, ◌⊎◌, inl, inr, ⊎_elim, Option}
use Rattle.rh_line.specs.declared.state.State.TheVariants as state
use Rattle.rh_record.specs.Events.Events.{Event, Gives, Takes, Ends, Closes}
use Rattle.rh_shell.specs.Ends as ends
use Rattle.law_moves.proofs.Vocabulary.{Side, Cause, State, cause_of, Rules, Acts, Shell, state_of, Move, Passage, all_moved, moved, started, AreHeld, EndEvent, Follows, Happens, IsGiven, IsTaken, IsClosed, IsRecycled, after_end_event, after_end_events, after_event}
use Rattle.law_moves.specs.Moving as moving
use Rattle.law_node_history.proofs.Vocabulary.{Refuses, Stops, Silent, IsOneOf}
use Rattle.law_node_ends.proofs.Stops.Stays.{Said, StaysSaid, move_said}
use Rattle.law_world_reports.proofs.Vocabulary.{all_stopped, stopped}

-- ---- an end of a role that keeps to its rules

module _ {S : Type 0} (rules : Rules S) (acts : Acts S) (said : S → Said)
    (law : StaysSaid rules acts said)
    (give : (s : S) (pdu : List ℕ) → said (acts.give s pdu).0 ≡ said s)
    (follows : (p : Passage S) (s : Shell S) (event : moving.Event) → p.role ≡ s.role → AreHeld s
    → Follows rules p (after_event rules s event))
    (held : (s : Shell S) (event : EndEvent) → AreHeld s
    → AreHeld (after_end_event rules acts s event)) where
  abbrev IsTold : Shell S → Type 0
  IsTold s = (said s.role).closing ≡ true

  moves_said : (p : Passage S) (moves : List Move)
      → said (all_moved rules p moves).role ≡ said p.role
  moves_said p [] = refl
  moves_said p (move ∷ moves) =
      moves_said (moved rules p move) moves ∙ move_said rules acts said law p move

  happens_said : (s : Shell S) (event : moving.Event) → AreHeld s
      → said (after_event rules s event).role ≡ said s.role
  happens_said s event h =
      let f = follows (started s.role) s event refl h in
      sym (ap said f.role)
      ∙ sym (ap (λ (p : Passage S). said p.role) f.leads.reached)
      ∙ moves_said (started s.role) f.leads.moves

  give_said : (s : Shell S) (pdu : List ℕ) (o : Option Cause)
      → said (ends.give_where acts s pdu o).0.role ≡ said s.role
  give_said s pdu (Some why) = refl
  give_said s pdu None = give s.role pdu

  take_said : (s : Shell S) (o : Option Cause)
      → said (ends.take_where acts s o).role ≡ said s.role
  take_said s (Some why) = refl
  take_said s None = law.take s.role

  recycle_said : (s : Shell S) (at : State)
      → said (ends.recycle_where acts s at).0.role ≡ said s.role
  recycle_said s state.Opening = refl
  recycle_said s state.Open = law.recycle s.role
  recycle_said s state.Ended = refl
  recycle_said s (state.Closed why) = refl

  back : (s t : Shell S) (event : EndEvent) → said t.role ≡ said s.role → IsTold t
      → IsTold s ⊎ (event ≡ IsClosed)
  back s t event same told = inl (ap (λ (x : Said). x.closing) (sym same) ∙ told)

  told_before : (s : Shell S) (event : EndEvent) → AreHeld s
      → IsTold (after_end_event rules acts s event) → IsTold s ⊎ (event ≡ IsClosed)
  told_before s (Happens event) h =
      back s (after_event rules s event) (Happens event) (happens_said s event h)
  told_before s (IsGiven pdu) h =
      back s (ends.give acts s pdu).0 (IsGiven pdu) (give_said s pdu (cause_of s.course))
  told_before s IsTaken h =
      back s (ends.after_take acts s) IsTaken (take_said s (cause_of s.course))
  told_before s IsClosed h = λ told. inr refl
  told_before s IsRecycled h =
      back s (ends.recycle acts rules s).0 IsRecycled (recycle_said s (state_of rules s))

  pub told_by_events : (s : Shell S) (events : List EndEvent) → AreHeld s
      → IsTold (after_end_events rules acts s events) → IsTold s ⊎ IsOneOf IsClosed events
  told_by_events s [] h told = inl told
  told_by_events s (event ∷ events) h told =
      ⊎_elim (λ now. ⊎_elim (λ before. inl before) (λ is. inr (inl is)) (told_before s event h now))
      (λ later. inr (inr later))
      (told_by_events (after_end_event rules acts s event) events (held s event h) told)

-- ---- the events of a report

-- it is logged
logged : (events : List EndEvent) → IsOneOf IsClosed events
    → (rest : List (List ℕ)) × (all_stopped events ≡ [] ∷ rest)
logged [] there = absurd there
logged (IsClosed ∷ events) there = (all_stopped events, refl)
logged (Happens event ∷ events) (inl here) = absurd cc
logged (Happens event ∷ events) (inr there) = logged events there
logged (IsGiven pdu ∷ events) (inl here) = absurd cc
logged (IsGiven pdu ∷ events) (inr there) = logged events there
logged (IsTaken ∷ events) (inl here) = absurd cc
logged (IsTaken ∷ events) (inr there) = logged events there
logged (IsRecycled ∷ events) (inl here) = absurd cc
logged (IsRecycled ∷ events) (inr there) = logged events there

-- and what is told so is one of the events
stop_told : (end : Side) (front : List Event) (rest : List (List ℕ))
    → stopped end front ≡ [] ∷ rest → IsOneOf (Stops end) front
stop_told end [] rest e = absurd cc
stop_told side.Client (Stops side.Client ∷ front) rest e = inl refl
stop_told side.Client (Stops side.Server ∷ front) rest e =
    inr (stop_told side.Client front rest e)
stop_told side.Server (Stops side.Client ∷ front) rest e =
    inr (stop_told side.Server front rest e)
stop_told side.Server (Stops side.Server ∷ front) rest e = inl refl
stop_told end (Gives at ∷ front) rest e = inr (stop_told end front rest e)
stop_told end (Refuses at ∷ front) rest e = inr (stop_told end front rest e)
stop_told end (Takes at pdu ∷ front) rest e = inr (stop_told end front rest e)
stop_told end (Ends at ∷ front) rest e = inr (stop_told end front rest e)
stop_told end (Closes at ∷ front) rest e = inr (stop_told end front rest e)
stop_told end (Silent ∷ front) rest e = inr (stop_told end front rest e)

pub stops_are_told : (end : Side) (front : List Event) (events : List EndEvent)
    → stopped end front ≡ all_stopped events → IsOneOf IsClosed events
    → IsOneOf (Stops end) front
stops_are_told end front events agree there =
    let log = logged events there in
    stop_told end front log.0 (agree ∙ log.1)
