-- a node that closed neither gives nor takes
use Rattle.law_order.proofs.Vocabulary.{◌≡◌, ℕ, List, [], ◌∷◌, refl, rules as all_rules, sym, subst}
use Rattle.rh_shell.specs.Ends.{after_take, close}
use Rattle.law_moves.proofs.Vocabulary.{by_test, Cause, Course, Going, Closed, Refusing, cause_of, give, give_where, recycle, Rules, Acts, Shell, may_up, with_leg, accepted, handed_by, ClosedWith, Stays, Event, ComesUp, Hears, Ends, Breaks, Draws, Ticks, after_event, EndEvent, Happens, IsGiven, IsTaken, IsClosed, IsRecycled, after_end_event}
use Rattle.law_node_streams.specs.Streams.{given_by, taken_by}
use Rattle.law_node_ends.specs.Stops.{NeitherGivesNorTakes}

module _ {S : Type 0} (rules : Rules S) (acts : Acts S)
    (stays : (s : Shell S) (why : Cause) → ClosedWith why s.course → Stays rules s why)
    (why : Cause) where
  abbrev HasClosed : Shell S → Type 0
  HasClosed s = ClosedWith why s.course

  -- ---- it stays closed

  event_kept : (s : Shell S) (event : Event) → HasClosed s → HasClosed (after_event rules s event)
  event_kept s (ComesUp leg cookie) h =
      by_test HasClosed (may_up rules s leg) (with_leg rules s leg cookie) s (λ e. h) (λ e. h)
  event_kept s (Hears leg piece) h =
      subst (λ x. HasClosed x.0) (sym ((stays s why h).bytes leg piece)) h
  event_kept s (Ends leg) h = subst (λ x. HasClosed x.0) (sym ((stays s why h).ended leg)) h
  event_kept s (Breaks leg) h = subst (λ x. HasClosed x.0) (sym ((stays s why h).broken leg)) h
  event_kept s (Draws leg room) h = (stays s why h).draw leg room
  event_kept s (Ticks now) h = subst (λ x. HasClosed x.0) (sym ((stays s why h).tick now)) h

  -- no call of an end changes the course
  given_course : (s : Shell S) (pdu : List ℕ) → (give acts s pdu).0.course ≡ s.course
  given_course s pdu = search all_rules

  take_course : (s : Shell S) → (after_take acts s).course ≡ s.course
  take_course s = search all_rules

  close_course : (s : Shell S) → (close acts s).course ≡ s.course
  close_course s = search all_rules

  recycle_course : (s : Shell S) → (recycle acts rules s).0.course ≡ s.course
  recycle_course s = search all_rules

  end_event_kept : (s : Shell S) (event : EndEvent) → HasClosed s
      → HasClosed (after_end_event rules acts s event)
  end_event_kept s (Happens event) h = event_kept s event h
  end_event_kept s (IsGiven pdu) h = subst (ClosedWith why) (sym (given_course s pdu)) h
  end_event_kept s IsTaken h = subst (ClosedWith why) (sym (take_course s)) h
  end_event_kept s IsClosed h = subst (ClosedWith why) (sym (close_course s)) h
  end_event_kept s IsRecycled h = subst (ClosedWith why) (sym (recycle_course s)) h

  -- ---- nothing is accepted, and nothing handed out

  none_accepted : (s : Shell S) (pdu : List ℕ) (course : Course) → ClosedWith why course
      → accepted pdu (give_where acts s pdu (cause_of course)).1 ≡ []
  none_accepted s pdu Going h = absurd h
  none_accepted s pdu (Closed first) h = refl
  none_accepted s pdu (Refusing first leg rest) h = refl

  none_handed : (s : Shell S) (course : Course) → ClosedWith why course
      → handed_by acts s (cause_of course) ≡ []
  none_handed s Going h = absurd h
  none_handed s (Closed first) h = refl
  none_handed s (Refusing first leg rest) h = refl

  none_given : (s : Shell S) (event : EndEvent) → HasClosed s → given_by acts s event ≡ []
  none_given s (Happens event) h = refl
  none_given s (IsGiven pdu) h = none_accepted s pdu s.course h
  none_given s IsTaken h = refl
  none_given s IsClosed h = refl
  none_given s IsRecycled h = refl

  none_taken : (s : Shell S) (event : EndEvent) → HasClosed s → taken_by acts s event ≡ []
  none_taken s (Happens event) h = refl
  none_taken s (IsGiven pdu) h = refl
  none_taken s IsTaken h = none_handed s s.course h
  none_taken s IsClosed h = refl
  none_taken s IsRecycled h = refl

  pub closed_is_silent : (s : Shell S) (events : List EndEvent) → HasClosed s
      → NeitherGivesNorTakes rules acts s events
  closed_is_silent s [] h = record { given = refl; taken = refl }
  closed_is_silent s (event ∷ events) h =
      let next = after_end_event rules acts s event in
      let later = closed_is_silent next events (end_event_kept s event h) in
      record {
        given = rw (none_given s event h) later.given;
        taken = rw (none_taken s event h) later.taken;
      }
