-- a leg of the client comes up once, and has the number of a channel
use Rattle.law_order.proofs.Vocabulary.{◌≡◌, ◌≤◌, ℕ, suc, ◌+◌, ◌==◌, ◌&&◌, ◌||◌, nat_lt, Bool, true, false, true≢false, if◌then◌else◌, List, [], ◌∷◌, ◌++◌, inl, inr, arith, refl, sym, ap, ◌∙◌, subst, append_assoc, append-nil, nat_tests, AllByRecursion}
use Rattle.rh_client.specs.Client as client
use Rattle.law_moves.proofs.Vocabulary.{Cookie, ClientConfig, Leg, LegKind, ClientIn, ClientOut, InServer, OutServer, Shell, may_up, same_leg, EndEvent, Happens, IsGiven, IsTaken, IsClosed, IsRecycled, after_event, after_end_event, after_end_events}
use Rattle.law_moves.proofs.Lemmas.{leg_is}
use Rattle.law_moves.specs.Moving as moving
use Rattle.law_role_client.proofs.Vocabulary.{LAST_NUMBER, ClientRole, is_up, was_up, was_up_by, is_in, is_out}
use Rattle.law_node_history.proofs.Lemmas.{end_accepted_append, happened_append, end_events_append}
use Rattle.law_node_history.proofs.Vocabulary.{AreAcceptedAtEnd, IsAcceptedAtEnd, came_up, happened}
use Rattle.law_node_causes.specs.Numbers.{ClientIsNumbered}
use Rattle.law_node_causes.specs.Once.{WasUp}
use Rattle.law_world_order.proofs.CookiesLeft.Counting.{IsBelow}
use Rattle.law_world_order.proofs.Vocabulary.{legs_up, times}

-- ---- how often a leg comes up

times_append : (leg : Leg) (es fs : List moving.Event)
    → times leg (legs_up (es ++ fs)) ≡ times leg (legs_up es) + times leg (legs_up fs)
times_append leg [] fs = omega arith
times_append leg (moving.ComesUp other cookie ∷ es) fs =
    by (same_leg other leg) (times_append leg es fs)
  where
    by : (b : Bool)
        → times leg (legs_up (es ++ fs)) ≡ times leg (legs_up es) + times leg (legs_up fs)
        → (if b then suc (times leg (legs_up (es ++ fs))) else times leg (legs_up (es ++ fs)))
        ≡ (if b then suc (times leg (legs_up es)) else times leg (legs_up es))
        + times leg (legs_up fs)
    by true rest = omega (arith, rest)
    by false rest = rest
times_append leg (moving.Hears other piece ∷ es) fs = times_append leg es fs
times_append leg (moving.Ends other ∷ es) fs = times_append leg es fs
times_append leg (moving.Breaks other ∷ es) fs = times_append leg es fs
times_append leg (moving.Draws other room ∷ es) fs = times_append leg es fs
times_append leg (moving.Ticks now ∷ es) fs = times_append leg es fs

never_up : (leg : Leg) (events : List moving.Event) → came_up leg events ≡ false
    → times leg (legs_up events) ≡ 0
never_up leg [] none = refl
never_up leg (moving.ComesUp other cookie ∷ events) none =
    by (same_leg other leg) none (never_up leg events)
  where
    by : (b : Bool) → (b || came_up leg events) ≡ false
        → (came_up leg events ≡ false → times leg (legs_up events) ≡ 0)
        → (if b then suc (times leg (legs_up events)) else times leg (legs_up events)) ≡ 0
    by true e rest = absurd (true≢false e)
    by false e rest = rest e
never_up leg (moving.Hears other piece ∷ events) none = never_up leg events none
never_up leg (moving.Ends other ∷ events) none = never_up leg events none
never_up leg (moving.Breaks other ∷ events) none = never_up leg events none
never_up leg (moving.Draws other room ∷ events) none = never_up leg events none
never_up leg (moving.Ticks now ∷ events) none = never_up leg events none

-- ---- the number of a leg that was up

by_number : (n now next last : ℕ) (up next_up under_way : Bool) → now ≤ last
    → (under_way ≡ true → next ≤ last)
    → ((nat_lt 0 n && nat_lt n now)
    || ((n == now && up) || ((under_way && n == next) && next_up))) ≡ true
    → suc n ≤ suc last
by_number n now next last true true true p q h = let r = q refl in grind (arith, nat_tests, h, p, r)
by_number n now next last true false true p q h = grind (arith, nat_tests, h, p)
by_number n now next last false true true p q h =
    let r = q refl in grind (arith, nat_tests, h, p, r)
by_number n now next last false false true p q h = grind (arith, nat_tests, h, p)
by_number n now next last true v false p q h = grind (arith, nat_tests, h, p)
by_number n now next last false v false p q h = grind (arith, nat_tests, h, p)

below_last : (s : ClientRole) (leg : Leg) → ClientIsNumbered s → was_up s leg ≡ true
    → IsBelow (suc LAST_NUMBER) leg
below_last s leg numbers = by leg.kind refl
  where
    by : (kind : LegKind) → leg.kind ≡ kind → was_up_by s leg.number kind ≡ true
        → IsBelow (suc LAST_NUMBER) leg
    by ClientIn is h = record {
      kind = inl is;
      number =
          by_number leg.number s.writing.number s.in_successor.number LAST_NUMBER
          (is_up s.writing.opening) (is_up s.in_successor.opening) (is_in s.replacement)
          numbers.ins.now_last numbers.ins.next_last h;
    }
    by ClientOut is h = record {
      kind = inr is;
      number =
          by_number leg.number s.current.number s.out_successor.number LAST_NUMBER
          (is_up s.current.opening) (is_up s.out_successor.opening) (is_out s.replacement)
          numbers.outs.now_last numbers.outs.next_last h;
    }
    by OutServer is h = absurd (true≢false (sym h))
    by InServer is h = absurd (true≢false (sym h))

-- ---- the laws that this stands on

pub record ClientLaws (config : ClientConfig) : Type 0 where
  pub comes : (events : List EndEvent) (leg : Leg) (cookie : Cookie)
      → (let node = after_end_events client.rules client.acts (client.first_client config) events in
      may_up client.rules node leg ≡ true
      → WasUp client.rules (after_event client.rules node (moving.ComesUp leg cookie)) leg)
  pub numbers : (events : List EndEvent) → ClientIsNumbered
      (after_end_events client.rules client.acts (client.first_client config) events).role
  pub once : (events : List EndEvent) (leg : Leg)
      → AreAcceptedAtEnd client.rules client.acts (client.first_client config) events
      → came_up leg (happened events) ≡ true
      → may_up client.rules
      (after_end_events client.rules client.acts (client.first_client config) events) leg
      ≡ false

module _ (config : ClientConfig) (law : ClientLaws config) where
  abbrev node : List EndEvent → Shell ClientRole
  node events = after_end_events client.rules client.acts (client.first_client config) events

  abbrev Accepted : List EndEvent → Type 0
  Accepted events = AreAcceptedAtEnd client.rules client.acts (client.first_client config) events

  one_below : (front : List EndEvent) (leg : Leg) (cookie : Cookie)
      → may_up client.rules (node front) leg ≡ true → IsBelow (suc LAST_NUMBER) leg
  one_below front leg cookie may =
      let event = Happens (moving.ComesUp leg cookie) in
      let same = end_events_append client.rules client.acts (client.first_client config) front
      (event ∷ []) in
      below_last (after_event client.rules (node front) (moving.ComesUp leg cookie)).role leg
      (subst (λ (s : Shell ClientRole). ClientIsNumbered s.role) same
      (law.numbers (front ++ event ∷ []))) (law.comes front leg cookie may).was_up

  -- ---- behind a front of the events

  next_node : (front : List EndEvent) (event : EndEvent)
      → node (front ++ event ∷ []) ≡ after_end_event client.rules client.acts (node front) event
  next_node front event =
      end_events_append client.rules client.acts (client.first_client config) front (event ∷ [])

  pub all_below : (front later : List EndEvent)
      → AreAcceptedAtEnd client.rules client.acts (node front) later
      → AllByRecursion (IsBelow (suc LAST_NUMBER)) (legs_up (happened later))
  all_below front [] accepted = tt
  all_below front (event ∷ later) accepted =
      by event accepted.0
      (all_below (front ++ event ∷ []) later
      (subst (λ (s : Shell ClientRole). AreAcceptedAtEnd client.rules client.acts s later)
      (sym (next_node front event)) accepted.1))
    where
      by : (event : EndEvent) → IsAcceptedAtEnd client.rules (node front) event
          → AllByRecursion (IsBelow (suc LAST_NUMBER)) (legs_up (happened later))
          → AllByRecursion (IsBelow (suc LAST_NUMBER)) (legs_up (happened (event ∷ later)))
      by (Happens (moving.ComesUp leg cookie)) may rest =
          (one_below front leg cookie may, rest)
      by (Happens (moving.Hears leg piece)) may rest = rest
      by (Happens (moving.Ends leg)) may rest = rest
      by (Happens (moving.Breaks leg)) may rest = rest
      by (Happens (moving.Draws leg room)) may rest = rest
      by (Happens (moving.Ticks now)) may rest = rest
      by (IsGiven pdu) may rest = rest
      by IsTaken may rest = rest
      by IsClosed may rest = rest
      by IsRecycled may rest = rest

  -- ---- and each comes up once

  abbrev often : Leg → List EndEvent → ℕ
  often leg events = times leg (legs_up (happened events))

  often_more : (leg : Leg) (front : List EndEvent) (event : EndEvent)
      → often leg (front ++ event ∷ []) ≡ often leg front + often leg (event ∷ [])
  often_more leg front event =
      ap (λ (es : List moving.Event). times leg (legs_up es))
      (happened_append front (event ∷ []))
      ∙ times_append leg (happened front) (happened (event ∷ []))

  risen_once : (leg other : Leg) (cookie : Cookie) (front : List EndEvent) → Accepted front
      → may_up client.rules (node front) other ≡ true → often leg front ≤ 1
      → often leg front + often leg (Happens (moving.ComesUp other cookie) ∷ []) ≤ 1
  risen_once leg other cookie front accepted may before = by (same_leg other leg) refl
    where
      new : (b : Bool) → came_up leg (happened front) ≡ b
          → may_up client.rules (node front) leg ≡ true → often leg front ≡ 0
      new true up may = absurd (true≢false (sym may ∙ law.once front leg accepted up))
      new false up may = never_up leg (happened front) up

      by : (b : Bool) → same_leg other leg ≡ b
          → often leg front + (if b then 1 else 0) ≤ 1
      by true is =
          let none = new (came_up leg (happened front)) refl
          (subst (λ (l : Leg). may_up client.rules (node front) l ≡ true)
          (leg_is other leg is) may) in
          omega (arith, none)
      by false is = omega (arith, before)

  once_more : (leg : Leg) (front : List EndEvent) (event : EndEvent) → Accepted front
      → IsAcceptedAtEnd client.rules (node front) event → often leg front ≤ 1
      → often leg front + often leg (event ∷ []) ≤ 1
  once_more leg front (Happens (moving.ComesUp other cookie)) accepted may before =
      risen_once leg other cookie front accepted may before
  once_more leg front (Happens (moving.Hears other piece)) accepted may before =
      omega (arith, before)
  once_more leg front (Happens (moving.Ends other)) accepted may before = omega (arith, before)
  once_more leg front (Happens (moving.Breaks other)) accepted may before =
      omega (arith, before)
  once_more leg front (Happens (moving.Draws other room)) accepted may before =
      omega (arith, before)
  once_more leg front (Happens (moving.Ticks now)) accepted may before = omega (arith, before)
  once_more leg front (IsGiven pdu) accepted may before = omega (arith, before)
  once_more leg front IsTaken accepted may before = omega (arith, before)
  once_more leg front IsClosed accepted may before = omega (arith, before)
  once_more leg front IsRecycled accepted may before = omega (arith, before)

  pub all_once : (leg : Leg) (front later : List EndEvent) → Accepted front
      → AreAcceptedAtEnd client.rules client.acts (node front) later → often leg front ≤ 1
      → often leg (front ++ later) ≤ 1
  all_once leg front [] accepted rest before =
      subst (λ (es : List EndEvent). often leg es ≤ 1) (sym (append-nil front)) before
  all_once leg front (event ∷ later) accepted rest before =
      let same = often_more leg front event in
      let one = once_more leg front event accepted rest.0 before in
      subst (λ (es : List EndEvent). often leg es ≤ 1)
      (append_assoc front (event ∷ []) later)
      (all_once leg (front ++ event ∷ []) later
      (end_accepted_append client.rules client.acts (client.first_client config) front
      (event ∷ []) accepted (rest.0, tt))
      (subst (λ (s : Shell ClientRole). AreAcceptedAtEnd client.rules client.acts s later)
      (sym (next_node front event)) rest.1) (omega (arith, same, one)))
