-- a leg comes up once at an end, under one cookie (MS-RPCH 2.2.3.1)
use Rattle.law_order.proofs.Vocabulary.{◌≡◌, ◌⊎◌, inl, inr, List, [], ◌∷◌, ◌++◌, Bool, true, false, ◌||◌, sym, ap, ◌∙◌, subst}
use Rattle.law_moves.proofs.Vocabulary.{Cookie, Leg, Acts, Rules, Shell, may_up, ComesUp, EndEvent, Happens, IsClosed, IsGiven, IsRecycled, IsTaken, after_end_events, CameUpWith}
use Rattle.law_node_history.proofs.Lemmas.{came_append, end_accepted_append, happened_append, end_events_append, same_itself}
use Rattle.law_node_history.proofs.Vocabulary.{AreAcceptedAtEnd, ComesUpOnceAtEnd, IsAcceptedAtEnd, came_up, happened}
use Rattle.law_node_causes.proofs.Sorts.{or_true}

-- by this event, or by one behind it
by_one : (event : EndEvent) (later : List EndEvent) (leg : Leg) (cookie : Cookie)
    → CameUpWith (happened (event ∷ later)) leg cookie
    → (event ≡ Happens (ComesUp leg cookie)) ⊎ CameUpWith (happened later) leg cookie
by_one (Happens event) later leg cookie (inl is) = inl (ap Happens is)
by_one (Happens event) later leg cookie (inr rest) = inr rest
by_one (IsGiven pdu) later leg cookie came = inr came
by_one IsTaken later leg cookie came = inr came
by_one IsClosed later leg cookie came = inr came
by_one IsRecycled later leg cookie came = inr came

module _ {S : Type 0} (rules : Rules S) (acts : Acts S) (first : Shell S)
    (once : ComesUpOnceAtEnd rules acts first) where
  abbrev after : List EndEvent → Shell S
  after events = after_end_events rules acts first events

  module _ (before : List EndEvent) (event : EndEvent) where
    abbrev more : List EndEvent
    more = before ++ event ∷ []

    up_more : (leg : Leg)
        → came_up leg (happened more)
        ≡ (came_up leg (happened before) || came_up leg (happened (event ∷ [])))
    up_more leg =
        ap (came_up leg) (happened_append before (event ∷ []))
        ∙ came_append leg (happened before) (happened (event ∷ []))

    stays_up : (leg : Leg) → came_up leg (happened before) ≡ true
        → came_up leg (happened more) ≡ true
    stays_up leg rose =
        up_more leg ∙ ap (λ (b : Bool). b || came_up leg (happened (event ∷ []))) rose

    rises : (leg : Leg) (cookie : Cookie) → event ≡ Happens (ComesUp leg cookie)
        → came_up leg (happened more) ≡ true
    rises leg cookie is =
        up_more leg
        ∙ ap (λ (e : EndEvent). came_up leg (happened before) || came_up leg (happened (e ∷ []))) is
        ∙ ap (λ (b : Bool). came_up leg (happened before) || (b || false)) (same_itself leg)
        ∙ or_true (came_up leg (happened before))

    accepts : AreAcceptedAtEnd rules acts first before → IsAcceptedAtEnd rules (after before) event
        → AreAcceptedAtEnd rules acts first more
    accepts accepted one =
        end_accepted_append rules acts first before (event ∷ []) accepted (one, tt)

    goes_on : (later : List EndEvent) → AreAcceptedAtEnd rules acts (after before) (event ∷ later)
        → AreAcceptedAtEnd rules acts (after more) later
    goes_on later rest =
        subst (λ (s : Shell S). AreAcceptedAtEnd rules acts s later)
        (sym (end_events_append rules acts first before (event ∷ []))) rest.1

  -- where it came up before, it does not come up any more
  spent : (before later : List EndEvent) (leg : Leg) (cookie : Cookie)
      → AreAcceptedAtEnd rules acts first before
      → AreAcceptedAtEnd rules acts (after before) later
      → came_up leg (happened before) ≡ true → CameUpWith (happened later) leg cookie → ⊥
  spent before [] leg cookie accepted rest rose came = came
  spent before (event ∷ later) leg cookie accepted rest rose came =
      by (by_one event later leg cookie came)
      (spent (before ++ event ∷ []) later leg cookie (accepts before event accepted rest.0)
      (goes_on before event later rest) (stays_up before event leg rose))
    where
      by : (event ≡ Happens (ComesUp leg cookie)) ⊎ CameUpWith (happened later) leg cookie
          → (CameUpWith (happened later) leg cookie → ⊥) → ⊥
      by (inl is) behind =
          let may : may_up rules (after before) leg ≡ true =
          subst (IsAcceptedAtEnd rules (after before)) is rest.0 in
          let may_not = once.once before leg accepted rose in
          cc
      by (inr came) behind = behind came

  one_cookie : (before later : List EndEvent) (leg : Leg) (a b : Cookie)
      → AreAcceptedAtEnd rules acts first before
      → AreAcceptedAtEnd rules acts (after before) later
      → CameUpWith (happened later) leg a → CameUpWith (happened later) leg b → a ≡ b
  one_cookie before [] leg a b accepted rest came other = absurd came
  one_cookie before (event ∷ later) leg a b accepted rest came other =
      by (by_one event later leg a came) (by_one event later leg b other)
      (one_cookie (before ++ event ∷ []) later leg a b (accepts before event accepted rest.0)
      (goes_on before event later rest))
    where
      no_more : (c d : Cookie) → event ≡ Happens (ComesUp leg c)
          → CameUpWith (happened later) leg d → ⊥
      no_more c d is behind =
          spent (before ++ event ∷ []) later leg d (accepts before event accepted rest.0)
          (goes_on before event later rest) (rises before event leg c is) behind

      by : (event ≡ Happens (ComesUp leg a)) ⊎ CameUpWith (happened later) leg a
          → (event ≡ Happens (ComesUp leg b)) ⊎ CameUpWith (happened later) leg b
          → (CameUpWith (happened later) leg a → CameUpWith (happened later) leg b → a ≡ b)
          → a ≡ b
      by (inl is) (inl same) behind = cc
      by (inl is) (inr later_other) behind = absurd (no_more a b is later_other)
      by (inr later_one) (inl same) behind = absurd (no_more b a same later_one)
      by (inr later_one) (inr later_other) behind = behind later_one later_other

  pub comes_up_under_one : (events : List EndEvent) (leg : Leg) (a b : Cookie)
      → AreAcceptedAtEnd rules acts first events → CameUpWith (happened events) leg a
      → CameUpWith (happened events) leg b → a ≡ b
  comes_up_under_one events leg a b accepted = one_cookie [] events leg a b tt accepted
