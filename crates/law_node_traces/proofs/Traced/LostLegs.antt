-- a node that closed because a leg broke was told so
use Rattle.law_order.proofs.Vocabulary.{◌≡◌, ℕ, List, [], Bool, true, false, if◌then◌else◌, Some, None, refl, sym, ap, ◌∙◌, subst, Option, true≢false}
use Rattle.rh_line.specs.declared.cause.Cause.TheVariants as cause
use Rattle.rh_line.specs.declared.state.Verdict.TheVariants as verdict
use Rattle.rh_shell.specs.declared.answers.Phase.TheVariants as phase
use Rattle.rh_company.specs.Telling.{told}
use Rattle.law_moves.proofs.Vocabulary.{Cookie, Cause, Leg, Verdict, Phase, Course, Going, Closed, Refusing, draw, NearEnd, is_marked, Rules, Shell, state_by, state_of, verdict_by, with_verdict, may_up, with_leg, end_at, drawn_at, drawn_by, put_back, ClosedWith, after_event, after_events}
use Rattle.law_moves.specs.Moving as moving
use Rattle.law_node_history.proofs.Vocabulary.{Event, Comes, Ends, Breaks, Passes, cause_in, closing, heard}
use Rattle.law_node_causes.specs.Closings.{ClosesWith}

pub one_cause : (c : Course) (a b : Cause) → ClosedWith a c → ClosedWith b c → a ≡ b
one_cause Going a b h k = absurd h
one_cause (Closed first) a b h k = sym h ∙ k
one_cause (Refusing first leg rest) a b h k = sym h ∙ k

closing_is : (p : Phase) (v : Verdict) (why : Cause) → v ≡ verdict.Closed why
    → closing (state_by Going p) v ≡ Some why
closing_is phase.Opening v why e = ap cause_in e
closing_is phase.Open v why e = ap cause_in e
closing_is phase.Ended v why e = ap cause_in e

-- ---- a node that goes on

abbrev pub is_news : moving.Event → Bool
is_news (moving.ComesUp leg cookie) = false
is_news (moving.Draws leg room) = false
is_news event = true

module _ {S : Type 0} (rules : Rules S) (s : Shell S) (going : s.course ≡ Going) where
  draws : (other : Leg) (room : ℕ)
      → (after_event rules s (moving.Draws other room)).course ≡ Going
  draws other room =
      ap (λ c. (drawn_by rules s other room c).0.course) going ∙ by_end (end_at s other)
    where
      by_mark : (end : NearEnd) (t : Bool)
          → (if t then (s, []) else
          put_back s other (draw rules s.now room end s.role)).0.course ≡ Going
      by_mark end true = going
      by_mark end false = going

      by_end : (o : Option NearEnd) → (drawn_at rules s other room o).0.course ≡ Going
      by_end None = going
      by_end (Some end) = by_mark end (is_marked end.standing)

  comes_up : (other : Leg) (cookie : Cookie)
      → (after_event rules s (moving.ComesUp other cookie)).course ≡ Going
  comes_up other cookie = by (may_up rules s other)
    where
      by : (t : Bool) → (if t then with_leg rules s other cookie else s).course ≡ Going
      by true = going
      by false = going

  -- what is no news of a leg or of time leaves it going
  pub goes_on : (e : moving.Event) → is_news e ≡ false → (after_event rules s e).course ≡ Going
  goes_on (moving.ComesUp other cookie) q = comes_up other cookie
  goes_on (moving.Draws other room) q = draws other room
  goes_on (moving.Hears other piece) q = absurd (true≢false q)
  goes_on (moving.Ends other) q = absurd (true≢false q)
  goes_on (moving.Breaks other) q = absurd (true≢false q)
  goes_on (moving.Ticks now) q = absurd (true≢false q)

-- an event that closes a node is told it
pub record ClosesNow {S : Type 0} (rules : Rules S) (s : Shell S) (why : Cause) (e : moving.Event)
    : Type 0 where
  pub news : Event
  pub is : heard news ≡ e
  pub closing : ClosesWith rules s news why

module _ {S : Type 0} (rules : Rules S) (s : Shell S) (going : s.course ≡ Going) (why : Cause) where
  verdict_is : (t : Shell S) → ClosedWith why t.course
      → verdict_by (state_of rules t) ≡ verdict.Closed why
  verdict_is t h = by t.course h
    where
      by : (c : Course) → ClosedWith why c
          → verdict_by (state_by c (rules.phase t.role)) ≡ verdict.Closed why
      by Going h = absurd h
      by (Closed first) h = ap verdict.Closed h
      by (Refusing first leg rest) h = ap verdict.Closed h

  -- what closes a node that goes on closes it with the cause that it has then
  closes : (t : Shell S) → ClosedWith why t.course
      → (told (state_of rules s) (with_verdict rules t)).1 ≡ Some why
  closes t h =
      ap (λ c. closing (state_by c (rules.phase s.role)) (verdict_by (state_of rules t))) going
      ∙ closing_is (rules.phase s.role) (verdict_by (state_of rules t)) why (verdict_is t h)

  pub closes_now : (e : moving.Event) → ClosedWith why (after_event rules s e).course
      → ClosesNow rules s why e
  closes_now (moving.ComesUp other cookie) h =
      absurd (subst (ClosedWith why) (comes_up rules s going other cookie) h)
  closes_now (moving.Hears other piece) h = record {
    news = Comes other piece;
    is = refl;
    closing = closes (after_event rules s (moving.Hears other piece)) h;
  }
  closes_now (moving.Ends other) h = record {
    news = Ends other;
    is = refl;
    closing = closes (after_event rules s (moving.Ends other)) h;
  }
  closes_now (moving.Breaks other) h = record {
    news = Breaks other;
    is = refl;
    closing = closes (after_event rules s (moving.Breaks other)) h;
  }
  closes_now (moving.Draws other room) h =
      absurd (subst (ClosedWith why) (draws rules s going other room) h)
  closes_now (moving.Ticks now) h = record {
    news = Passes now;
    is = refl;
    closing = closes (after_event rules s (moving.Ticks now)) h;
  }

-- ---- a node that closed

module _ {S : Type 0} (rules : Rules S)
    (comes_from : (node : Shell S) (event : Event) (leg : Leg)
    → ClosesWith rules node event (cause.LegBroken leg) → event ≡ Breaks leg)
    (kept : (node : Shell S) (why : Cause) (later : List moving.Event)
    → ClosedWith why node.course → ClosedWith why (after_events rules node later).course) where
  pub broke_now : (s : Shell S) → s.course ≡ Going → (leg : Leg) (e : moving.Event)
      → ClosedWith (cause.LegBroken leg) (after_event rules s e).course → e ≡ moving.Breaks leg
  broke_now s going leg e h =
      let now = closes_now rules s going (cause.LegBroken leg) e h in
      sym now.is ∙ ap heard (comes_from s now.news leg now.closing)
