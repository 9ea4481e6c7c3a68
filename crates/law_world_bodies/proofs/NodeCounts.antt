-- what a node counts behind a head is what it heard behind it, over all that happens there
use Rattle.law_order.proofs.Vocabulary.{◌≡◌, ℕ, zero, suc, List, [], ◌∷◌, ◌++◌, append_assoc, length, cond, Bool, true, false, ◌&&◌, not, nat_lt, nat_le, Some, None, refl, sym, ap, ◌∙◌, subst, AllByRecursion, slice_get, slice_set, Option, append-nil, fun_ext}
use Rattle.rh_line.specs.declared.cause.Cause.TheVariants as cause
use Rattle.rh_line.specs.declared.state.State.TheVariants as state
use Rattle.rh_shell.specs.NearEnds.{is_empty}
use Rattle.rh_shell.specs.declared.stage.Stage.TheVariants as stage
use Rattle.law_moves.proofs.Vocabulary.{by_test, Cookie, Pipe, Refusal, each_push, Cause, Leg, State, Course, Going, Closed, Refusing, Stop, Drawn, draw, filled, left_by, next_byte, put_on, cause_of, close_where, give_where, recycle_where, take_where, goes, hear, Intake, NearEnd, is_finished, is_ended, is_marked, is_over, marked, new_end, Rules, Acts, put_into, Shell, bytes_at, bytes_by, close, drawn_at, drawn_by, end_at, ended_at, ended_by, broken_at, broken_by, first_silent}
use Rattle.law_moves.proofs.Vocabulary.{free_place, is_heard, is_working, lose, lost, may_up, passed_by, place, same_leg, state_of, stop_by, stopped, ticked, unreached_by, up, wants, with_end, with_leg, ClosedWith, Event, EndEvent, Happens, IsGiven, IsTaken, IsClosed, IsRecycled, after_event, after_events, after_end_event, after_end_events}
use Rattle.law_moves.proofs.Lemmas.{leg_is}
use Rattle.law_moves.specs.Moving as moving
use Rattle.law_node_history.proofs.Lemmas.{same_itself}
use Rattle.law_node_history.proofs.Vocabulary.{happened, heard_in, heard_on}
use Rattle.law_node_streams.proofs.Streams.Ends.{end_is, end_leg, end_of}
use Rattle.law_world_bodies.proofs.Behind.{IsBehind, OverIs, StopIs, Waited, body_more, bytes_heard}
use Rattle.law_world_bodies.specs.Behind.{BodyIs, HasBody}

-- ---- lists of ends

each_set : {X : Type 0} (P : X → Type 0) (xs : List X) (i : ℕ) (new : X) → AllByRecursion P xs
    → P new → AllByRecursion P (slice_set xs i new)
each_set P [] i new all one = tt
each_set P (x ∷ xs) zero new all one = (one, all.1)
each_set P (x ∷ xs) (suc i) new all one = (all.0, each_set P xs i new all.1 one)

each_as : {X : Type 0} (P Q : X → Type 0) → ((x : X) → P x → Q x) → (xs : List X)
    → AllByRecursion P xs → AllByRecursion Q xs
each_as P Q so [] all = tt
each_as P Q so (x ∷ xs) all = (so x all.0, each_as P Q so xs all.1)

each_of : (P : NearEnd → Type 0) (leg : Leg) (ends : List NearEnd) (end : NearEnd)
    → end_of leg ends ≡ Some end → AllByRecursion P ends → P end
each_of P leg [] end at all = absurd (cc)
each_of P leg (x ∷ xs) end at all =
    by (same_leg x.leg leg) (λ e. each_of P leg xs end e all.1) at
  where
    by : (t : Bool) → (end_of leg xs ≡ Some end → P end)
        → cond t (Some x) (end_of leg xs) ≡ Some end → P end
    by true rest e = let same : x ≡ end = cc in subst P same all.0
    by false rest e = rest e

-- ---- drawing keeps what comes

record IsKept (a b : NearEnd) : Type 0 where
  leg : b.leg ≡ a.leg
  intake : b.intake ≡ a.intake

module _ {S : Type 0} (rules : Rules S) (now : ℕ) where
  kept : (end : NearEnd) → IsKept end end
  kept end = record { leg = refl; intake = refl }

  kept_then : (a b c : NearEnd) → IsKept a b → IsKept b c → IsKept a c
  kept_then a b c one two =
      record { leg = two.leg ∙ one.leg; intake = two.intake ∙ one.intake }

  put_kept : (end : NearEnd) (role : S) (bytes : List ℕ)
      → IsKept end (put_on now end (role, bytes)).end
  put_kept end role [] = kept end
  put_kept end role (b ∷ bytes) = record { leg = refl; intake = refl }

  filled_kept : (end : NearEnd) (role : S) → IsKept end (filled rules now end role).end
  filled_kept end role =
      by_test (λ (d : Drawn S). IsKept end d.end)
      (is_empty end.begun && not (is_over rules end role)) _ _
      (λ e. put_kept end (put_into role (rules.put role end.leg)).0
      (put_into role (rules.put role end.leg)).1) (λ e. kept end)

  left_kept : (end : NearEnd) (role : S) (bytes : List ℕ)
      → IsKept end (left_by rules end role bytes).end
  left_kept end role [] = record { leg = refl; intake = refl }
  left_kept end role (b ∷ bytes) = record { leg = refl; intake = refl }

  next_kept : (f : Drawn S) (bytes : List ℕ) (more : NearEnd → S → Drawn S)
      → ((end : NearEnd) (role : S) → IsKept end (more end role).end)
      → IsKept f.end (next_byte rules f bytes more).end
  next_kept f [] more keeps = kept f.end
  next_kept f (b ∷ bytes) more keeps =
      let left = left_by rules f.end f.role bytes in
      kept_then f.end left.end (more left.end left.role).end (left_kept f.end f.role bytes)
      (keeps left.end left.role)

  draw_kept : (n : ℕ) (end : NearEnd) (role : S) → IsKept end (draw rules now n end role).end
  unfolding draw
  draw_kept zero end role = kept end
  draw_kept (suc n) end role =
      let f = filled rules now end role in
      kept_then end f.end (next_byte rules f f.end.begun (draw rules now n)).end
      (filled_kept end role) (next_kept f f.end.begun (draw rules now n) (draw_kept n))

-- ---- an event

-- the bytes that were heard on each leg
abbrev pub Heards : Type 0
Heards = Leg → List ℕ

abbrev pub heard_then : Heards → Event → Heards
heard_then heard event = λ leg. heard leg ++ heard_in leg event

module _ {S : Type 0} (rules : Rules S) (pipe : Leg → Option Pipe) where
  abbrev EndIs : Heards → NearEnd → Type 0
  EndIs heard end = BodyIs rules (pipe end.leg) end.leg (heard end.leg) end.intake.body

  abbrev pub AreBehind : Heards → List NearEnd → Type 0
  AreBehind heard legs = AllByRecursion (EndIs heard) legs

  -- where a head is waited for, all bytes are held
  abbrev pub WaitsAt : Heards → Shell S → Type 0
  WaitsAt heard s =
      (leg : Leg) (end : NearEnd) → s.course ≡ Going → end_at s leg ≡ Some end
      → is_over rules end s.role ≡ false → end.intake.stage ≡ stage.Head
      → Waited (pipe leg) (heard leg) end.intake.held

  -- an end of a leg among these
  pub end_behind : (heard : Heards) (leg : Leg) (ends : List NearEnd) (end : NearEnd)
      → slice_get ends (place leg ends) ≡ Some end → AreBehind heard ends
      → BodyIs rules (pipe leg) leg (heard leg) end.intake.body
  end_behind heard leg ends end at all =
      let found : end_of leg ends ≡ Some end = sym (end_is leg ends) ∙ at in
      subst (λ (l : Leg). BodyIs rules (pipe l) l (heard l) end.intake.body)
      (leg_is end.leg leg (end_leg leg ends end found))
      (each_of (EndIs heard) leg ends end found all)

  later : (heard : Heards) (event : Event) (ends : List NearEnd) → AreBehind heard ends
      → AreBehind (heard_then heard event) ends
  later heard event ends all =
      each_as (EndIs heard) (EndIs (heard_then heard event)) (λ end.
      body_more rules (pipe end.leg) end.leg (heard end.leg) (heard_in end.leg event)
      end.intake.body) ends all

  -- an end in the place of one of the same leg and with the same intake
  put_there : (heard : Heards) (leg : Leg) (ends : List NearEnd) (end new : NearEnd)
      → slice_get ends (place leg ends) ≡ Some end → IsKept end new → AreBehind heard ends
      → AreBehind heard (slice_set ends (place leg ends) new)
  put_there heard leg ends end new at keeps all =
      each_set (EndIs heard) ends (place leg ends) new all
      (subst (λ (l : Leg). BodyIs rules (pipe l) l (heard l) new.intake.body) (sym keeps.leg)
      (subst (λ (i : Intake). BodyIs rules (pipe end.leg) end.leg (heard end.leg) i.body)
      (sym keeps.intake)
      (each_of (EndIs heard) leg ends end (sym (end_is leg ends) ∙ at) all)))

  -- ---- a piece

  -- what a piece makes of an end
  turn_behind : (heard : Heards) (s : Shell S) (leg : Leg) (end : NearEnd) (piece : List ℕ)
      → WaitsAt heard s → AreBehind heard s.legs → s.course ≡ Going
      → end_at s leg ≡ Some end
      → IsBehind rules (pipe leg) leg (heard leg ++ piece)
      (hear rules s.now (goes end s.role) piece)
  turn_behind heard s leg end piece waits all going at =
      bytes_heard rules (pipe leg) leg s.now (heard leg) piece (goes end s.role) (record {
        leg_is = here;
        waits = waits leg end going at;
        body = end_behind heard leg s.legs end at all;
        stop_is = tt;
      })
    where
      here : end.leg ≡ leg
      here = leg_is end.leg leg (end_leg leg s.legs end (sym (end_is leg s.legs) ∙ at))

  stop_legs : (s : Shell S) (leg : Leg) (o : Option Stop) → (stopped s leg o).legs ≡ s.legs
  stop_legs s leg None = refl
  stop_legs s leg (Some first) = by first.refusal
    where
      by : (r : Option Refusal) → (stop_by s leg first.cause r).legs ≡ s.legs
      by None = refl
      by (Some refusal) = refl

  piece_behind : (heard : Heards) (s : Shell S) (leg : Leg) (piece : List ℕ) → WaitsAt heard s
      → AreBehind heard s.legs
      → AreBehind (heard_then heard (moving.Hears leg piece))
      (bytes_by rules s leg piece s.course).legs
  piece_behind heard s leg piece waits all = by s.course refl
    where
      after : Heards
      after = heard_then heard (moving.Hears leg piece)

      old : AreBehind after s.legs
      old = later heard (moving.Hears leg piece) s.legs all

      at_end : s.course ≡ Going → (o : Option NearEnd) → end_at s leg ≡ o
          → AreBehind after (bytes_at rules s leg piece o).legs
      at_end going None at = old
      at_end going (Some end) at =
          let t = hear rules s.now (goes end s.role) piece in
          let is = turn_behind heard s leg end piece waits all going at in
          let heard_here : heard leg ++ piece ≡ after leg =
          ap (λ (b : Bool). heard leg ++ cond b piece []) (sym (same_itself leg)) in
          subst (AreBehind after)
          (sym (stop_legs (with_end s leg t.end t.role) leg t.stop))
          (each_set (EndIs after) s.legs (place leg s.legs) t.end old
          (subst (λ (l : Leg). BodyIs rules (pipe l) l (after l) t.end.intake.body) (sym is.leg_is)
          (subst (λ (h : List ℕ). BodyIs rules (pipe leg) leg h t.end.intake.body) heard_here
          is.body)))

      by : (c : Course) → s.course ≡ c → AreBehind after (bytes_by rules s leg piece c).legs
      by Going e = at_end e (end_at s leg) refl
      by (Closed why) e = old
      by (Refusing why client rest) e = old

  -- ---- other events, by which nothing more is heard

  module _ (heard : Heards) (s : Shell S) (all : AreBehind heard s.legs) where
    abbrev Same : Shell S → Type 0
    Same t = AreBehind heard t.legs

    up_behind : (leg : Leg) (cookie : Cookie) → Same (up rules s leg cookie)
    up_behind leg cookie =
        by_test Same (may_up rules s leg) (with_leg rules s leg cookie) s (λ e.
        by_test (AreBehind heard)
        (nat_lt (free_place rules s.role leg.kind s.legs) (length s.legs)) _ _
        (λ t. each_set (EndIs heard) s.legs (free_place rules s.role leg.kind s.legs)
        (new_end leg (rules.pipe s.role leg) s.now) all tt)
        (λ t. each_push (EndIs heard) s.legs (new_end leg (rules.pipe s.role leg) s.now) all tt))
        (λ e. all)

    lost_behind : (leg : Leg) (end : NearEnd) (why : Cause) → end_at s leg ≡ Some end
        → Same (lost rules s leg end why)
    lost_behind leg end why at =
        by_test Same (is_finished rules s.role end) s (lose rules s leg end why) (λ e. all)
        (λ e. by_test Same (is_ended (rules.phase s.role))
        (with_end s leg (marked end) s.role) _ (λ t. gone)
        (λ t. by_test Same (rules.only_marks s.role leg)
        (with_end s leg (marked end) (rules.mark s.role leg)) (close s why) (λ o. gone)
        (λ o. all)))
      where
        gone : AreBehind heard (slice_set s.legs (place leg s.legs) (marked end))
        gone = put_there heard leg s.legs end (marked end) at
            (record { leg = refl; intake = refl }) all

    ended_behind : (leg : Leg) → Same (ended_by rules s leg s.course)
    ended_behind leg = by s.course
      where
        at_end : (o : Option NearEnd) → end_at s leg ≡ o → Same (ended_at rules s leg o)
        at_end None at = all
        at_end (Some end) at =
            lost_behind leg end (cause.LegEnded leg (length end.intake.held)) at

        by : (c : Course) → Same (ended_by rules s leg c)
        by Going = at_end (end_at s leg) refl
        by (Closed why) = all
        by (Refusing why client rest) = all

    broken_behind : (leg : Leg) → Same (broken_by rules s leg s.course)
    broken_behind leg = by s.course
      where
        unreached_same : (o : Option Leg) → Same (unreached_by s (cause.LegBroken leg) o)
        unreached_same None = all
        unreached_same (Some client) =
            by_test Same (is_heard (end_at s client)) _ _ (λ e. all) (λ e. all)

        at_end : (o : Option NearEnd) → end_at s leg ≡ o → Same (broken_at rules s leg o)
        at_end None at =
            by_test Same (wants rules s leg) _ s (λ e. unreached_same (rules.answers_on s.role))
            (λ e. all)
        at_end (Some end) at = lost_behind leg end (cause.LegBroken leg) at

        by : (c : Course) → Same (broken_by rules s leg c)
        by Going = at_end (end_at s leg) refl
        by (Closed why) = all
        by (Refusing why client rest) = all

    drawn_behind : (leg : Leg) (room : ℕ) → Same (drawn_by rules s leg room s.course).0
    drawn_behind leg room = by s.course
      where
        at_end : (o : Option NearEnd) → end_at s leg ≡ o → Same (drawn_at rules s leg room o).0
        at_end None at = all
        at_end (Some end) at =
            by_test (λ (x : Shell S × List ℕ). Same x.0) (is_marked end.standing) _ _ (λ e. all)
            (λ e. put_there heard leg s.legs end (draw rules s.now room end s.role).end at
            (draw_kept rules s.now room end s.role) all)

        by : (c : Course) → Same (drawn_by rules s leg room c).0
        by Going = at_end (end_at s leg) refl
        by (Closed why) = all
        by (Refusing why client rest) =
            by_test (λ (x : Shell S × List ℕ). Same x.0) (same_leg client leg) _ _ (λ e. all)
            (λ e. all)

    ticked_behind : (now : ℕ) → Same (ticked rules s now)
    ticked_behind now =
        by_test Same (is_working rules s && nat_le s.now now) _ s
        (λ e. by (first_silent rules s.role now s.legs None)) (λ e. all)
      where
        by : (o : Option (Leg × ℕ)) → Same (passed_by rules (record s { now = now }) o)
        by None = all
        by (Some silent) = all

  event_behind : (heard : Heards) (s : Shell S) (event : Event) → WaitsAt heard s
      → AreBehind heard s.legs
      → AreBehind (heard_then heard event) (after_event rules s event).legs
  event_behind heard s (moving.ComesUp leg cookie) waits all =
      later heard (moving.ComesUp leg cookie) (up rules s leg cookie).legs
      (up_behind heard s all leg cookie)
  event_behind heard s (moving.Hears leg piece) waits all =
      piece_behind heard s leg piece waits all
  event_behind heard s (moving.Ends leg) waits all =
      later heard (moving.Ends leg) (ended_by rules s leg s.course).legs
      (ended_behind heard s all leg)
  event_behind heard s (moving.Breaks leg) waits all =
      later heard (moving.Breaks leg) (broken_by rules s leg s.course).legs
      (broken_behind heard s all leg)
  event_behind heard s (moving.Draws leg room) waits all =
      later heard (moving.Draws leg room) (drawn_by rules s leg room s.course).0.legs
      (drawn_behind heard s all leg room)
  event_behind heard s (moving.Ticks now) waits all =
      later heard (moving.Ticks now) (ticked rules s now).legs (ticked_behind heard s all now)

  -- ---- all events

  abbrev pub heard_all : Heards → List Event → Heards
  heard_all heard events = λ leg. heard leg ++ heard_on leg events

  regrouped : (heard : Heards) (event : Event) (events : List Event)
      → heard_all (heard_then heard event) events ≡ heard_all heard (event ∷ events)
  regrouped heard event events =
      fun_ext (λ leg. append_assoc (heard leg) (heard_in leg event) (heard_on leg events))

  none_more : (heard : Heards) → heard ≡ (λ leg. heard leg ++ [])
  none_more heard = fun_ext (λ leg. sym (append-nil (heard leg)))

  pub events_behind : (heard : Heards) (s : Shell S) (events : List Event)
      → ((front back : List Event) → front ++ back ≡ events
      → WaitsAt (heard_all heard front) (after_events rules s front))
      → AreBehind heard s.legs
      → AreBehind (heard_all heard events) (after_events rules s events).legs
  events_behind heard s [] waits all =
      subst (λ (h : Heards). AreBehind h s.legs) (none_more heard) all
  events_behind heard s (event ∷ events) waits all =
      subst (λ (h : Heards). AreBehind h (after_events rules s (event ∷ events)).legs)
      (regrouped heard event events)
      (events_behind (heard_then heard event) (after_event rules s event) events
      (λ front back e.
      subst (λ (h : Heards). WaitsAt h (after_events rules s (event ∷ front)))
      (sym (regrouped heard event front))
      (waits (event ∷ front) back (ap (λ (x : List Event). event ∷ x) e)))
      (event_behind heard s event
      (subst (λ (h : Heards). WaitsAt h s) (sym (none_more heard)) (waits [] (event ∷ events) refl))
      all))

  -- ---- and at an end, whose acts are nothing to its legs

  module _ (acts : Acts S) where
    abbrev act_same : Shell S → EndEvent → Type 0
    act_same s act = (after_end_event rules acts s act).legs ≡ s.legs

    given_same : (s : Shell S) (pdu : List ℕ) → act_same s (IsGiven pdu)
    given_same s pdu = by (cause_of s.course)
      where
        by : (o : Option Cause) → (give_where acts s pdu o).0.legs ≡ s.legs
        by None = refl
        by (Some why) = refl

    taken_same : (s : Shell S) → act_same s IsTaken
    taken_same s = by (cause_of s.course)
      where
        by : (o : Option Cause) → (take_where acts s o).legs ≡ s.legs
        by None = refl
        by (Some why) = refl

    closed_same : (s : Shell S) → act_same s IsClosed
    closed_same s = by (cause_of s.course)
      where
        by : (o : Option Cause) → (close_where acts s o).legs ≡ s.legs
        by None = refl
        by (Some why) = refl

    recycled_same : (s : Shell S) → act_same s IsRecycled
    recycled_same s = by (state_of rules s)
      where
        by : (o : State) → (recycle_where acts s o).0.legs ≡ s.legs
        by state.Open = refl
        by state.Opening = refl
        by state.Ended = refl
        by (state.Closed why) = refl

    abbrev EndWaits : Heards → Shell S → List EndEvent → Type 0
    EndWaits heard s events =
        (front back : List EndEvent) → front ++ back ≡ events
        → WaitsAt (heard_all heard (happened front)) (after_end_events rules acts s front)

    pub end_events_behind : (heard : Heards) (s : Shell S) (events : List EndEvent)
        → EndWaits heard s events → AreBehind heard s.legs
        → AreBehind (heard_all heard (happened events))
        (after_end_events rules acts s events).legs
    end_events_behind heard s [] waits all =
        subst (λ (h : Heards). AreBehind h s.legs) (none_more heard) all
    end_events_behind heard s (Happens event ∷ events) waits all =
        subst (λ (h : Heards). AreBehind h
        (after_end_events rules acts s (Happens event ∷ events)).legs)
        (regrouped heard event (happened events))
        (end_events_behind (heard_then heard event) (after_event rules s event) events
        (λ front back e.
        subst (λ (h : Heards). WaitsAt h (after_end_events rules acts s (Happens event ∷ front)))
        (sym (regrouped heard event (happened front)))
        (waits (Happens event ∷ front) back (ap (λ (x : List EndEvent). Happens event ∷ x) e)))
        (event_behind heard s event
        (subst (λ (h : Heards). WaitsAt h s) (sym (none_more heard))
        (waits [] (Happens event ∷ events) refl)) all))
    end_events_behind heard s (IsGiven pdu ∷ events) waits all =
        end_events_behind heard (after_end_event rules acts s (IsGiven pdu)) events
        (λ front back e.
        waits (IsGiven pdu ∷ front) back (ap (λ (x : List EndEvent). IsGiven pdu ∷ x) e))
        (subst (AreBehind heard) (sym (given_same s pdu)) all)
    end_events_behind heard s (IsTaken ∷ events) waits all =
        end_events_behind heard (after_end_event rules acts s IsTaken) events
        (λ front back e. waits (IsTaken ∷ front) back (ap (λ (x : List EndEvent). IsTaken ∷ x) e))
        (subst (AreBehind heard) (sym (taken_same s)) all)
    end_events_behind heard s (IsClosed ∷ events) waits all =
        end_events_behind heard (after_end_event rules acts s IsClosed) events
        (λ front back e.
        waits (IsClosed ∷ front) back (ap (λ (x : List EndEvent). IsClosed ∷ x) e))
        (subst (AreBehind heard) (sym (closed_same s)) all)
    end_events_behind heard s (IsRecycled ∷ events) waits all =
        end_events_behind heard (after_end_event rules acts s IsRecycled) events
        (λ front back e.
        waits (IsRecycled ∷ front) back (ap (λ (x : List EndEvent). IsRecycled ∷ x) e))
        (subst (AreBehind heard) (sym (recycled_same s)) all)

  -- ---- closing

  over_by : (heard : List ℕ) (s : Shell S) (leg other : Leg) (count told : ℕ) (o : Option Stop)
      → s.course ≡ Going → StopIs rules (pipe leg) leg heard o
      → ClosedWith (cause.BodyOver other count told) (stopped s leg o).course
      → (other ≡ leg) × HasBody rules (pipe leg) leg heard (suc told) told
  over_by heard s leg other count told None going is closed =
      absurd (subst (ClosedWith (cause.BodyOver other count told)) going closed)
  over_by heard s leg other count told (Some first) going is closed = by first.refusal closed
    where
      by : (r : Option Refusal)
          → ClosedWith (cause.BodyOver other count told) (stop_by s leg first.cause r).course
          → (other ≡ leg) × HasBody rules (pipe leg) leg heard (suc told) told
      by None same = subst (OverIs rules (pipe leg) leg heard) same is
      by (Some refusal) same = subst (OverIs rules (pipe leg) leg heard) same is

  pub over_behind : (heard : Heards) (s : Shell S) (leg other : Leg) (piece : List ℕ)
      (count told : ℕ) → WaitsAt heard s → AreBehind heard s.legs → s.course ≡ Going
      → ClosedWith (cause.BodyOver other count told) (bytes_by rules s leg piece s.course).course
      → (other ≡ leg) × HasBody rules (pipe leg) leg (heard leg ++ piece) (suc told) told
  over_behind heard s leg other piece count told waits all going closed =
      at_end (end_at s leg) refl
      (subst (λ (c : Course). ClosedWith why (bytes_by rules s leg piece c).course) going closed)
    where
      why : Cause
      why = cause.BodyOver other count told

      at_end : (o : Option NearEnd) → end_at s leg ≡ o
          → ClosedWith why (bytes_at rules s leg piece o).course
          → (other ≡ leg) × HasBody rules (pipe leg) leg (heard leg ++ piece) (suc told) told
      at_end None at is = absurd (subst (ClosedWith why) going is)
      at_end (Some end) at is =
          let t = hear rules s.now (goes end s.role) piece in
          over_by (heard leg ++ piece) (with_end s leg t.end t.role) leg other count told t.stop
          going (turn_behind heard s leg end piece waits all going at).stop_is is
