-- what holds of each end that a node keeps, whatever happens at it
use Rattle.law_order.proofs.Vocabulary.{◌≡◌, ℕ, zero, suc, List, [], ◌∷◌, ◌++◌, length, drop, take, cond, Bool, true, false, nat_lt, Some, None, refl, subst, ◌&&◌, ◌||◌, not, nat_le, slice_get, slice_set, AllByRecursion, Option, and_parts}
use Rattle.rh_line.specs.declared.cause.Cause.TheVariants as cause
use Rattle.rh_line.specs.declared.state.State.TheVariants as state
use Rattle.rh_shell.specs.NearEnds.{is_empty}
use Rattle.law_moves.proofs.Vocabulary.{Cookie, Refusal, Unavailable, Cause, Leg, State, Course, Going, Closed, Refusing, Rooms, Stop, Drawn, draw, drawn, put_on, begun_now, filled, left_by, next_byte, cause_of, give_where, take_where, close_where, recycle_where, Turn, goes, heard, hear, hear_byte, is_stopped, NearEnd, new_end, marked, is_ended, is_finished, is_marked, is_over, Rules, Acts, put_into, Shell, begun, close, refuse, stop_by, stopped, end_at, with_end, place}
use Rattle.law_moves.proofs.Vocabulary.{free_place, has_room, is_working, state_of, may_up, with_leg, up, seated_at, bytes_at, bytes_by, lose, lost, ended_at, ended_by, wants, is_heard, unreached, unreached_by, broken_at, broken_by, put_back, drawn_at, drawn_by, same_leg, first_silent, passed, passed_by, Event, ComesUp, Hears, Ends, Breaks, Draws, Ticks, after_event, after_events, EndEvent, Happens, IsGiven, IsTaken, IsClosed, IsRecycled, after_end_event, after_end_events}
use Rattle.law_node_causes.specs.Reasons.{StandsIn}

-- ---- lists of ends

module _ (Of : NearEnd → Type 0) where
  each_set : (ends : List NearEnd) (i : ℕ) (new : NearEnd) → AllByRecursion Of ends → Of new
      → AllByRecursion Of (slice_set ends i new)
  each_set [] i new all is = tt
  each_set (x ∷ xs) zero new all is = (is, all.1)
  each_set (x ∷ xs) (suc i) new all is = (all.0, each_set xs i new all.1 is)

  each_behind : (ends : List NearEnd) (new : NearEnd) → AllByRecursion Of ends → Of new
      → AllByRecursion Of (ends ++ new ∷ [])
  each_behind [] new all is = (is, tt)
  each_behind (x ∷ xs) new all is = (all.0, each_behind xs new all.1 is)

  each_seated : (ends : List NearEnd) (at : ℕ) (new : NearEnd) → AllByRecursion Of ends → Of new
      → AllByRecursion Of (seated_at ends at new)
  each_seated ends at new all is = by (nat_lt at (length ends))
    where
      by : (t : Bool) → AllByRecursion Of (cond t (slice_set ends at new) (ends ++ new ∷ []))
      by true = each_set ends at new all is
      by false = each_behind ends new all is

  place_so : (ends : List NearEnd) (i : ℕ) (end : NearEnd) → slice_get ends i ≡ Some end
      → AllByRecursion Of ends → Of end
  place_so [] i end at all = absurd cc
  place_so (x ∷ xs) zero end at all = let same : x ≡ end = cc in subst Of same all.0
  place_so (x ∷ xs) (suc i) end at all = place_so xs i end at all.1

  pub each_there : (ends : List NearEnd) (end : NearEnd) → AllByRecursion Of ends
      → StandsIn ends end → Of end
  each_there ends end all there = place_so ends there.place end there.at all

-- ---- a piece

-- what each byte keeps that is heard, all of them keep
module _ {S : Type 0} (rules : Rules S) (now : ℕ) (Holds : Turn S → Type 0)
    (hears : (t : Turn S) (b : ℕ) → Holds t → Holds (heard rules now t.end t.role b)) where
  byte_so : (t : Turn S) (b : ℕ) → Holds t → Holds (hear_byte rules now t b)
  unfolding hear_byte
  byte_so t b is = by (is_stopped t.stop || is_over rules t.end t.role)
    where
      by : (deaf : Bool) → Holds (cond deaf t (heard rules now t.end t.role b))
      by true = is
      by false = hears t b is

  pub piece_so : (t : Turn S) (piece : List ℕ) → Holds t → Holds (hear rules now t piece)
  unfolding hear
  piece_so t [] is = is
  piece_so t (b ∷ bs) is = piece_so (hear_byte rules now t b) bs (byte_so t b is)

-- ---- a node

-- an end is so as it comes up, and stays so by each byte that is heard; it is so by its leg and by
-- what came there
pub record StaysSo {S : Type 0} (rules : Rules S) (Of : NearEnd → Type 0) : Type 0 where
  pub comes : (role : S) (leg : Leg) (now : ℕ) → rules.may_up role leg ≡ true
      → Of (new_end leg (rules.pipe role leg) now)
  pub hears : (now : ℕ) (end : NearEnd) (role : S) (b : ℕ) → Of end
      → Of (heard rules now end role b).end
  pub like : (a b : NearEnd) → a.leg ≡ b.leg → a.intake ≡ b.intake → Of b → Of a

module _ {S : Type 0} (rules : Rules S) (Of : NearEnd → Type 0) (so : StaysSo rules Of) where
  -- ---- bytes are drawn

  module _ (now : ℕ) where
    begun_so : (end : NearEnd) (text : List ℕ) → Of end → Of (begun_now now end text)
    begun_so end [] is = is
    begun_so end (b ∷ bs) is = so.like (begun_now now end (b ∷ bs)) end refl refl is

    filled_so : (end : NearEnd) (role : S) → Of end → Of (filled rules now end role).end
    filled_so end role is = by (is_empty end.begun && not (is_over rules end role))
      where
        put : S × List ℕ
        put = put_into role (rules.put role end.leg)

        by : (t : Bool) → Of (cond t (put_on now end put) (drawn end role [])).end
        by true = begun_so end put.1 is
        by false = is

    left_so : (end : NearEnd) (role : S) (bs : List ℕ) → Of end
        → Of (left_by rules end role bs).end
    left_so end role [] is = so.like (record end { begun = [] }) end refl refl is
    left_so end role (b ∷ bs) is = so.like (record end { begun = b ∷ bs }) end refl refl is

    more_so : (f : Drawn S) (bytes : List ℕ) (more : NearEnd → S → Drawn S) → Of f.end
        → ((end : NearEnd) (role : S) → Of end → Of (more end role).end)
        → Of (next_byte rules f bytes more).end
    more_so f [] more is rest = is
    more_so f (b ∷ bs) more is rest =
        let left = left_by rules f.end f.role bs in
        rest left.end left.role (left_so f.end f.role bs is)

    draw_so : (n : ℕ) (end : NearEnd) (role : S) → Of end → Of (draw rules now n end role).end
    unfolding draw
    draw_so zero end role is = is
    draw_so (suc n) end role is =
        let f = filled rules now end role in
        more_so f f.end.begun (draw rules now n) (filled_so end role is) (draw_so n)

  -- ---- what happens

  abbrev pub AreSo : Shell S → Type 0
  AreSo s = AllByRecursion Of s.legs

  either : (b : Bool) (t u : Shell S) → AreSo t → AreSo u → AreSo (cond b t u)
  either true t u p q = p
  either false t u p q = q

  pair : (b : Bool) (t u : Shell S × List ℕ) → AreSo t.0 → AreSo u.0 → AreSo (cond b t u).0
  pair true t u p q = p
  pair false t u p q = q

  stop_so : (t : Shell S) (leg : Leg) (why : Cause) (o : Option Refusal) → AreSo t
      → AreSo (stop_by t leg why o)
  stop_so t leg why None is = is
  stop_so t leg why (Some refusal) is = is

  stopped_so : (t : Shell S) (leg : Leg) (o : Option Stop) → AreSo t → AreSo (stopped t leg o)
  stopped_so t leg None is = is
  stopped_so t leg (Some stop) is = stop_so t leg stop.cause stop.refusal is

  module _ (s : Shell S) (all : AreSo s) where
    one : (leg : Leg) (end : NearEnd) (role : S) → Of end → AreSo (with_end s leg end role)
    one leg end role is = each_set Of s.legs (place leg s.legs) end all is

    here : (leg : Leg) (end : NearEnd) → end_at s leg ≡ Some end → Of end
    here leg end at = place_so Of s.legs (place leg s.legs) end at all

    comes_up : (leg : Leg) (cookie : Cookie) → AreSo (up rules s leg cookie)
    comes_up leg cookie = by (may_up rules s leg) refl
      where
        by : (t : Bool) → may_up rules s leg ≡ t → AreSo (cond t (with_leg rules s leg cookie) s)
        by false e = all
        by true e =
            let room = (and_parts (is_working rules s)
            (has_room rules s leg.kind && rules.may_up s.role leg) e).1 in
            each_seated Of s.legs (free_place rules s.role leg.kind s.legs)
            (new_end leg (rules.pipe s.role leg) s.now) all
            (so.comes s.role leg s.now
            (and_parts (has_room rules s leg.kind) (rules.may_up s.role leg) room).1)

    hears : (leg : Leg) (piece : List ℕ) → AreSo (bytes_by rules s leg piece s.course)
    hears leg piece = by_course s.course
      where
        by_end : (o : Option NearEnd) → end_at s leg ≡ o → AreSo (bytes_at rules s leg piece o)
        by_end None at = all
        by_end (Some end) at =
            let t = hear rules s.now (goes end s.role) piece in
            stopped_so (with_end s leg t.end t.role) leg t.stop
            (one leg t.end t.role
            (piece_so rules s.now (λ (u : Turn S). Of u.end)
            (λ u b is. so.hears s.now u.end u.role b is) (goes end s.role) piece
            (here leg end at)))

        by_course : (c : Course) → AreSo (bytes_by rules s leg piece c)
        by_course Going = by_end (end_at s leg) refl
        by_course (Closed why) = all
        by_course (Refusing why client rest) = all

    loses : (leg : Leg) (end : NearEnd) (why : Cause) → end_at s leg ≡ Some end
        → AreSo (lost rules s leg end why)
    loses leg end why at =
        let is = so.like (marked end) end refl refl (here leg end at) in
        either (is_finished rules s.role end) s (lose rules s leg end why) all
        (either (is_ended (rules.phase s.role)) _ _ (one leg (marked end) s.role is)
        (either (rules.only_marks s.role leg) _ (close s why)
        (one leg (marked end) (rules.mark s.role leg) is) all))

    ends : (leg : Leg) → AreSo (ended_by rules s leg s.course)
    ends leg = by_course s.course
      where
        by_end : (o : Option NearEnd) → end_at s leg ≡ o → AreSo (ended_at rules s leg o)
        by_end None at = all
        by_end (Some end) at = loses leg end (cause.LegEnded leg (length end.intake.held)) at

        by_course : (c : Course) → AreSo (ended_by rules s leg c)
        by_course Going = by_end (end_at s leg) refl
        by_course (Closed why) = all
        by_course (Refusing why client rest) = all

    breaks : (leg : Leg) → AreSo (broken_by rules s leg s.course)
    breaks leg = by_course s.course
      where
        by_client : (o : Option Leg) → AreSo (unreached_by s (cause.LegBroken leg) o)
        by_client None = all
        by_client (Some client) =
            either (is_heard (end_at s client)) (refuse s (cause.LegBroken leg) client Unavailable)
            (close s (cause.LegBroken leg)) all all

        by_end : (o : Option NearEnd) → end_at s leg ≡ o → AreSo (broken_at rules s leg o)
        by_end None at =
            either (wants rules s leg) (unreached rules s leg) s
            (by_client (rules.answers_on s.role)) all
        by_end (Some end) at = loses leg end (cause.LegBroken leg) at

        by_course : (c : Course) → AreSo (broken_by rules s leg c)
        by_course Going = by_end (end_at s leg) refl
        by_course (Closed why) = all
        by_course (Refusing why client rest) = all

    draws : (leg : Leg) (n : ℕ) → AreSo (drawn_by rules s leg n s.course).0
    draws leg n = by_course s.course
      where
        by_end : (o : Option NearEnd) → end_at s leg ≡ o → AreSo (drawn_at rules s leg n o).0
        by_end None at = all
        by_end (Some end) at =
            let d = draw rules s.now n end s.role in
            pair (is_marked end.standing) (s, []) (put_back s leg d) all
            (one leg d.end d.role (draw_so s.now n end s.role (here leg end at)))

        by_course : (c : Course) → AreSo (drawn_by rules s leg n c).0
        by_course Going = by_end (end_at s leg) refl
        by_course (Closed why) = all
        by_course (Refusing why client rest) =
            pair (same_leg client leg)
            (record s { course = Refusing why client (drop n rest) }, take n rest) (s, []) all all

    ticks : (now : ℕ) → AreSo (after_event rules s (Ticks now))
    ticks now =
        either (is_working rules s && nat_le s.now now) (passed rules (record s { now = now })) s
        (by (first_silent rules s.role now s.legs None)) all
      where
        by : (o : Option (Leg × ℕ)) → AreSo (passed_by rules (record s { now = now }) o)
        by None = all
        by (Some silent) = all

    pub event_so : (event : Event) → AreSo (after_event rules s event)
    event_so (ComesUp leg cookie) = comes_up leg cookie
    event_so (Hears leg piece) = hears leg piece
    event_so (Ends leg) = ends leg
    event_so (Breaks leg) = breaks leg
    event_so (Draws leg n) = draws leg n
    event_so (Ticks now) = ticks now

    -- the calls of an end leave its legs as they are
    module _ (acts : Acts S) where
      given_so : (pdu : List ℕ) (o : Option Cause) → AreSo (give_where acts s pdu o).0
      given_so pdu None = all
      given_so pdu (Some why) = all

      taken_so : (o : Option Cause) → AreSo (take_where acts s o)
      taken_so None = all
      taken_so (Some why) = all

      closed_so : (o : Option Cause) → AreSo (close_where acts s o)
      closed_so None = all
      closed_so (Some why) = all

      recycled_so : (of : State) → AreSo (recycle_where acts s of).0
      recycled_so state.Open = all
      recycled_so state.Opening = all
      recycled_so state.Ended = all
      recycled_so (state.Closed why) = all

      end_event_so : (event : EndEvent) → AreSo (after_end_event rules acts s event)
      end_event_so (Happens event) = event_so event
      end_event_so (IsGiven pdu) = given_so pdu (cause_of s.course)
      end_event_so IsTaken = taken_so (cause_of s.course)
      end_event_so IsClosed = closed_so (cause_of s.course)
      end_event_so IsRecycled = recycled_so (state_of rules s)

  -- ---- over events

  run_so : (s : Shell S) (events : List Event) → AreSo s → AreSo (after_events rules s events)
  run_so s [] all = all
  run_so s (event ∷ events) all =
      run_so (after_event rules s event) events (event_so s all event)

  pub new_so : (role : S) (rooms : Rooms) (events : List Event)
      → AreSo (after_events rules (begun role rooms) events)
  new_so role rooms events = run_so (begun role rooms) events tt

  module _ (acts : Acts S) where
    end_run_so : (s : Shell S) (events : List EndEvent) → AreSo s
        → AreSo (after_end_events rules acts s events)
    end_run_so s [] all = all
    end_run_so s (event ∷ events) all =
        end_run_so (after_end_event rules acts s event) events (end_event_so s all acts event)

    pub new_end_so : (role : S) (rooms : Rooms) (events : List EndEvent)
        → AreSo (after_end_events rules acts (begun role rooms) events)
    new_end_so role rooms events = end_run_so (begun role rooms) events tt
