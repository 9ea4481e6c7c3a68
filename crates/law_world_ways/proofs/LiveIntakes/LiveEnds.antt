-- what a node that goes on keeps is read, whatever happens there
use Rattle.law_order.proofs.Vocabulary.{◌≡◌, ℕ, zero, suc, List, [], ◌∷◌, ◌++◌, append_assoc, length, cond, Bool, true, false, ◌&&◌, not, nat_lt, nat_le, Some, None, refl, sym, ap, ◌∙◌, subst, AllByRecursion, slice_get, slice_set, Option, append-nil, fun_ext}
use Rattle.rh_line.specs.declared.cause.Cause.TheVariants as cause
use Rattle.rh_line.specs.declared.state.State.TheVariants as state
use Rattle.rh_shell.specs.NearEnds.{is_empty}
use Rattle.rh_shell.specs.declared.stage.Stage.TheVariants as stage
use Rattle.law_moves.proofs.Vocabulary.{by_test, Cookie, Pipe, Refusal, each_push, Cause, Leg, State, Course, Going, Closed, Refusing, Stop, Drawn, draw, filled, left_by, next_byte, put_on, cause_of, close_where, give_where, recycle_where, take_where, Turn, goes, hear, is_stopped, Intake, NearEnd, is_finished, is_ended, is_marked, is_over, marked, new_end, Rules, Acts, put_into, Shell, bytes_at, bytes_by, close, drawn_at, drawn_by, end_at, ended_at, ended_by, broken_at}
use Rattle.law_moves.proofs.Vocabulary.{broken_by, first_silent, free_place, is_heard, is_working, lose, lost, may_up, passed_by, place, same_leg, state_of, stop_by, stopped, ticked, unreached_by, up, wants, with_end, with_leg, Event, EndEvent, Happens, IsGiven, IsTaken, IsClosed, IsRecycled, after_event, after_events, after_end_event, after_end_events, begin}
use Rattle.law_moves.proofs.Lemmas.{leg_is}
use Rattle.law_moves.specs.Moving as moving
use Rattle.law_node_history.proofs.Lemmas.{same_itself}
use Rattle.law_node_history.proofs.Vocabulary.{happened, heard_in, heard_on}
use Rattle.law_node_streams.proofs.Streams.Ends.{end_is, end_leg, end_of}
use Rattle.law_node_streams.proofs.Streams.Heads.{Waited}
use Rattle.law_node_streams.proofs.Streams.Kept.{first_live}
use Rattle.law_node_streams.specs.Streams.{is_live}
use Rattle.law_world_ways.proofs.LiveIntakes.LiveBytes.{BringsFrames, ReadsOn, brings_less, bytes_heard}
use Rattle.law_world_ways.specs.LiveIntakes.{ReadsLeg}

-- ---- lists of ends

each_set : {X : Type 0} (P : X → Type 0) (xs : List X) (i : ℕ) (new : X) → AllByRecursion P xs
    → P new → AllByRecursion P (slice_set xs i new)
each_set P [] i new all one = tt
each_set P (x ∷ xs) zero new all one = (one, all.1)
each_set P (x ∷ xs) (suc i) new all one = (all.0, each_set P xs i new all.1 one)

each_as : {X : Type 0} (P Q : X → Type 0) → ((x : X) → P x → Q x) → (xs : List X)
    → AllByRecursion P xs → AllByRecursion Q xs
each_as P Q so [] all = tt
each_as P Q so (x ∷ xs) all = (so x all.0, each_as P Q so xs all.1)

each_of : (P : NearEnd → Type 0) (leg : Leg) (ends : List NearEnd) (end : NearEnd)
    → end_of leg ends ≡ Some end → AllByRecursion P ends → P end
each_of P leg [] end at all = absurd cc
each_of P leg (x ∷ xs) end at all =
    by (same_leg x.leg leg) (λ e. each_of P leg xs end e all.1) at
  where
    by : (t : Bool) → (end_of leg xs ≡ Some end → P end)
        → cond t (Some x) (end_of leg xs) ≡ Some end → P end
    by true rest e = let same : x ≡ end = cc in subst P same all.0
    by false rest e = rest e

-- ---- drawing keeps what comes

record IsKept (a b : NearEnd) : Type 0 where
  leg : b.leg ≡ a.leg
  intake : b.intake ≡ a.intake

module _ {S : Type 0} (rules : Rules S) (now : ℕ) where
  kept : (end : NearEnd) → IsKept end end
  kept end = record { leg = refl; intake = refl }

  kept_then : (a b c : NearEnd) → IsKept a b → IsKept b c → IsKept a c
  kept_then a b c one two =
      record { leg = two.leg ∙ one.leg; intake = two.intake ∙ one.intake }

  put_kept : (end : NearEnd) (role : S) (bytes : List ℕ)
      → IsKept end (put_on now end (role, bytes)).end
  put_kept end role [] = kept end
  put_kept end role (b ∷ bytes) = record { leg = refl; intake = refl }

  filled_kept : (end : NearEnd) (role : S) → IsKept end (filled rules now end role).end
  filled_kept end role =
      by_test (λ (d : Drawn S). IsKept end d.end)
      (is_empty end.begun && not (is_over rules end role)) _ _
      (λ e. put_kept end (put_into role (rules.put role end.leg)).0
      (put_into role (rules.put role end.leg)).1) (λ e. kept end)

  left_kept : (end : NearEnd) (role : S) (bytes : List ℕ)
      → IsKept end (left_by rules end role bytes).end
  left_kept end role [] = record { leg = refl; intake = refl }
  left_kept end role (b ∷ bytes) = record { leg = refl; intake = refl }

  next_kept : (f : Drawn S) (bytes : List ℕ) (more : NearEnd → S → Drawn S)
      → ((end : NearEnd) (role : S) → IsKept end (more end role).end)
      → IsKept f.end (next_byte rules f bytes more).end
  next_kept f [] more keeps = kept f.end
  next_kept f (b ∷ bytes) more keeps =
      let left = left_by rules f.end f.role bytes in
      kept_then f.end left.end (more left.end left.role).end (left_kept f.end f.role bytes)
      (keeps left.end left.role)

  draw_kept : (n : ℕ) (end : NearEnd) (role : S) → IsKept end (draw rules now n end role).end
  unfolding draw
  draw_kept zero end role = kept end
  draw_kept (suc n) end role =
      let f = filled rules now end role in
      kept_then end f.end (next_byte rules f f.end.begun (draw rules now n)).end
      (filled_kept end role) (next_kept f f.end.begun (draw rules now n) (draw_kept n))

-- ---- an event

-- the bytes that were heard on each leg
abbrev pub Heards : Type 0
Heards = Leg → List ℕ

abbrev pub heard_then : Heards → Event → Heards
heard_then heard event = λ leg. heard leg ++ heard_in leg event

module _ {S : Type 0} (rules : Rules S) (pipe : Leg → Option Pipe) where
  abbrev pub EndIs : Heards → NearEnd → Type 0
  EndIs heard end =
      BringsFrames rules (pipe end.leg) end.leg (heard end.leg) → is_live end.intake.stage ≡ true

  abbrev pub AreRead : Heards → List NearEnd → Type 0
  AreRead heard ends = AllByRecursion (EndIs heard) ends

  -- while the node goes on, each end reads on if no head brings anything but frames
  abbrev pub Lives : Heards → Shell S → Type 0
  Lives heard s = s.course ≡ Going → AreRead heard s.legs

  -- where a head is waited for, all bytes are held
  abbrev pub WaitsAt : Heards → Shell S → Type 0
  WaitsAt heard s =
      (leg : Leg) (end : NearEnd) → s.course ≡ Going → end_at s leg ≡ Some end
      → is_over rules end s.role ≡ false → end.intake.stage ≡ stage.Head
      → Waited (begin (pipe leg)) (heard leg) end.intake.held

  -- an end of a leg among these
  end_read : (heard : Heards) (leg : Leg) (ends : List NearEnd) (end : NearEnd)
      → slice_get ends (place leg ends) ≡ Some end → AreRead heard ends
      → BringsFrames rules (pipe leg) leg (heard leg) → is_live end.intake.stage ≡ true
  end_read heard leg ends end at all =
      let found : end_of leg ends ≡ Some end = sym (end_is leg ends) ∙ at in
      subst (λ (l : Leg). BringsFrames rules (pipe l) l (heard l)
      → is_live end.intake.stage ≡ true) (leg_is end.leg leg (end_leg leg ends end found))
      (each_of (EndIs heard) leg ends end found all)

  later : (heard : Heards) (event : Event) (ends : List NearEnd) → AreRead heard ends
      → AreRead (heard_then heard event) ends
  later heard event ends all =
      each_as (EndIs heard) (EndIs (heard_then heard event)) (λ end live brings.
      live (brings_less rules (pipe end.leg) end.leg (heard end.leg) (heard_in end.leg event)
      brings)) ends all

  -- an end in the place of one of the same leg and with the same intake
  put_there : (heard : Heards) (leg : Leg) (ends : List NearEnd) (end new : NearEnd)
      → slice_get ends (place leg ends) ≡ Some end → IsKept end new → AreRead heard ends
      → AreRead heard (slice_set ends (place leg ends) new)
  put_there heard leg ends end new at keeps all =
      each_set (EndIs heard) ends (place leg ends) new all
      (subst (λ (l : Leg). BringsFrames rules (pipe l) l (heard l)
      → is_live new.intake.stage ≡ true) (sym keeps.leg)
      (subst (λ (i : Intake). BringsFrames rules (pipe end.leg) end.leg (heard end.leg)
      → is_live i.stage ≡ true) (sym keeps.intake)
      (each_of (EndIs heard) leg ends end (sym (end_is leg ends) ∙ at) all)))

  -- ---- a piece

  module _ (heard : Heards) (s : Shell S) (leg : Leg) (piece : List ℕ)
      (waits : WaitsAt heard s) (lives : Lives heard s) where
    abbrev after : Heards
    after = heard_then heard (moving.Hears leg piece)

    old : Lives after s
    old going = later heard (moving.Hears leg piece) s.legs (lives going)

    -- what it makes of an end
    turn_read : (end : NearEnd) → s.course ≡ Going → end_at s leg ≡ Some end
        → ReadsOn rules (pipe leg) leg (heard leg ++ piece)
        (hear rules s.now (goes end s.role) piece)
    turn_read end going at =
        bytes_heard rules (pipe leg) leg s.now (heard leg) piece (goes end s.role) (record {
          leg_is = leg_is end.leg leg (end_leg leg s.legs end (sym (end_is leg s.legs) ∙ at));
          waits = waits leg end going at;
          live = λ go. end_read heard leg s.legs end at (lives going);
        })

    heard_here : heard leg ++ piece ≡ after leg
    heard_here = ap (λ (b : Bool). heard leg ++ cond b piece []) (sym (same_itself leg))

    turned_read : (t : Turn S) → s.course ≡ Going → ReadsOn rules (pipe leg) leg (after leg) t
        → (o : Option Stop) → t.stop ≡ o
        → Lives after (stopped (with_end s leg t.end t.role) leg o)
    turned_read t going is None on = λ still.
        each_set (EndIs after) s.legs (place leg s.legs) t.end (old going)
        (subst (λ (l : Leg). BringsFrames rules (pipe l) l (after l)
        → is_live t.end.intake.stage ≡ true) (sym is.leg_is) (is.live (ap is_stopped on)))
    turned_read t going is (Some why) on = by why.refusal
      where
        by : (r : Option Refusal)
            → Lives after (stop_by (with_end s leg t.end t.role) leg why.cause r)
        by None = λ still. absurd cc
        by (Some refusal) = λ still. absurd cc

    piece_lives : Lives after (bytes_by rules s leg piece s.course)
    piece_lives = by s.course refl
      where
        at_end : s.course ≡ Going → (o : Option NearEnd) → end_at s leg ≡ o
            → Lives after (bytes_at rules s leg piece o)
        at_end going None at = old
        at_end going (Some end) at =
            let t = hear rules s.now (goes end s.role) piece in
            turned_read t going
            (subst (λ (h : List ℕ). ReadsOn rules (pipe leg) leg h t) heard_here
            (turn_read end going at)) t.stop refl

        by : (c : Course) → s.course ≡ c → Lives after (bytes_by rules s leg piece c)
        by Going e = at_end e (end_at s leg) refl
        by (Closed why) e = old
        by (Refusing why client rest) e = old

  -- ---- other events, by which nothing more is heard

  module _ (heard : Heards) (s : Shell S) (lives : Lives heard s) where
    abbrev Same : Shell S → Type 0
    Same t = Lives heard t

    closed : (why : Cause) → Same (close s why)
    closed why = λ still. absurd cc

    up_lives : (leg : Leg) (cookie : Cookie) → Same (up rules s leg cookie)
    up_lives leg cookie =
        by_test Same (may_up rules s leg) (with_leg rules s leg cookie) s (λ e going.
        by_test (AreRead heard)
        (nat_lt (free_place rules s.role leg.kind s.legs) (length s.legs)) _ _
        (λ t. each_set (EndIs heard) s.legs (free_place rules s.role leg.kind s.legs)
        (new_end leg (rules.pipe s.role leg) s.now) (lives going)
        (λ brings. first_live (rules.pipe s.role leg)))
        (λ t. each_push (EndIs heard) s.legs (new_end leg (rules.pipe s.role leg) s.now)
        (lives going) (λ brings. first_live (rules.pipe s.role leg)))) (λ e. lives)

    lost_lives : (leg : Leg) (end : NearEnd) (why : Cause) → end_at s leg ≡ Some end
        → Same (lost rules s leg end why)
    lost_lives leg end why at =
        by_test Same (is_finished rules s.role end) s (lose rules s leg end why) (λ e. lives)
        (λ e. by_test Same (is_ended (rules.phase s.role))
        (with_end s leg (marked end) s.role) _ (λ t. gone)
        (λ t. by_test Same (rules.only_marks s.role leg)
        (with_end s leg (marked end) (rules.mark s.role leg)) (close s why) (λ o. gone)
        (λ o. closed why)))
      where
        gone : s.course ≡ Going → AreRead heard (slice_set s.legs (place leg s.legs) (marked end))
        gone going =
            put_there heard leg s.legs end (marked end) at
            (record { leg = refl; intake = refl }) (lives going)

    ended_lives : (leg : Leg) → Same (ended_by rules s leg s.course)
    ended_lives leg = by s.course
      where
        at_end : (o : Option NearEnd) → end_at s leg ≡ o → Same (ended_at rules s leg o)
        at_end None at = lives
        at_end (Some end) at =
            lost_lives leg end (cause.LegEnded leg (length end.intake.held)) at

        by : (c : Course) → Same (ended_by rules s leg c)
        by Going = at_end (end_at s leg) refl
        by (Closed why) = lives
        by (Refusing why client rest) = lives

    broken_lives : (leg : Leg) → Same (broken_by rules s leg s.course)
    broken_lives leg = by s.course
      where
        unreached_lives : (o : Option Leg) → Same (unreached_by s (cause.LegBroken leg) o)
        unreached_lives None = closed (cause.LegBroken leg)
        unreached_lives (Some client) =
            by_test Same (is_heard (end_at s client)) _ _ (λ e still. absurd cc)
            (λ e. closed (cause.LegBroken leg))

        at_end : (o : Option NearEnd) → end_at s leg ≡ o → Same (broken_at rules s leg o)
        at_end None at =
            by_test Same (wants rules s leg) _ s (λ e. unreached_lives (rules.answers_on s.role))
            (λ e. lives)
        at_end (Some end) at = lost_lives leg end (cause.LegBroken leg) at

        by : (c : Course) → Same (broken_by rules s leg c)
        by Going = at_end (end_at s leg) refl
        by (Closed why) = lives
        by (Refusing why client rest) = lives

    drawn_lives : (leg : Leg) (room : ℕ) → Same (drawn_by rules s leg room s.course).0
    drawn_lives leg room = by s.course
      where
        at_end : (o : Option NearEnd) → end_at s leg ≡ o → Same (drawn_at rules s leg room o).0
        at_end None at = lives
        at_end (Some end) at =
            by_test (λ (x : Shell S × List ℕ). Same x.0) (is_marked end.standing) _ _ (λ e. lives)
            (λ e going. put_there heard leg s.legs end (draw rules s.now room end s.role).end at
            (draw_kept rules s.now room end s.role) (lives going))

        by : (c : Course) → Same (drawn_by rules s leg room c).0
        by Going = at_end (end_at s leg) refl
        by (Closed why) = lives
        by (Refusing why client rest) =
            by_test (λ (x : Shell S × List ℕ). Same x.0) (same_leg client leg) _ _
            (λ e still. absurd cc) (λ e. lives)

    ticked_lives : (now : ℕ) → Same (ticked rules s now)
    ticked_lives now =
        by_test Same (is_working rules s && nat_le s.now now) _ s
        (λ e. by (first_silent rules s.role now s.legs None)) (λ e. lives)
      where
        by : (o : Option (Leg × ℕ)) → Same (passed_by rules (record s { now = now }) o)
        by None = lives
        by (Some silent) = λ still. absurd cc

  -- where nothing more is heard
  heard_as : (heard : Heards) (event : Event) (t : Shell S) → Lives heard t
      → Lives (heard_then heard event) t
  heard_as heard event t lives = λ going. later heard event t.legs (lives going)

  event_lives : (heard : Heards) (s : Shell S) (event : Event) → WaitsAt heard s
      → Lives heard s → Lives (heard_then heard event) (after_event rules s event)
  event_lives heard s (moving.ComesUp leg cookie) waits lives =
      heard_as heard (moving.ComesUp leg cookie) (up rules s leg cookie)
      (up_lives heard s lives leg cookie)
  event_lives heard s (moving.Hears leg piece) waits lives =
      piece_lives heard s leg piece waits lives
  event_lives heard s (moving.Ends leg) waits lives =
      heard_as heard (moving.Ends leg) (ended_by rules s leg s.course)
      (ended_lives heard s lives leg)
  event_lives heard s (moving.Breaks leg) waits lives =
      heard_as heard (moving.Breaks leg) (broken_by rules s leg s.course)
      (broken_lives heard s lives leg)
  event_lives heard s (moving.Draws leg room) waits lives =
      heard_as heard (moving.Draws leg room) (drawn_by rules s leg room s.course).0
      (drawn_lives heard s lives leg room)
  event_lives heard s (moving.Ticks now) waits lives =
      heard_as heard (moving.Ticks now) (ticked rules s now) (ticked_lives heard s lives now)

  -- ---- all events

  abbrev pub heard_all : Heards → List Event → Heards
  heard_all heard events = λ leg. heard leg ++ heard_on leg events

  regrouped : (heard : Heards) (event : Event) (events : List Event)
      → heard_all (heard_then heard event) events ≡ heard_all heard (event ∷ events)
  regrouped heard event events =
      fun_ext (λ leg. append_assoc (heard leg) (heard_in leg event) (heard_on leg events))

  none_more : (heard : Heards) → heard ≡ (λ leg. heard leg ++ [])
  none_more heard = fun_ext (λ leg. sym (append-nil (heard leg)))

  -- so it is of one end behind all
  read_by : (heard : Heards) (s : Shell S) (leg : Leg) → Lives heard s
      → BringsFrames rules (pipe leg) leg (heard leg) → ReadsLeg s leg
  read_by heard s leg lives brings going end at =
      end_read heard leg s.legs end at (lives going) brings

  abbrev pub Waits : Heards → Shell S → List Event → Type 0
  Waits heard s events =
      (front back : List Event) → front ++ back ≡ events
      → WaitsAt (heard_all heard front) (after_events rules s front)

  events_live : (heard : Heards) (s : Shell S) (events : List Event) → Waits heard s events
      → Lives heard s → Lives (heard_all heard events) (after_events rules s events)
  events_live heard s [] waits lives =
      subst (λ (h : Heards). Lives h s) (none_more heard) lives
  events_live heard s (event ∷ events) waits lives =
      subst (λ (h : Heards). Lives h (after_events rules s (event ∷ events)))
      (regrouped heard event events)
      (events_live (heard_then heard event) (after_event rules s event) events
      (λ front back e.
      subst (λ (h : Heards). WaitsAt h (after_events rules s (event ∷ front)))
      (sym (regrouped heard event front))
      (waits (event ∷ front) back (ap (λ (x : List Event). event ∷ x) e)))
      (event_lives heard s event
      (subst (λ (h : Heards). WaitsAt h s) (sym (none_more heard))
      (waits [] (event ∷ events) refl)) lives))

  pub events_read : (s : Shell S) (events : List Event) (leg : Leg) → s.legs ≡ []
      → Waits (λ l. []) s events → BringsFrames rules (pipe leg) leg (heard_on leg events)
      → ReadsLeg (after_events rules s events) leg
  events_read s events leg none waits =
      read_by (λ l. heard_on l events) (after_events rules s events) leg
      (events_live (λ l. []) s events waits
      (λ going. subst (AreRead (λ l. [])) (sym none) tt))

  -- ---- and at an end, whose acts are nothing to its legs

  module _ (acts : Acts S) where
    act_lives : (heard : Heards) (s : Shell S) (event : EndEvent) → Lives heard s
        → happened (event ∷ []) ≡ [] → Lives heard (after_end_event rules acts s event)
    act_lives heard s (Happens event) lives none = absurd cc
    act_lives heard s (IsGiven pdu) lives none = by (cause_of s.course)
      where
        by : (o : Option Cause) → Lives heard (give_where acts s pdu o).0
        by None = lives
        by (Some why) = lives
    act_lives heard s IsTaken lives none = by (cause_of s.course)
      where
        by : (o : Option Cause) → Lives heard (take_where acts s o)
        by None = lives
        by (Some why) = lives
    act_lives heard s IsClosed lives none = by (cause_of s.course)
      where
        by : (o : Option Cause) → Lives heard (close_where acts s o)
        by None = lives
        by (Some why) = lives
    act_lives heard s IsRecycled lives none = by (state_of rules s)
      where
        by : (o : State) → Lives heard (recycle_where acts s o).0
        by state.Open = lives
        by state.Opening = lives
        by state.Ended = lives
        by (state.Closed why) = lives

    abbrev pub EndWaits : Heards → Shell S → List EndEvent → Type 0
    EndWaits heard s events =
        (front back : List EndEvent) → front ++ back ≡ events
        → WaitsAt (heard_all heard (happened front)) (after_end_events rules acts s front)

    end_events_live : (heard : Heards) (s : Shell S) (events : List EndEvent)
        → EndWaits heard s events → Lives heard s
        → Lives (heard_all heard (happened events)) (after_end_events rules acts s events)
    end_events_live heard s [] waits lives =
        subst (λ (h : Heards). Lives h s) (none_more heard) lives
    end_events_live heard s (Happens event ∷ events) waits lives =
        subst (λ (h : Heards). Lives h
        (after_end_events rules acts s (Happens event ∷ events)))
        (regrouped heard event (happened events))
        (end_events_live (heard_then heard event) (after_event rules s event) events
        (λ front back e.
        subst (λ (h : Heards). WaitsAt h (after_end_events rules acts s (Happens event ∷ front)))
        (sym (regrouped heard event (happened front)))
        (waits (Happens event ∷ front) back (ap (λ (x : List EndEvent). Happens event ∷ x) e)))
        (event_lives heard s event
        (subst (λ (h : Heards). WaitsAt h s) (sym (none_more heard))
        (waits [] (Happens event ∷ events) refl)) lives))
    end_events_live heard s (IsGiven pdu ∷ events) waits lives =
        end_events_live heard (after_end_event rules acts s (IsGiven pdu)) events
        (λ front back e.
        waits (IsGiven pdu ∷ front) back (ap (λ (x : List EndEvent). IsGiven pdu ∷ x) e))
        (act_lives heard s (IsGiven pdu) lives refl)
    end_events_live heard s (IsTaken ∷ events) waits lives =
        end_events_live heard (after_end_event rules acts s IsTaken) events
        (λ front back e. waits (IsTaken ∷ front) back (ap (λ (x : List EndEvent). IsTaken ∷ x) e))
        (act_lives heard s IsTaken lives refl)
    end_events_live heard s (IsClosed ∷ events) waits lives =
        end_events_live heard (after_end_event rules acts s IsClosed) events
        (λ front back e.
        waits (IsClosed ∷ front) back (ap (λ (x : List EndEvent). IsClosed ∷ x) e))
        (act_lives heard s IsClosed lives refl)
    end_events_live heard s (IsRecycled ∷ events) waits lives =
        end_events_live heard (after_end_event rules acts s IsRecycled) events
        (λ front back e.
        waits (IsRecycled ∷ front) back (ap (λ (x : List EndEvent). IsRecycled ∷ x) e))
        (act_lives heard s IsRecycled lives refl)

    pub end_events_read : (s : Shell S) (events : List EndEvent) (leg : Leg) → s.legs ≡ []
        → EndWaits (λ l. []) s events
        → BringsFrames rules (pipe leg) leg (heard_on leg (happened events))
        → ReadsLeg (after_end_events rules acts s events) leg
    end_events_read s events leg none waits =
        read_by (λ l. heard_on l (happened events)) (after_end_events rules acts s events) leg
        (end_events_live (λ l. []) s events waits
        (λ going. subst (AreRead (λ l. [])) (sym none) tt))
