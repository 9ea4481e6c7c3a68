-- an end of a leg is marked only where the node was told that the leg is lost; so what a node has
-- finished it drew
use Rattle.std.specs.List.{All}
use Rattle.law_order.proofs.Vocabulary.{◌≡◌, ℕ, List, [], ◌∷◌, ◌++◌, length, take, drop, cond, Bool, true, false, true≢false, nat_lt, Some, None, refl, sym, ap, ◌∙◌, subst, ◌&&◌, ◌||◌, and_parts, AllByRecursion, nat_le, slice_set, Option, All-nil, All-push, All-set}
use Rattle.rh_line.specs.declared.cause.Cause.TheVariants as cause
use Rattle.law_moves.proofs.Vocabulary.{Cookie, Refusal, Unavailable, Cause, Leg, Course, Going, Closed, Refusing, Rooms, Stop, Drawn, draw, cause_of, Turn, goes, hear, NearEnd, is_ended, finished, finished_at, finished_by, is_finished, is_marked, is_useless, marked, new_end, Acts, Rules, Shell, begun, broken_at, broken_by, bytes_at, bytes_by, close, drawn_at, drawn_by, end_at, ended_at, ended_by, first_silent, free_place, is_heard, is_working, lose, lost, may_up, passed, passed_by, place, put_back, refuse}
use Rattle.law_moves.proofs.Vocabulary.{same_leg, state_of, stop_by, stopped, unreached, unreached_by, wants, with_end, with_leg, end_started, started, AreHeld, EndEvent, Event, ComesUp, Hears, Ends, Breaks, Draws, Ticks, Happens, IsClosed, IsGiven, IsHeld, IsRecycled, IsTaken, after_end_event, after_end_events, after_event, after_events}
use Rattle.rh_shell.specs.NearEnds.{is_empty}
use Rattle.law_moves.proofs.Lemmas.{empty_is, leg_is}
use Rattle.law_node_history.proofs.Lemmas.{same_itself}
use Rattle.law_node_history.proofs.Vocabulary.{happened}
use Rattle.law_node_causes.proofs.LegChanges.{closed_legs, given_legs, recycled_legs, taken_legs}
use Rattle.law_node_causes.proofs.OnceUp.{AllFollow, AllFollowAtEnd}
use Rattle.law_node_streams.proofs.Streams.Draws.{draw_drew}
use Rattle.law_node_streams.proofs.Streams.Ends.{end_has, end_is, end_leg, end_of}
use Rattle.law_node_streams.proofs.Streams.Pieces.{piece_heard}
use Rattle.law_node_marks.specs.Losing.{DrewAll, KeepsLeg}
use Rattle.law_node_kept.specs.Keeping.{KeptLeg, KeptLegAtEnd}

module _ {S : Type 0} (rules : Rules S) (leg : Leg) where
  abbrev IsClean : NearEnd → Type 0
  IsClean end = same_leg end.leg leg ≡ true → is_marked end.standing ≡ false

  -- no end of the leg is marked
  abbrev pub Clean : Shell S → Type 0
  Clean s = All IsClean s.legs

  module _ (s : Shell S) (held : AreHeld s) (clean : Clean s) where
    there : (k : Leg) (end : NearEnd) → end_at s k ≡ Some end → end_of k s.legs ≡ Some end
    there k end at = sym (end_is k s.legs) ∙ at

    changes : (k : Leg) (end new : NearEnd) (role : S) → end_at s k ≡ Some end
        → new.leg ≡ end.leg → new.standing ≡ end.standing → Clean (with_end s k new role)
    changes k end new role at legs stands =
        All-set IsClean s.legs (place k s.legs) new
        (λ this. ap is_marked stands
        ∙ end_has IsClean k s.legs end (there k end at) clean
        (ap (λ (l : Leg). same_leg l leg) (sym legs) ∙ this)) clean

    stops : (t : Shell S) (k : Leg) (o : Option Stop) → Clean t → Clean (stopped t k o)
    stops t k None h = h
    stops t k (Some why) h = by why.refusal
      where
        by : (r : Option Refusal) → Clean (stop_by t k why.cause r)
        by None = h
        by (Some refusal) = h

    hears : (k : Leg) (piece : List ℕ) → Clean (bytes_by rules s k piece s.course)
    hears k piece = by s.course
      where
        on : (o : Option NearEnd) → end_at s k ≡ o → Clean (bytes_at rules s k piece o)
        on None e = clean
        on (Some end) e =
            let t : Turn S = hear rules s.now (goes end s.role) piece in
            let h = piece_heard rules s.now (started s.role) (goes end s.role) piece refl refl
            (end_has IsHeld k s.legs end (there k end e) held) in
            stops (with_end s k t.end t.role) k t.stop
            (changes k end t.end t.role e h.same.leg h.same.standing)

        by : (c : Course) → Clean (bytes_by rules s k piece c)
        by Going = on (end_at s k) refl
        by (Closed why) = clean
        by (Refusing why client rest) = clean

    draws : (k : Leg) (room : ℕ) → Clean (drawn_by rules s k room s.course).0
    draws k room = by s.course
      where
        marked_or : (end : NearEnd) → end_at s k ≡ Some end → (t : Bool)
            → Clean (cond {A = Shell S × List ℕ} t (s, [])
            (put_back s k (draw rules s.now room end s.role))).0
        marked_or end e true = clean
        marked_or end e false =
            let d : Drawn S = draw rules s.now room end s.role in
            let w = draw_drew rules s.now room (started s.role) end s.role refl in
            changes k end d.end d.role e w.beside.leg w.beside.standing

        on : (o : Option NearEnd) → end_at s k ≡ o → Clean (drawn_at rules s k room o).0
        on None e = clean
        on (Some end) e = marked_or end e (is_marked end.standing)

        rest_of : (why : Cause) (client : Leg) (rest : List ℕ) (t : Bool)
            → Clean (cond {A = Shell S × List ℕ} t
            (record s { course = Refusing why client (drop room rest) }, take room rest)
            (s, [])).0
        rest_of why client rest true = clean
        rest_of why client rest false = clean

        by : (c : Course) → Clean (drawn_by rules s k room c).0
        by Going = on (end_at s k) refl
        by (Closed why) = clean
        by (Refusing why client rest) = rest_of why client rest (same_leg client k)

    -- another leg is lost
    module _ (k : Leg) (other : same_leg k leg ≡ false) where
      marks : (end : NearEnd) (role : S) → end_at s k ≡ Some end
          → Clean (with_end s k (marked end) role)
      marks end role at =
          All-set IsClean s.legs (place k s.legs) (marked end)
          (λ this. absurd (true≢false (sym this
          ∙ ap (λ (l : Leg). same_leg l leg)
          (leg_is end.leg k (end_leg k s.legs end (there k end at))) ∙ other))) clean

      loses : (end : NearEnd) (why : Cause) → end_at s k ≡ Some end
          → Clean (lost rules s k end why)
      loses end why at = by (is_finished rules s.role end)
        where
          by_marks : (t : Bool)
              → Clean (cond t (with_end s k (marked end) (rules.mark s.role k)) (close s why))
          by_marks true = marks end (rules.mark s.role k) at
          by_marks false = clean

          by_phase : (t : Bool)
              → Clean (cond t (with_end s k (marked end) s.role)
              (cond (rules.only_marks s.role k)
              (with_end s k (marked end) (rules.mark s.role k)) (close s why)))
          by_phase true = marks end s.role at
          by_phase false = by_marks (rules.only_marks s.role k)

          by : (t : Bool) → Clean (cond t s (lose rules s k end why))
          by true = clean
          by false = by_phase (is_ended (rules.phase s.role))

      ends : Clean (ended_by rules s k s.course)
      ends = by s.course
        where
          on : (o : Option NearEnd) → end_at s k ≡ o → Clean (ended_at rules s k o)
          on None e = clean
          on (Some end) e = loses end (cause.LegEnded k (length end.intake.held)) e

          by : (c : Course) → Clean (ended_by rules s k c)
          by Going = on (end_at s k) refl
          by (Closed why) = clean
          by (Refusing why client rest) = clean

      breaks : Clean (broken_by rules s k s.course)
      breaks = by s.course
        where
          heard : (why : Cause) (client : Leg) (t : Bool)
              → Clean (cond t (refuse s why client Unavailable) (close s why))
          heard why client true = clean
          heard why client false = clean

          told : (why : Cause) (o : Option Leg) → Clean (unreached_by s why o)
          told why None = clean
          told why (Some client) = heard why client (is_heard (end_at s client))

          wanted : (t : Bool) → Clean (cond t (unreached rules s k) s)
          wanted true = told (cause.LegBroken k) (rules.answers_on s.role)
          wanted false = clean

          on : (o : Option NearEnd) → end_at s k ≡ o → Clean (broken_at rules s k o)
          on None e = wanted (wants rules s k)
          on (Some end) e = loses end (cause.LegBroken k) e

          by : (c : Course) → Clean (broken_by rules s k c)
          by Going = on (end_at s k) refl
          by (Closed why) = clean
          by (Refusing why client rest) = clean

    -- an end that is new is not marked
    comes_up : (k : Leg) (cookie : Cookie) → Clean (after_event rules s (ComesUp k cookie))
    comes_up k cookie = by (may_up rules s k)
      where
        new : NearEnd
        new = new_end k (rules.pipe s.role k) s.now

        at : ℕ
        at = free_place rules s.role k.kind s.legs

        seats : (t : Bool)
            → All IsClean (cond t (slice_set s.legs at new) (s.legs ++ new ∷ []))
        seats true = All-set IsClean s.legs at new (λ this. refl) clean
        seats false = All-push IsClean s.legs new clean (λ this. refl)

        by : (t : Bool) → Clean (cond t (with_leg rules s k cookie) s)
        by true = seats (nat_lt at (length s.legs))
        by false = clean

    ticks : (now : ℕ) → Clean (after_event rules s (Ticks now))
    ticks now = by (is_working rules s && nat_le s.now now)
      where
        silent : (o : Option (Leg × ℕ)) → Clean (passed_by rules (record s { now = now }) o)
        silent (Some one) = clean
        silent None = clean

        by : (t : Bool) → Clean (cond t (passed rules (record s { now = now })) s)
        by true = silent (first_silent rules s.role now s.legs None)
        by false = clean

    after : (event : Event) → KeepsLeg leg event → Clean (after_event rules s event)
    after (ComesUp k cookie) kept = comes_up k cookie
    after (Hears k piece) kept = hears k piece
    after (Ends k) kept = ends k kept
    after (Breaks k) kept = breaks k kept
    after (Draws k room) kept = draws k room
    after (Ticks now) kept = ticks now

  -- ---- all events

  module _ (follow : AllFollow rules) where
    all_clean : (s : Shell S) (events : List Event) → AreHeld s → Clean s
        → KeptLeg leg events → Clean (after_events rules s events)
    all_clean s [] held clean kept = clean
    all_clean s (event ∷ events) held clean kept =
        all_clean (after_event rules s event) events
        (follow (started s.role) s event refl held).held
        (after s held clean event kept.0) kept.1

    pub run_clean : (first : S) (rooms : Rooms) (events : List Event)
        → KeptLeg leg events → Clean (after_events rules (begun first rooms) events)
    run_clean first rooms events =
        all_clean (begun first rooms) events (All-nil IsHeld) (All-nil IsClean)

  module _ (acts : Acts S) (follow : AllFollowAtEnd rules acts) where
    all_clean_at_end : (s : Shell S) (events : List EndEvent) → AreHeld s → Clean s
        → KeptLegAtEnd leg events → Clean (after_end_events rules acts s events)
    all_clean_at_end s [] held clean kept = clean
    all_clean_at_end s (event ∷ events) held clean kept =
        by event kept
        (all_clean_at_end (after_end_event rules acts s event) events
        (follow (end_started s.role) s event refl held).held)
      where
        by : (event : EndEvent) → AllByRecursion (KeepsLeg leg) (happened (event ∷ events))
            → (Clean (after_end_event rules acts s event)
            → KeptLegAtEnd leg events
            → Clean (after_end_events rules acts (after_end_event rules acts s event) events))
            → Clean (after_end_events rules acts (after_end_event rules acts s event) events)
        by (Happens e) lost rest =
            rest (after s held clean e lost.0) lost.1
        by (IsGiven pdu) lost rest =
            rest (subst (All IsClean) (sym (given_legs rules s acts pdu (cause_of s.course)))
            clean) lost
        by IsTaken lost rest =
            rest (subst (All IsClean) (sym (taken_legs rules s acts (cause_of s.course))) clean)
            lost
        by IsClosed lost rest =
            rest (subst (All IsClean) (sym (closed_legs rules s acts (cause_of s.course))) clean)
            lost
        by IsRecycled lost rest =
            rest (subst (All IsClean) (sym (recycled_legs rules s acts (state_of rules s))) clean)
            lost

    pub run_clean_at_end : (first : S) (rooms : Rooms) (events : List EndEvent)
        → KeptLegAtEnd leg events
        → Clean (after_end_events rules acts (begun first rooms) events)
    run_clean_at_end first rooms events =
        all_clean_at_end (begun first rooms) events (All-nil IsHeld) (All-nil IsClean)

  pub unmarked : (s : Shell S) → Clean s → (end : NearEnd) → end_at s leg ≡ Some end
      → is_marked end.standing ≡ false
  unmarked s clean end at =
      let seat = sym (end_is leg s.legs) ∙ at in
      end_has IsClean leg s.legs end seat clean
      (ap (λ (l : Leg). same_leg l leg) (leg_is end.leg leg (end_leg leg s.legs end seat))
      ∙ same_itself leg)

-- ---- what it has finished it drew

empty_if : (marked useless empty : Bool) → marked ≡ false
    → (marked || (useless && empty)) ≡ true → empty ≡ true
empty_if true useless empty m e = absurd (true≢false m)
empty_if false useless empty m e = (and_parts useless empty e).1

pub finished_drew : {S : Type 0} (rules : Rules S) (node : Shell S) (leg : Leg)
    → Clean rules leg node → node.course ≡ Going → finished rules node leg ≡ true
    → DrewAll node leg
finished_drew rules node leg clean going done end at =
    empty_is end.begun
    (empty_if (is_marked end.standing) (is_useless rules end node.role) (is_empty end.begun)
    (unmarked rules leg node clean end at) is)
  where
    is : is_finished rules node.role end ≡ true
    is =
        sym (ap (finished_by rules node leg) going ∙ ap (finished_at rules node leg) at) ∙ done
