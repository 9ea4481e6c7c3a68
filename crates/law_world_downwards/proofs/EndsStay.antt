-- what is so of the end of a leg that comes up, and stays where bytes are heard, is so of each end
-- that a node keeps of the leg
use Rattle.std.specs.List.{All}
use Rattle.rh_line.specs.declared.cause.Cause.TheVariants as cause
use Rattle.rh_shell.specs.declared.standing.Standing.{Standing}
use Rattle.rh_shell.specs.declared.standing.Standing.TheVariants.{Up, Marked}
use Rattle.law_order.proofs.Vocabulary.{◌≡◌, ℕ, List, [], ◌∷◌, ◌++◌, length, take, drop, cond, Bool, true, false, nat_lt, Some, None, refl, sym, ap, ◌∙◌, subst, ◌&&◌, nat_le, slice_set, Option, All-nil, All-push, All-set}
use Rattle.law_moves.proofs.Vocabulary.{Cookie, Refusal, Unavailable, Cause, Leg, Course, Going, Closed, Refusing, Rooms, Stop, Drawn, draw, cause_of, Turn, goes, hear, NearEnd, is_ended, is_finished, is_marked, marked, new_end, Acts, Rules, Shell, begun, broken_at, broken_by, bytes_at, bytes_by, close, drawn_at, drawn_by, end_at, ended_at, ended_by, first_silent, free_place, is_heard, is_working, lose, lost, may_up, passed, passed_by, place, put_back, refuse}
use Rattle.law_moves.proofs.Vocabulary.{same_leg, state_of, stop_by, stopped, unreached, unreached_by, wants, with_end, with_leg, end_started, started, AreHeld, EndEvent, Event, ComesUp, Hears, Ends, Breaks, Draws, Ticks, Happens, IsClosed, IsGiven, IsHeld, IsRecycled, IsTaken, after_end_event, after_end_events, after_event, after_events}
use Rattle.law_moves.proofs.Lemmas.{leg_is}
use Rattle.law_node_history.proofs.Lemmas.{same_itself}
use Rattle.law_node_causes.proofs.LegChanges.{closed_legs, given_legs, recycled_legs, taken_legs}
use Rattle.law_node_causes.proofs.OnceUp.{AllFollow, AllFollowAtEnd}
use Rattle.law_node_streams.proofs.Streams.Draws.{draw_drew}
use Rattle.law_node_streams.proofs.Streams.Ends.{end_has, end_is, end_leg, end_of}
use Rattle.law_node_streams.proofs.Streams.Pieces.{piece_heard}

-- by its standing, and by what is begun
module _ {S : Type 0} (rules : Rules S) (leg : Leg) (P : Standing → List ℕ → Type 0) where
  abbrev Has : NearEnd → Type 0
  Has end = same_leg end.leg leg ≡ true → P end.standing end.begun

  abbrev pub AllHave : Shell S → Type 0
  AllHave s = All Has s.legs

  -- where the leg is lost, or bytes of it are drawn
  abbrev pub Keeps : Shell S → Event → Type 0
  Keeps s (Ends k) =
      same_leg k leg ≡ true → (standing : Standing) (bytes : List ℕ) → P standing bytes
      → P Marked bytes
  Keeps s (Breaks k) =
      same_leg k leg ≡ true → (standing : Standing) (bytes : List ℕ) → P standing bytes
      → P Marked bytes
  Keeps s (Draws k room) =
      same_leg k leg ≡ true → s.course ≡ Going → (end : NearEnd) → end_at s k ≡ Some end
      → is_marked end.standing ≡ false → P end.standing end.begun
      → P end.standing (draw rules s.now room end s.role).end.begun
  Keeps s event = Unit {0}

  abbrev pub AllKeep : Shell S → List Event → Type 0
  AllKeep s [] = Unit {0}
  AllKeep s (event ∷ events) = Keeps s event × AllKeep (after_event rules s event) events

  abbrev pub KeepsAtEnd : Shell S → EndEvent → Type 0
  KeepsAtEnd s (Happens event) = Keeps s event
  KeepsAtEnd s act = Unit {0}

  abbrev pub AllKeepAtEnd : Acts S → Shell S → List EndEvent → Type 0
  AllKeepAtEnd acts s [] = Unit {0}
  AllKeepAtEnd acts s (event ∷ events) =
      KeepsAtEnd s event × AllKeepAtEnd acts (after_end_event rules acts s event) events

  module _ (fresh : P Up []) where
    module _ (s : Shell S) (held : AreHeld s) (all : AllHave s) where
      there : (k : Leg) (end : NearEnd) → end_at s k ≡ Some end → end_of k s.legs ≡ Some end
      there k end at = sym (end_is k s.legs) ∙ at

      changes : (k : Leg) (end new : NearEnd) (role : S) → end_at s k ≡ Some end
          → new.leg ≡ end.leg
          → (same_leg k leg ≡ true → P end.standing end.begun → P new.standing new.begun)
          → AllHave (with_end s k new role)
      changes k end new role at legs stays =
          All-set Has s.legs (place k s.legs) new has all
        where
          has : Has new
          has this =
              let here : same_leg end.leg leg ≡ true =
              ap (λ (l : Leg). same_leg l leg) (sym legs) ∙ this in
              stays
              (ap (λ (l : Leg). same_leg l leg)
              (sym (leg_is end.leg k (end_leg k s.legs end (there k end at)))) ∙ here)
              (end_has Has k s.legs end (there k end at) all here)

      stops : (t : Shell S) (k : Leg) (o : Option Stop) → AllHave t → AllHave (stopped t k o)
      stops t k None h = h
      stops t k (Some why) h = by why.refusal
        where
          by : (r : Option Refusal) → AllHave (stop_by t k why.cause r)
          by None = h
          by (Some refusal) = h

      hears : (k : Leg) (piece : List ℕ) → AllHave (bytes_by rules s k piece s.course)
      hears k piece = by s.course
        where
          on : (o : Option NearEnd) → end_at s k ≡ o → AllHave (bytes_at rules s k piece o)
          on None e = all
          on (Some end) e =
              let t : Turn S = hear rules s.now (goes end s.role) piece in
              let h = piece_heard rules s.now (started s.role) (goes end s.role) piece refl refl
              (end_has IsHeld k s.legs end (there k end e) held) in
              stops (with_end s k t.end t.role) k t.stop
              (changes k end t.end t.role e h.same.leg
              (λ this p. subst (λ (b : List ℕ). P t.end.standing b) (sym h.same.begun)
              (subst (λ (x : Standing). P x end.begun) (sym h.same.standing) p)))

          by : (c : Course) → AllHave (bytes_by rules s k piece c)
          by Going = on (end_at s k) refl
          by (Closed why) = all
          by (Refusing why client rest) = all

      draws : (k : Leg) (room : ℕ) → Keeps s (Draws k room)
          → AllHave (drawn_by rules s k room s.course).0
      draws k room keeps = by s.course refl
        where
          marked_or : s.course ≡ Going → (end : NearEnd) → end_at s k ≡ Some end → (t : Bool)
              → is_marked end.standing ≡ t
              → AllHave (cond {A = Shell S × List ℕ} t (s, [])
              (put_back s k (draw rules s.now room end s.role))).0
          marked_or going end e true m = all
          marked_or going end e false m =
              let d : Drawn S = draw rules s.now room end s.role in
              let w = draw_drew rules s.now room (started s.role) end s.role refl in
              changes k end d.end d.role e w.beside.leg
              (λ this p. subst (λ (x : Standing). P x d.end.begun) (sym w.beside.standing)
              (keeps this going end e m p))

          on : s.course ≡ Going → (o : Option NearEnd) → end_at s k ≡ o
              → AllHave (drawn_at rules s k room o).0
          on going None e = all
          on going (Some end) e = marked_or going end e (is_marked end.standing) refl

          rest_of : (why : Cause) (client : Leg) (rest : List ℕ) (t : Bool)
              → AllHave (cond {A = Shell S × List ℕ} t
              (record s { course = Refusing why client (drop room rest) }, take room rest)
              (s, [])).0
          rest_of why client rest true = all
          rest_of why client rest false = all

          by : (c : Course) → s.course ≡ c → AllHave (drawn_by rules s k room c).0
          by Going going = on going (end_at s k) refl
          by (Closed why) going = all
          by (Refusing why client rest) going = rest_of why client rest (same_leg client k)

      -- a leg is lost
      module _ (k : Leg) (keeps : same_leg k leg ≡ true → (standing : Standing) (bytes : List ℕ)
          → P standing bytes → P Marked bytes) where
        marks : (end : NearEnd) (role : S) → end_at s k ≡ Some end
            → AllHave (with_end s k (marked end) role)
        marks end role at =
            changes k end (marked end) role at refl
            (λ this p. keeps this end.standing end.begun p)

        loses : (end : NearEnd) (why : Cause) → end_at s k ≡ Some end
            → AllHave (lost rules s k end why)
        loses end why at = by (is_finished rules s.role end)
          where
            by_marks : (t : Bool) → AllHave
                (cond t (with_end s k (marked end) (rules.mark s.role k)) (close s why))
            by_marks true = marks end (rules.mark s.role k) at
            by_marks false = all

            by_phase : (t : Bool)
                → AllHave (cond t (with_end s k (marked end) s.role)
                (cond (rules.only_marks s.role k)
                (with_end s k (marked end) (rules.mark s.role k)) (close s why)))
            by_phase true = marks end s.role at
            by_phase false = by_marks (rules.only_marks s.role k)

            by : (t : Bool) → AllHave (cond t s (lose rules s k end why))
            by true = all
            by false = by_phase (is_ended (rules.phase s.role))

        ends : AllHave (ended_by rules s k s.course)
        ends = by s.course
          where
            on : (o : Option NearEnd) → end_at s k ≡ o → AllHave (ended_at rules s k o)
            on None e = all
            on (Some end) e = loses end (cause.LegEnded k (length end.intake.held)) e

            by : (c : Course) → AllHave (ended_by rules s k c)
            by Going = on (end_at s k) refl
            by (Closed why) = all
            by (Refusing why client rest) = all

        breaks : AllHave (broken_by rules s k s.course)
        breaks = by s.course
          where
            heard : (why : Cause) (client : Leg) (t : Bool)
                → AllHave (cond t (refuse s why client Unavailable) (close s why))
            heard why client true = all
            heard why client false = all

            told : (why : Cause) (o : Option Leg) → AllHave (unreached_by s why o)
            told why None = all
            told why (Some client) = heard why client (is_heard (end_at s client))

            wanted : (t : Bool) → AllHave (cond t (unreached rules s k) s)
            wanted true = told (cause.LegBroken k) (rules.answers_on s.role)
            wanted false = all

            on : (o : Option NearEnd) → end_at s k ≡ o → AllHave (broken_at rules s k o)
            on None e = wanted (wants rules s k)
            on (Some end) e = loses end (cause.LegBroken k) e

            by : (c : Course) → AllHave (broken_by rules s k c)
            by Going = on (end_at s k) refl
            by (Closed why) = all
            by (Refusing why client rest) = all

      -- a leg comes up
      comes_up : (k : Leg) (cookie : Cookie) → AllHave (after_event rules s (ComesUp k cookie))
      comes_up k cookie = by (may_up rules s k)
        where
          new : NearEnd
          new = new_end k (rules.pipe s.role k) s.now

          at : ℕ
          at = free_place rules s.role k.kind s.legs

          seats : (t : Bool) → All Has (cond t (slice_set s.legs at new) (s.legs ++ new ∷ []))
          seats true = All-set Has s.legs at new (λ this. fresh) all
          seats false = All-push Has s.legs new all (λ this. fresh)

          by : (t : Bool) → AllHave (cond t (with_leg rules s k cookie) s)
          by true = seats (nat_lt at (length s.legs))
          by false = all

      ticks : (now : ℕ) → AllHave (after_event rules s (Ticks now))
      ticks now = by (is_working rules s && nat_le s.now now)
        where
          silent : (o : Option (Leg × ℕ)) → AllHave (passed_by rules (record s { now = now }) o)
          silent (Some one) = all
          silent None = all

          by : (t : Bool) → AllHave (cond t (passed rules (record s { now = now })) s)
          by true = silent (first_silent rules s.role now s.legs None)
          by false = all

      pub after : (event : Event) → Keeps s event → AllHave (after_event rules s event)
      after (ComesUp k cookie) keeps = comes_up k cookie
      after (Hears k piece) keeps = hears k piece
      after (Ends k) keeps = ends k keeps
      after (Breaks k) keeps = breaks k keeps
      after (Draws k room) keeps = draws k room keeps
      after (Ticks now) keeps = ticks now

    -- ---- all events

    module _ (follow : AllFollow rules) where
      all_have : (s : Shell S) (events : List Event) → AreHeld s → AllHave s → AllKeep s events
          → AllHave (after_events rules s events)
      all_have s [] held all keeps = all
      all_have s (event ∷ events) held all keeps =
          all_have (after_event rules s event) events
          (follow (started s.role) s event refl held).held
          (after s held all event keeps.0) keeps.1

      pub run_has : (first : S) (rooms : Rooms) (events : List Event)
          → AllKeep (begun first rooms) events
          → AllHave (after_events rules (begun first rooms) events)
      run_has first rooms events =
          all_have (begun first rooms) events (All-nil IsHeld) (All-nil Has)

    module _ (acts : Acts S) where
      pub after_at_end : (s : Shell S) → AreHeld s → AllHave s → (event : EndEvent)
          → KeepsAtEnd s event → AllHave (after_end_event rules acts s event)
      after_at_end s held all (Happens event) keeps = after s held all event keeps
      after_at_end s held all (IsGiven pdu) keeps =
          subst (All Has) (sym (given_legs rules s acts pdu (cause_of s.course))) all
      after_at_end s held all IsTaken keeps =
          subst (All Has) (sym (taken_legs rules s acts (cause_of s.course))) all
      after_at_end s held all IsClosed keeps =
          subst (All Has) (sym (closed_legs rules s acts (cause_of s.course))) all
      after_at_end s held all IsRecycled keeps =
          subst (All Has) (sym (recycled_legs rules s acts (state_of rules s))) all

      module _ (follow : AllFollowAtEnd rules acts) where
        all_have_at_end : (s : Shell S) (events : List EndEvent) → AreHeld s → AllHave s
            → AllKeepAtEnd acts s events → AllHave (after_end_events rules acts s events)
        all_have_at_end s [] held all keeps = all
        all_have_at_end s (event ∷ events) held all keeps =
            all_have_at_end (after_end_event rules acts s event) events
            (follow (end_started s.role) s event refl held).held
            (after_at_end s held all event keeps.0) keeps.1

        pub run_has_at_end : (first : S) (rooms : Rooms) (events : List EndEvent)
            → AllKeepAtEnd acts (begun first rooms) events
            → AllHave (after_end_events rules acts (begun first rooms) events)
        run_has_at_end first rooms events =
            all_have_at_end (begun first rooms) events (All-nil IsHeld) (All-nil Has)

  pub found : (s : Shell S) → AllHave s → (end : NearEnd) → end_at s leg ≡ Some end
      → P end.standing end.begun
  found s all end at =
      let seat = sym (end_is leg s.legs) ∙ at in
      end_has Has leg s.legs end seat all
      (ap (λ (l : Leg). same_leg l leg) (leg_is end.leg leg (end_leg leg s.legs end seat))
      ∙ same_itself leg)
