-- a leg that a node keeps is kept behind an event that does not tell of its loss, or it was
-- finished
use Rattle.law_order.proofs.Vocabulary.{◌≡◌, ◌⊎◌, inl, inr, ℕ, zero, suc, ◌+◌, List, [], ◌∷◌, ◌++◌, length, take, drop, cond, Bool, true, false, nat_lt, Some, None, refl, sym, ap, ◌∙◌, subst, ◌&&◌, ◌||◌, not, nat_le, slice_get, slice_set, Option, and_parts, true≢false}
use Rattle.rh_line.specs.declared.cause.Cause.TheVariants as cause
use Rattle.rh_shell.specs.NearEnds.{is_empty}
use Rattle.law_moves.proofs.Vocabulary.{Cookie, Unavailable, Cause, Leg, Course, Going, Closed, Refusing, Stop, Drawn, draw, Turn, goes, hear, NearEnd, is_ended, is_finished, is_marked, is_useless, marked, new_end, Rules, Shell, bytes_at, bytes_by, broken_at, broken_by, close, drawn_at, drawn_by, end_at, ended_at, ended_by, first_silent, free_place, is_free, is_heard, is_of, is_working, lose, lost, may_up, passed, passed_by, place, put_back, refuse, same_leg}
use Rattle.law_moves.proofs.Vocabulary.{seated_at, stopped, unreached, unreached_by, wants, with_end, with_leg, is_in_use, started, AreHeld, Event, ComesUp, Hears, Ends, Breaks, Draws, Ticks, IsHeld, after_event}
use Rattle.law_moves.proofs.Lemmas.{here_is as found_passes, empty_is as none_begun, leg_is}
use Rattle.law_node_streams.proofs.Streams.Draws.{draw_drew}
use Rattle.law_node_streams.proofs.Streams.Ends.{end_has, end_is, end_leg, end_of, set_beside, set_here}
use Rattle.law_node_streams.proofs.Streams.Pieces.{piece_heard}
use Rattle.law_node_streams.proofs.Streams.Seats.{stop_keeps}
use Rattle.law_node_streams.specs.Streams.{is_refused_on}
use Rattle.law_world_ways.specs.OnPaths.Lost.{is_loss_of}

-- ---- an end among others

-- an end of another leg takes a place: the first end of the leg stays, or stood there
set_forgets : (leg : Leg) (ends : List NearEnd) (i : ℕ) (new end : NearEnd)
    → same_leg new.leg leg ≡ false → end_of leg ends ≡ Some end
    → (end_of leg (slice_set ends i new) ≡ Some end) ⊎ (slice_get ends i ≡ Some end)
set_forgets leg [] i new end other at = absurd cc
set_forgets leg (x ∷ xs) zero new end other at =
    elim (same_leg x.leg leg) as (λ t. cond t (Some x) (end_of leg xs) ≡ Some end
    → (cond (same_leg new.leg leg) (Some new) (end_of leg xs) ≡ Some end)
    ⊎ (slice_get (x ∷ xs) 0 ≡ Some end)) [
      | true ↦ λ a. inr a
      | false ↦ λ a. inl (ap (λ t. cond t (Some new) (end_of leg xs)) other ∙ a)
    ] at
set_forgets leg (x ∷ xs) (suc i) new end other at =
    elim (same_leg x.leg leg) as (λ t. cond t (Some x) (end_of leg xs) ≡ Some end
    → ((end_of leg xs ≡ Some end)
    → (end_of leg (slice_set xs i new) ≡ Some end) ⊎ (slice_get xs i ≡ Some end))
    → (cond t (Some x) (end_of leg (slice_set xs i new)) ≡ Some end)
    ⊎ (slice_get (x ∷ xs) (suc i) ≡ Some end)) [
      | true ↦ λ a more. inl a
      | false ↦ λ a more. more a
    ] at (set_forgets leg xs i new end other)

push_stays : (leg : Leg) (ends : List NearEnd) (new end : NearEnd)
    → end_of leg ends ≡ Some end → end_of leg (ends ++ new ∷ []) ≡ Some end
push_stays leg [] new end at = absurd cc
push_stays leg (x ∷ xs) new end at =
    elim (same_leg x.leg leg) as (λ t. cond t (Some x) (end_of leg xs) ≡ Some end
    → ((end_of leg xs ≡ Some end) → end_of leg (xs ++ new ∷ []) ≡ Some end)
    → cond t (Some x) (end_of leg (xs ++ new ∷ [])) ≡ Some end) [
      | true ↦ λ a more. a
      | false ↦ λ a more. more a
    ] at (push_stays leg xs new end)

seat_forgets : (leg : Leg) (ends : List NearEnd) (i : ℕ) (new end : NearEnd)
    → same_leg new.leg leg ≡ false → end_of leg ends ≡ Some end
    → (end_of leg (seated_at ends i new) ≡ Some end) ⊎ (slice_get ends i ≡ Some end)
seat_forgets leg ends i new end other at = by (nat_lt i (length ends))
  where
    by : (t : Bool)
        → (end_of leg (cond t (slice_set ends i new) (ends ++ new ∷ [])) ≡ Some end)
        ⊎ (slice_get ends i ≡ Some end)
    by true = set_forgets leg ends i new end other at
    by false = inl (push_stays leg ends new end at)

-- ---- a finished end that was not told lost is of no use, and nothing is begun there

finished_if : (marked useless empty : Bool) → marked ≡ false
    → (marked || (useless && empty)) ≡ true → (useless ≡ true) × (empty ≡ true)
finished_if true useless empty m e = absurd cc
finished_if false true true m e = (refl, refl)
finished_if false true false m e = absurd cc
finished_if false false empty m e = absurd cc

not_used : (done ended : Bool) → (done || ended) ≡ true → (not ended && not done) ≡ false
not_used true true e = refl
not_used true false e = refl
not_used false true e = refl
not_used false false e = absurd cc

-- the node refuses somebody on the leg
abbrev pub refuses : {S : Type 0} → Leg → Shell S → Bool
refuses leg s = is_refused_on leg s.course

abbrev pub IsFree : {S : Type 0} → Leg → Shell S → Type 0
IsFree leg s = refuses leg s ≡ false

module _ {S : Type 0} (rules : Rules S) (leg : Leg) where
  abbrev pub Unused : S → Type 0
  Unused role = is_in_use rules role leg ≡ false

  -- what is kept of the leg
  pub record Stands (s : Shell S) : Type 0 where
    pub end : NearEnd
    pub at : end_of leg s.legs ≡ Some end
    pub unmarked : is_marked end.standing ≡ false

  -- it is of no use, and all that was begun there was drawn
  pub record IsLeft (s : Shell S) : Type 0 where
    pub end : NearEnd
    pub at : end_of leg s.legs ≡ Some end
    pub undrawn : end.begun ≡ []
    pub unused : Unused s.role

  left : (s : Shell S) (end : NearEnd) → end_of leg s.legs ≡ Some end
      → is_marked end.standing ≡ false → is_finished rules s.role end ≡ true → IsLeft s
  left s end at unmarked done =
      let both = finished_if (is_marked end.standing) (is_useless rules end s.role)
      (is_empty end.begun) unmarked done in
      record {
        end = end;
        at = at;
        undrawn = none_begun end.begun both.1;
        unused =
            subst (λ (l : Leg). is_in_use rules s.role l ≡ false)
            (leg_is end.leg leg (end_leg leg s.legs end at))
            (not_used (rules.is_done s.role end.leg) (is_ended (rules.phase s.role)) both.0);
      }

  -- behind an event it stands or was left
  abbrev pub Behind : Shell S → Shell S → Type 0
  Behind s t = Stands s → Stands t ⊎ IsLeft s

  stands_as : (s t : Shell S) → t.legs ≡ s.legs → Stands s → Stands t
  stands_as s t same h = record {
    end = h.end;
    at = ap (end_of leg) same ∙ h.at;
    unmarked = h.unmarked;
  }

  same_legs : (s t : Shell S) → t.legs ≡ s.legs → Behind s t
  same_legs s t same h = inl (stands_as s t same h)

  same : (s : Shell S) → Behind s s
  same s = same_legs s s refl

  module _ (s : Shell S) (held : AreHeld s) where
    -- an end of a leg that is kept changes, and stands as it did
    changes : (k : Leg) (end new : NearEnd) (role : S)
        → end_of k s.legs ≡ Some end → new.leg ≡ end.leg
        → (same_leg k leg ≡ true → is_marked end.standing ≡ false
        → is_marked new.standing ≡ false)
        → Behind s (with_end s k new role)
    changes k end new role at legs marks h = inl (by (same_leg k leg) refl)
      where
        t : Shell S
        t = with_end s k new role

        by : (b : Bool) → same_leg k leg ≡ b → Stands t
        by true e =
            let is : k ≡ leg = leg_is k leg e in
            let both : ◌≡◌ {A = Option NearEnd} (Some h.end) (Some end) =
            sym h.at ∙ ap (λ (l : Leg). end_of l s.legs) (sym is) ∙ at in
            let one : h.end ≡ end = cc in
            record {
              end = new;
              at = ap (λ (l : Leg). end_of l (slice_set s.legs (place k s.legs) new)) (sym is)
                  ∙ set_here k s.legs end new at legs;
              unmarked = marks e (subst (λ (x : NearEnd). is_marked x.standing ≡ false) one
                  h.unmarked);
            }
        by false e = record {
          end = h.end;
          at = set_beside k leg s.legs end new at legs e ∙ h.at;
          unmarked = h.unmarked;
        }

    stops : (t : Shell S) (k : Leg) (o : Option Stop) → Behind s t → Behind s (stopped t k o)
    stops t k o h stands = by (h stands)
      where
        by : Stands t ⊎ IsLeft s → Stands (stopped t k o) ⊎ IsLeft s
        by (inl x) = inl (stands_as t (stopped t k o) (stop_keeps t k o).legs x)
        by (inr gone) = inr gone

    -- ---- bytes

    hears : (k : Leg) (piece : List ℕ) → Behind s (bytes_by rules s k piece s.course)
    hears k piece = by s.course
      where
        on : (o : Option NearEnd) → end_at s k ≡ o → Behind s (bytes_at rules s k piece o)
        on None e = same s
        on (Some end) e =
            let at = sym (end_is k s.legs) ∙ e in
            let t : Turn S = hear rules s.now (goes end s.role) piece in
            let h = piece_heard rules s.now (started s.role) (goes end s.role) piece refl refl
            (end_has IsHeld k s.legs end at held) in
            stops (with_end s k t.end t.role) k t.stop
            (changes k end t.end t.role at h.same.leg
            (λ this m. ap is_marked h.same.standing ∙ m))

        by : (c : Course) → Behind s (bytes_by rules s k piece c)
        by Going = on (end_at s k) refl
        by (Closed why) = same s
        by (Refusing why client rest) = same s

    draws : (k : Leg) (room : ℕ) → Behind s (drawn_by rules s k room s.course).0
    draws k room = by s.course
      where
        marked_or : (end : NearEnd) → end_at s k ≡ Some end → (t : Bool)
            → Behind s (cond {A = Shell S × List ℕ} t (s, [])
            (put_back s k (draw rules s.now room end s.role))).0
        marked_or end e true = same s
        marked_or end e false =
            let d : Drawn S = draw rules s.now room end s.role in
            let w = draw_drew rules s.now room (started s.role) end s.role refl in
            changes k end d.end d.role (sym (end_is k s.legs) ∙ e) w.beside.leg
            (λ this m. ap is_marked w.beside.standing ∙ m)

        on : (o : Option NearEnd) → end_at s k ≡ o → Behind s (drawn_at rules s k room o).0
        on None e = same s
        on (Some end) e = marked_or end e (is_marked end.standing)

        rest_of : (why : Cause) (client : Leg) (rest : List ℕ) (t : Bool)
            → Behind s (cond {A = Shell S × List ℕ} t
            (record s { course = Refusing why client (drop room rest) }, take room rest)
            (s, [])).0
        rest_of why client rest true =
            same_legs s (record s { course = Refusing why client (drop room rest) }) refl
        rest_of why client rest false = same s

        by : (c : Course) → Behind s (drawn_by rules s k room c).0
        by Going = on (end_at s k) refl
        by (Closed why) = same s
        by (Refusing why client rest) = rest_of why client rest (same_leg client k)

    -- ---- another leg is lost

    module _ (k : Leg) (other : same_leg k leg ≡ false) where
      loses : (end : NearEnd) (why : Cause) → end_at s k ≡ Some end
          → Behind s (lost rules s k end why)
      loses end why e = by (is_finished rules s.role end)
        where
          marks : (role : S) → Behind s (with_end s k (marked end) role)
          marks role =
              changes k end (marked end) role (sym (end_is k s.legs) ∙ e) refl
              (λ this m. absurd (true≢false (sym this ∙ other)))

          by_marks : (t : Bool)
              → Behind s (cond t (with_end s k (marked end) (rules.mark s.role k)) (close s why))
          by_marks true = marks (rules.mark s.role k)
          by_marks false = same_legs s (close s why) refl

          by_phase : (t : Bool)
              → Behind s (cond t (with_end s k (marked end) s.role)
              (cond (rules.only_marks s.role k)
              (with_end s k (marked end) (rules.mark s.role k)) (close s why)))
          by_phase true = marks s.role
          by_phase false = by_marks (rules.only_marks s.role k)

          by : (t : Bool) → Behind s (cond t s (lose rules s k end why))
          by true = same s
          by false = by_phase (is_ended (rules.phase s.role))

      ends : Behind s (ended_by rules s k s.course)
      ends = by s.course
        where
          on : (o : Option NearEnd) → end_at s k ≡ o → Behind s (ended_at rules s k o)
          on None e = same s
          on (Some end) e = loses end (cause.LegEnded k (length end.intake.held)) e

          by : (c : Course) → Behind s (ended_by rules s k c)
          by Going = on (end_at s k) refl
          by (Closed why) = same s
          by (Refusing why client rest) = same s

      breaks : Behind s (broken_by rules s k s.course)
      breaks = by s.course
        where
          heard : (why : Cause) (client : Leg) (t : Bool)
              → Behind s (cond t (refuse s why client Unavailable) (close s why))
          heard why client true =
              same_legs s (refuse s why client Unavailable) refl
          heard why client false = same_legs s (close s why) refl

          told : (why : Cause) (o : Option Leg) → Behind s (unreached_by s why o)
          told why None = same_legs s (close s why) refl
          told why (Some client) = heard why client (is_heard (end_at s client))

          wanted : (t : Bool) → Behind s (cond t (unreached rules s k) s)
          wanted true = told (cause.LegBroken k) (rules.answers_on s.role)
          wanted false = same s

          on : (o : Option NearEnd) → end_at s k ≡ o → Behind s (broken_at rules s k o)
          on None e = wanted (wants rules s k)
          on (Some end) e = loses end (cause.LegBroken k) e

          by : (c : Course) → Behind s (broken_by rules s k c)
          by Going = on (end_at s k) refl
          by (Closed why) = same s
          by (Refusing why client rest) = same s

      -- ---- another leg comes up

      comes_up : (cookie : Cookie) → Behind s (after_event rules s (ComesUp k cookie))
      comes_up cookie = by (may_up rules s k)
        where
          at : ℕ
          at = free_place rules s.role k.kind s.legs

          new : NearEnd
          new = new_end k (rules.pipe s.role k) s.now

          on : (h : Stands s)
              → (end_of leg (seated_at s.legs at new) ≡ Some h.end)
              ⊎ (slice_get s.legs at ≡ Some h.end)
              → Stands (with_leg rules s k cookie) ⊎ IsLeft s
          on h (inl stays) =
              inl (record { end = h.end; at = stays; unmarked = h.unmarked })
          on h (inr there) =
              let free = found_passes (is_free rules s.role k.kind) s.legs h.end there in
              inr (left s h.end h.at h.unmarked
              (and_parts (is_of k.kind h.end.leg) (is_finished rules s.role h.end) free).1)

          by : (t : Bool) → Behind s (cond t (with_leg rules s k cookie) s)
          by false = same s
          by true = λ h. on h (seat_forgets leg s.legs at new h.end other h.at)

    -- ---- time

    ticks : (now : ℕ) → Behind s (after_event rules s (Ticks now))
    ticks now = by (is_working rules s && nat_le s.now now)
      where
        silent : (o : Option (Leg × ℕ)) → Behind s (passed_by rules (record s { now = now }) o)
        silent (Some one) =
            same_legs s (passed_by rules (record s { now = now }) (Some one)) refl
        silent None = same_legs s (passed_by rules (record s { now = now }) None) refl

        by : (t : Bool) → Behind s (cond t (passed rules (record s { now = now })) s)
        by true = silent (first_silent rules s.role now s.legs None)
        by false = same s

    -- ---- any event

    -- the leg does not come up by it
    abbrev pub IsAnother : Event → Type 0
    IsAnother (ComesUp k cookie) = same_leg k leg ≡ false
    IsAnother event = Unit {0}

    pub behind : (event : Event) → IsAnother event → is_loss_of leg event ≡ false
        → Behind s (after_event rules s event)
    behind (ComesUp k cookie) other kept = comes_up k other cookie
    behind (Hears k piece) other kept = hears k piece
    behind (Ends k) other kept = ends k kept
    behind (Breaks k) other kept = breaks k kept
    behind (Draws k room) other kept = draws k room
    behind (Ticks now) other kept = ticks now
