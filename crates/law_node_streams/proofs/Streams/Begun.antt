-- what is begun on a leg at a node that goes on no more was begun before
use Rattle.law_order.proofs.Vocabulary.{◌≡◌, ℕ, List, [], length, cond, Bool, true, false, Some, None, refl, sym, ap, ◌∙◌, ◌&&◌, nat_le, slice_set, take, drop, Option, and_parts}
use Rattle.rh_line.specs.declared.cause.Cause.TheVariants as cause
use Rattle.law_moves.proofs.Vocabulary.{Cookie, Unavailable, Cause, Leg, Course, Going, Closed, Refusing, Drawn, draw, Turn, goes, hear, NearEnd, is_ended, is_finished, is_marked, marked, Rules, Shell, bytes_at, bytes_by, broken_at, broken_by, close, drawn_at, drawn_by, end_at, ended_at, ended_by, first_silent, is_heard, is_working, lose, lost, may_up, passed, passed_by, place, put_back, refuse, same_leg, unreached, unreached_by, wants, with_end, with_leg, has_room, started, AreHeld, Event, ComesUp, Hears, Ends, Breaks, Draws, Ticks, IsHeld, after_event}
use Rattle.law_moves.proofs.Lemmas.{leg_is}
use Rattle.law_node_streams.proofs.Streams.Ends.{end_has, end_is, end_of, set_beside, set_here}
use Rattle.law_node_streams.proofs.Streams.Pieces.{piece_heard}
use Rattle.law_node_streams.proofs.Streams.Seats.{at_work, stop_keeps}

-- there was an end of the leg at which the same was begun
pub record WasBegun (leg : Leg) (ends : List NearEnd) (end : NearEnd) : Type 0 where
  pub before : NearEnd
  pub at : end_of leg ends ≡ Some before
  pub same : end.begun ≡ before.begun

-- as it is at a node that goes on no more
abbrev pub KeepsBegun : {S : Type 0} → Leg → Shell S → Shell S → Type 0
KeepsBegun leg s t =
    (t.course ≡ Going → ⊥) → (end : NearEnd) → end_of leg t.legs ≡ Some end
    → WasBegun leg s.legs end

pub same_begun : {S : Type 0} (leg : Leg) (s t : Shell S) → t.legs ≡ s.legs → KeepsBegun leg s t
same_begun leg s t legs stopped end at =
    record { before = end; at = ap (end_of leg) (sym legs) ∙ at; same = refl }

module _ {S : Type 0} (rules : Rules S) (leg : Leg) (s : Shell S) (held : AreHeld s) where
  goes_on : (t : Shell S) → t.course ≡ Going → KeepsBegun leg s t
  goes_on t is stopped end at = absurd (stopped is)

  changes : (k : Leg) (old new end : NearEnd) → end_of k s.legs ≡ Some old → new.leg ≡ old.leg
      → new.begun ≡ old.begun → end_of leg (slice_set s.legs (place k s.legs) new) ≡ Some end
      → WasBegun leg s.legs end
  changes k old new end is legs begun at = by (same_leg k leg) refl
    where
      by : (b : Bool) → same_leg k leg ≡ b → WasBegun leg s.legs end
      by true e =
          let here : ◌≡◌ {A = Option NearEnd} (Some new) (Some end) =
          sym (set_here k s.legs old new is legs)
          ∙ ap (λ (l : Leg). end_of l (slice_set s.legs (place k s.legs) new)) (leg_is k leg e)
          ∙ at in
          let one : end ≡ new = cc in
          record {
            before = old;
            at = ap (λ (l : Leg). end_of l s.legs) (sym (leg_is k leg e)) ∙ is;
            same = ap (λ (x : NearEnd). x.begun) one ∙ begun;
          }
      by false e = record {
        before = end;
        at = sym (set_beside k leg s.legs old new is legs e) ∙ at;
        same = refl;
      }

  hears : (k : Leg) (piece : List ℕ) → KeepsBegun leg s (bytes_by rules s k piece s.course)
  hears k piece = by s.course
    where
      on : (o : Option NearEnd) → end_at s k ≡ o
          → KeepsBegun leg s (bytes_at rules s k piece o)
      on None e = same_begun leg s s refl
      on (Some old) e = λ stopped end at.
          let is = sym (end_is k s.legs) ∙ e in
          let t : Turn S = hear rules s.now (goes old s.role) piece in
          let h = piece_heard rules s.now (started s.role) (goes old s.role) piece refl refl
          (end_has IsHeld k s.legs old is held) in
          changes k old t.end end is h.same.leg h.same.begun
          (ap (end_of leg) (sym (stop_keeps (with_end s k t.end t.role) k t.stop).legs) ∙ at)

      by : (c : Course) → KeepsBegun leg s (bytes_by rules s k piece c)
      by Going = on (end_at s k) refl
      by (Closed why) = same_begun leg s s refl
      by (Refusing why client rest) = same_begun leg s s refl

  draws : (k : Leg) (room : ℕ) → KeepsBegun leg s (drawn_by rules s k room s.course).0
  draws k room = by s.course refl
    where
      marked_or : (end : NearEnd) → s.course ≡ Going → (t : Bool)
          → KeepsBegun leg s (cond {A = Shell S × List ℕ} t (s, [])
          (put_back s k (draw rules s.now room end s.role))).0
      marked_or end is true = same_begun leg s s refl
      marked_or end is false =
          let d : Drawn S = draw rules s.now room end s.role in
          goes_on (with_end s k d.end d.role) is

      on : (o : Option NearEnd) → s.course ≡ Going
          → KeepsBegun leg s (drawn_at rules s k room o).0
      on None is = same_begun leg s s refl
      on (Some end) is = marked_or end is (is_marked end.standing)

      rest_of : (why : Cause) (client : Leg) (rest : List ℕ) (t : Bool)
          → KeepsBegun leg s (cond {A = Shell S × List ℕ} t
          (record s { course = Refusing why client (drop room rest) }, take room rest) (s, [])).0
      rest_of why client rest true =
          same_begun leg s (record s { course = Refusing why client (drop room rest) }) refl
      rest_of why client rest false = same_begun leg s s refl

      by : (c : Course) → s.course ≡ c → KeepsBegun leg s (drawn_by rules s k room c).0
      by Going is = on (end_at s k) is
      by (Closed why) is = same_begun leg s s refl
      by (Refusing why client rest) is = rest_of why client rest (same_leg client k)

  -- ---- a leg is lost

  loses : (k : Leg) (end : NearEnd) (why : Cause) → s.course ≡ Going
      → KeepsBegun leg s (lost rules s k end why)
  loses k end why is = by (is_finished rules s.role end)
    where
      by_marks : (t : Bool)
          → KeepsBegun leg s (cond t (with_end s k (marked end) (rules.mark s.role k))
          (close s why))
      by_marks true = goes_on (with_end s k (marked end) (rules.mark s.role k)) is
      by_marks false = same_begun leg s (close s why) refl

      by_phase : (t : Bool)
          → KeepsBegun leg s (cond t (with_end s k (marked end) s.role)
          (cond (rules.only_marks s.role k)
          (with_end s k (marked end) (rules.mark s.role k)) (close s why)))
      by_phase true = goes_on (with_end s k (marked end) s.role) is
      by_phase false = by_marks (rules.only_marks s.role k)

      by : (t : Bool) → KeepsBegun leg s (cond t s (lose rules s k end why))
      by true = same_begun leg s s refl
      by false = by_phase (is_ended (rules.phase s.role))

  ends : (k : Leg) → KeepsBegun leg s (ended_by rules s k s.course)
  ends k = by s.course refl
    where
      on : (o : Option NearEnd) → s.course ≡ Going → KeepsBegun leg s (ended_at rules s k o)
      on None is = same_begun leg s s refl
      on (Some end) is = loses k end (cause.LegEnded k (length end.intake.held)) is

      by : (c : Course) → s.course ≡ c → KeepsBegun leg s (ended_by rules s k c)
      by Going is = on (end_at s k) is
      by (Closed why) is = same_begun leg s s refl
      by (Refusing why client rest) is = same_begun leg s s refl

  breaks : (k : Leg) → KeepsBegun leg s (broken_by rules s k s.course)
  breaks k = by s.course refl
    where
      heard : (why : Cause) (client : Leg) (t : Bool)
          → KeepsBegun leg s (cond t (refuse s why client Unavailable) (close s why))
      heard why client true = same_begun leg s (refuse s why client Unavailable) refl
      heard why client false = same_begun leg s (close s why) refl

      told : (why : Cause) (o : Option Leg) → KeepsBegun leg s (unreached_by s why o)
      told why None = same_begun leg s (close s why) refl
      told why (Some client) = heard why client (is_heard (end_at s client))

      wanted : (t : Bool) → KeepsBegun leg s (cond t (unreached rules s k) s)
      wanted true = told (cause.LegBroken k) (rules.answers_on s.role)
      wanted false = same_begun leg s s refl

      on : (o : Option NearEnd) → s.course ≡ Going → KeepsBegun leg s (broken_at rules s k o)
      on None is = wanted (wants rules s k)
      on (Some end) is = loses k end (cause.LegBroken k) is

      by : (c : Course) → s.course ≡ c → KeepsBegun leg s (broken_by rules s k c)
      by Going is = on (end_at s k) is
      by (Closed why) is = same_begun leg s s refl
      by (Refusing why client rest) is = same_begun leg s s refl

  -- ---- any event

  comes_up : (k : Leg) (cookie : Cookie)
      → KeepsBegun leg s (after_event rules s (ComesUp k cookie))
  comes_up k cookie = by (may_up rules s k) refl
    where
      by : (t : Bool) → may_up rules s k ≡ t → KeepsBegun leg s (cond t (with_leg rules s k cookie) s)
      by true may =
          goes_on (with_leg rules s k cookie) (at_work s.course (rules.phase s.role)
          (and_parts (is_working rules s) (has_room rules s k.kind && rules.may_up s.role k)
          may).0).0
      by false may = same_begun leg s s refl

  ticks : (now : ℕ) → KeepsBegun leg s (after_event rules s (Ticks now))
  ticks now = by (is_working rules s && nat_le s.now now)
    where
      silent : (o : Option (Leg × ℕ))
          → KeepsBegun leg s (passed_by rules (record s { now = now }) o)
      silent (Some one) =
          same_begun leg s (passed_by rules (record s { now = now }) (Some one)) refl
      silent None = same_begun leg s (passed_by rules (record s { now = now }) None) refl

      by : (t : Bool) → KeepsBegun leg s (cond t (passed rules (record s { now = now })) s)
      by true = silent (first_silent rules s.role now s.legs None)
      by false = same_begun leg s s refl

  pub begun_before : (event : Event) → KeepsBegun leg s (after_event rules s event)
  begun_before (ComesUp k cookie) = comes_up k cookie
  begun_before (Hears k piece) = hears k piece
  begun_before (Ends k) = ends k
  begun_before (Breaks k) = breaks k
  begun_before (Draws k room) = draws k room
  begun_before (Ticks now) = ticks now
