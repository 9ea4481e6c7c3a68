-- the moment of a node, and pieces that are not heard
use Rattle.law_order.proofs.Vocabulary.{◌≡◌, ℕ, zero, suc, ◌≤◌, List, [], ◌∷◌, length, take, drop, cond, Bool, true, false, Some, None, arith, refl, sym, ap, ◌∙◌, subst, ◌&&◌, not, nat_le, slice_get, slice_set, Option, leb-true}
use Rattle.rh_line.specs.declared.cause.Cause.TheVariants as cause
use Rattle.rh_shell.specs.NearEnds.{is_empty}
use Rattle.law_moves.proofs.Vocabulary.{Refusal, Unavailable, Cause, Leg, Course, Going, Closed, Refusing, Stop, Rules, NearEnd, is_marked, is_ended, is_finished, is_over, goes, hear, draw, Shell, same_leg, end_at, with_end, place, turned, close, refuse, stop_by, stopped, may_up, with_leg, bytes_at, bytes_by, lost, ended_at, ended_by, wants, is_heard, unreached_by, unreached, broken_at, broken_by, put_back, drawn_at, drawn_by, first_silent, passed_by, passed, is_working}
use Rattle.law_moves.proofs.Vocabulary.{Event, ComesUp, Hears, Ends, Breaks, Draws, Ticks, after_event}
use Rattle.law_moves.proofs.Lemmas.{both}
use Rattle.law_node_causes.proofs.LegChanges.{piece_unheard}
use Rattle.law_node_causes.specs.Moments.{hears_bytes, moment_after}

module _ {S : Type 0} (rules : Rules S) where
  -- ---- what is not heard

  set_itself : (ends : List NearEnd) (i : ℕ) (end : NearEnd) → slice_get ends i ≡ Some end
      → slice_set ends i end ≡ ends
  set_itself [] i end at = refl
  set_itself (x ∷ xs) zero end at = let same : end ≡ x = cc in ap (λ (y : NearEnd). y ∷ xs) same
  set_itself (x ∷ xs) (suc i) end at =
      ap (λ (ys : List NearEnd). x ∷ ys) (set_itself xs i end at)

  end_stays : (s : Shell S) (leg : Leg) (end : NearEnd) → end_at s leg ≡ Some end
      → with_end s leg end s.role ≡ s
  end_stays s leg end at =
      ap (λ (ends : List NearEnd). record s { legs = ends })
      (set_itself s.legs (place leg s.legs) end at)

  pub unheard_stays : (s : Shell S) (leg : Leg) (piece : List ℕ)
      → hears_bytes rules s leg piece ≡ false → after_event rules s (Hears leg piece) ≡ s
  unheard_stays s leg piece h = by_course s.course refl
    where
      by_end : (o : Option NearEnd) → s.course ≡ Going → end_at s leg ≡ o
          → bytes_at rules s leg piece o ≡ s
      by_end None is at = refl
      by_end (Some end) is at =
          let deaf : (not (is_empty piece) && not (is_over rules end s.role)) ≡ false =
          rw (is, at) at h in
          ap (turned s leg) (piece_unheard rules s.now end s.role piece deaf)
          ∙ end_stays s leg end at

      by_course : (c : Course) → s.course ≡ c → bytes_by rules s leg piece c ≡ s
      by_course Going is = by_end (end_at s leg) is refl
      by_course (Closed why) is = refl
      by_course (Refusing why client rest) is = refl

  -- ---- moments

  module _ (s : Shell S) where
    -- the moment stays
    abbrev Stays : Shell S → Type 0
    Stays t = t.now ≡ s.now

    either : (b : Bool) (t u : Shell S) → Stays t → Stays u → Stays (cond b t u)
    either true t u p q = p
    either false t u p q = q

    pair : (b : Bool) (t u : Shell S × List ℕ) → Stays t.0 → Stays u.0 → Stays (cond b t u).0
    pair true t u p q = p
    pair false t u p q = q

    on_stop : (t : Shell S) (leg : Leg) (o : Option Stop) → Stays t → Stays (stopped t leg o)
    on_stop t leg None same = same
    on_stop t leg (Some why) same = by why.refusal
      where
        by : (o : Option Refusal) → Stays (stop_by t leg why.cause o)
        by None = same
        by (Some refusal) = same

    loses : (leg : Leg) (end : NearEnd) (why : Cause) → Stays (lost rules s leg end why)
    loses leg end why =
        either (is_finished rules s.role end) s _ refl
        (either (is_ended (rules.phase s.role)) _ _ refl
        (either (rules.only_marks s.role leg) _ _ refl refl))

    hears : (leg : Leg) (piece : List ℕ) → Stays (bytes_by rules s leg piece s.course)
    hears leg piece = by_course s.course
      where
        by_end : (o : Option NearEnd) → Stays (bytes_at rules s leg piece o)
        by_end None = refl
        by_end (Some end) =
            let t = hear rules s.now (goes end s.role) piece in
            on_stop (with_end s leg t.end t.role) leg t.stop refl

        by_course : (c : Course) → Stays (bytes_by rules s leg piece c)
        by_course Going = by_end (end_at s leg)
        by_course (Closed why) = refl
        by_course (Refusing why client rest) = refl

    ends : (leg : Leg) → Stays (ended_by rules s leg s.course)
    ends leg = by_course s.course
      where
        by_end : (o : Option NearEnd) → Stays (ended_at rules s leg o)
        by_end None = refl
        by_end (Some end) = loses leg end (cause.LegEnded leg (length end.intake.held))

        by_course : (c : Course) → Stays (ended_by rules s leg c)
        by_course Going = by_end (end_at s leg)
        by_course (Closed why) = refl
        by_course (Refusing why client rest) = refl

    breaks : (leg : Leg) → Stays (broken_by rules s leg s.course)
    breaks leg = by_course s.course
      where
        by_client : (o : Option Leg) → Stays (unreached_by s (cause.LegBroken leg) o)
        by_client None = refl
        by_client (Some client) = either (is_heard (end_at s client))
            (refuse s (cause.LegBroken leg) client Unavailable) (close s (cause.LegBroken leg)) refl
            refl

        by_end : (o : Option NearEnd) → Stays (broken_at rules s leg o)
        by_end None =
            either (wants rules s leg) (unreached rules s leg) s
            (by_client (rules.answers_on s.role)) refl
        by_end (Some end) = loses leg end (cause.LegBroken leg)

        by_course : (c : Course) → Stays (broken_by rules s leg c)
        by_course Going = by_end (end_at s leg)
        by_course (Closed why) = refl
        by_course (Refusing why client rest) = refl

    draws : (leg : Leg) (n : ℕ) → Stays (drawn_by rules s leg n s.course).0
    draws leg n = by_course s.course
      where
        by_end : (o : Option NearEnd) → Stays (drawn_at rules s leg n o).0
        by_end None = refl
        by_end (Some end) =
            pair (is_marked end.standing) (s, [])
            (put_back s leg (draw rules s.now n end s.role)) refl refl

        by_course : (c : Course) → Stays (drawn_by rules s leg n c).0
        by_course Going = by_end (end_at s leg)
        by_course (Closed why) = refl
        by_course (Refusing why client rest) =
            pair (same_leg client leg)
            (record s { course = Refusing why client (drop n rest) }, take n rest) (s, []) refl
            refl

    ticks : (now : ℕ)
        → (after_event rules s (Ticks now)).now ≡ moment_after rules s (Ticks now)
    ticks now = by_time (is_working rules s && nat_le s.now now)
      where
        by : (o : Option (Leg × ℕ)) → (passed_by rules (record s { now = now }) o).now ≡ now
        by None = refl
        by (Some silent) = refl

        by_time : (t : Bool) → (cond t (passed rules (record s { now = now })) s).now
            ≡ cond t now s.now
        by_time true = by (first_silent rules s.role now s.legs None)
        by_time false = refl

  pub moment_is : (s : Shell S) (event : Event)
      → (after_event rules s event).now ≡ moment_after rules s event
  moment_is s (ComesUp leg cookie) =
      either s (may_up rules s leg) (with_leg rules s leg cookie) s refl refl
  moment_is s (Hears leg piece) = hears s leg piece
  moment_is s (Ends leg) = ends s leg
  moment_is s (Breaks leg) = breaks s leg
  moment_is s (Draws leg n) = draws s leg n
  moment_is s (Ticks now) = ticks s now

  -- ---- none is below an earlier one

  tick_later : (s : Shell S) (now : ℕ) (t : Bool)
      → (is_working rules s && nat_le s.now now) ≡ t → s.now ≤ cond t now s.now
  tick_later s now true e =
      leb-true s.now now (both (is_working rules s) (nat_le s.now now) e).1
  tick_later s now false e = omega arith

  after_later : (s : Shell S) (event : Event) → s.now ≤ moment_after rules s event
  after_later s (ComesUp leg cookie) = omega arith
  after_later s (Hears leg piece) = omega arith
  after_later s (Ends leg) = omega arith
  after_later s (Breaks leg) = omega arith
  after_later s (Draws leg n) = omega arith
  after_later s (Ticks now) = tick_later s now (is_working rules s && nat_le s.now now) refl

  pub moment_later : (s : Shell S) (event : Event) → s.now ≤ (after_event rules s event).now
  moment_later s event =
      subst (λ (n : ℕ). s.now ≤ n) (sym (moment_is s event)) (after_later s event)
