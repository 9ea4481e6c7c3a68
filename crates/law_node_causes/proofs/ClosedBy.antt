-- which event closes a node with which cause
use Rattle.law_order.proofs.Vocabulary.{◌≡◌, ℕ, ◌≤◌, List, length, cond, Bool, true, false, Some, None, refl, sym, ap, ◌∙◌, subst, ◌&&◌, nat_le, Option, leb-true}
use Rattle.rh_line.specs.declared.cause.Cause.TheVariants as cause
use Rattle.rh_shell.specs.declared.answers.Phase.TheVariants as phase
use Rattle.rh_shell.specs.declared.stage.Stage.TheVariants as stage
use Rattle.rh_company.specs.declared.event.Event.{Event}
use Rattle.rh_company.specs.declared.event.Event.TheVariants.{Comes, Ends, Breaks, Passes}
use Rattle.rh_company.specs.Telling.{cause_in, closing, happens}
use Rattle.law_moves.proofs.Vocabulary.{Refusal, Unavailable, Leg, Cause, Verdict, Phase, Course, Going, Closed, Refusing, Stop, Rules, NearEnd, is_ended, is_finished, marked, Turn, goes, hear, Shell, state_by, verdict_by, state_of, is_working, end_at, with_end, close, refuse, stop_by, stopped, bytes_at, bytes_by, lose, lost, ended_at, ended_by, wants, is_heard, unreached_by, unreached, broken_at, broken_by, first_silent, passed_by, passed, ticked, ClosedWith}
use Rattle.law_moves.proofs.Lemmas.{both}
use Rattle.law_node_causes.proofs.Sorts.{end_leg}
use Rattle.law_node_causes.proofs.HeardBytes.{IsStop, piece_stops}
use Rattle.law_node_causes.proofs.FirstSilent.{silent_first}
use Rattle.law_node_causes.specs.Reasons.{EndsPartly, FallsSilent, RefusesHead, IsOfPiece, ComesAmiss}
use Rattle.law_node_causes.specs.Closings.{ClosesWith, MayClose, IsRefusal, ComesFrom}

-- ---- a node that closed now was going, and has that cause

going_is : (c : Course) (f : Phase) (now : Verdict) (why : Cause)
    → closing (state_by c f) now ≡ Some why → (c ≡ Going) × (cause_in now ≡ Some why)
going_is Going phase.Opening now why h = (refl, h)
going_is Going phase.Open now why h = (refl, h)
going_is Going phase.Ended now why h = (refl, h)
going_is (Closed first) f now why h = absurd cc
going_is (Refusing first leg rest) f now why h = absurd cc

closed_is : (c : Course) (f : Phase) (why : Cause)
    → cause_in (verdict_by (state_by c f)) ≡ Some why → ClosedWith why c
closed_is Going phase.Opening why h = absurd cc
closed_is Going phase.Open why h = absurd cc
closed_is Going phase.Ended why h = absurd cc
closed_is (Closed first) f why h = cc
closed_is (Refusing first leg rest) f why h = cc

module _ {S : Type 0} (rules : Rules S) (s : Shell S) (why : Cause) where
  pub told_is : (t : Shell S)
      → closing (state_of rules s) (verdict_by (state_of rules t)) ≡ Some why
      → (s.course ≡ Going) × ClosedWith why t.course
  told_is t h =
      let going = going_is s.course (rules.phase s.role) (verdict_by (state_of rules t)) why h in
      (going.0, closed_is t.course (rules.phase t.role) why going.1)

  module _ (is : s.course ≡ Going) where
    -- it was not closed before
    was_going : {A : Type 0} → ClosedWith why s.course → A
    was_going h = absurd (subst (ClosedWith why) is h)

    -- ---- a leg is lost

    record IsLost (end : NearEnd) (first : Cause) : Type 0 where
      unfinished : is_finished rules s.role end ≡ false
      cause : first ≡ why

    lost_is : (leg : Leg) (end : NearEnd) (first : Cause)
        → ClosedWith why (lost rules s leg end first).course → IsLost end first
    lost_is leg end first = by (is_finished rules s.role end) refl
      where
        by_mark : (t : Bool) → ClosedWith why
            (cond t (with_end s leg (marked end) (rules.mark s.role leg)) (close s first)).course
            → first ≡ why
        by_mark true h = was_going h
        by_mark false h = h

        by_phase : (t : Bool) → ClosedWith why
            (cond t (with_end s leg (marked end) s.role)
            (cond (rules.only_marks s.role leg)
            (with_end s leg (marked end) (rules.mark s.role leg)) (close s first))).course
            → first ≡ why
        by_phase true h = was_going h
        by_phase false h = by_mark (rules.only_marks s.role leg) h

        by : (t : Bool) → is_finished rules s.role end ≡ t
            → ClosedWith why (cond t s (lose rules s leg end first)).course → IsLost end first
        by true e h = was_going h
        by false e h = record {
          unfinished = e;
          cause = by_phase (is_ended (rules.phase s.role)) h;
        }

    ends_is : (leg : Leg) → ClosedWith why (ended_by rules s leg s.course).course
        → EndsPartly rules s leg why
    ends_is leg h =
        by (end_at s leg) refl
        (subst (λ (c : Course). ClosedWith why (ended_by rules s leg c).course) is h)
      where
        by : (o : Option NearEnd) → end_at s leg ≡ o
            → ClosedWith why (ended_at rules s leg o).course → EndsPartly rules s leg why
        by None e h = was_going h
        by (Some end) e h =
            let l = lost_is leg end (cause.LegEnded leg (length end.intake.held)) h in
            record { end = end; at = e; unfinished = l.unfinished; cause = sym l.cause }

    breaks_is : (leg : Leg) → ClosedWith why (broken_by rules s leg s.course).course
        → why ≡ cause.LegBroken leg
    breaks_is leg h =
        by (end_at s leg)
        (subst (λ (c : Course). ClosedWith why (broken_by rules s leg c).course) is h)
      where
        heard : (client : Leg) (t : Bool) → ClosedWith why
            (cond t (refuse s (cause.LegBroken leg) client Unavailable)
            (close s (cause.LegBroken leg))).course → why ≡ cause.LegBroken leg
        heard client true h = sym h
        heard client false h = sym h

        client : (o : Option Leg)
            → ClosedWith why (unreached_by s (cause.LegBroken leg) o).course
            → why ≡ cause.LegBroken leg
        client None h = sym h
        client (Some leg) h = heard leg (is_heard (end_at s leg)) h

        wanted : (t : Bool) → ClosedWith why (cond t (unreached rules s leg) s).course
            → why ≡ cause.LegBroken leg
        wanted true h = client (rules.answers_on s.role) h
        wanted false h = was_going h

        by : (o : Option NearEnd) → ClosedWith why (broken_at rules s leg o).course
            → why ≡ cause.LegBroken leg
        by None h = wanted (wants rules s leg) h
        by (Some end) h = sym (lost_is leg end (cause.LegBroken leg) h).cause

    -- ---- time

    passes_is : (now : ℕ) → ClosedWith why (ticked rules s now).course
        → FallsSilent rules s now why
    passes_is now = by (is_working rules s && nat_le s.now now) refl
      where
        found : (o : Option (Leg × ℕ)) → s.now ≤ now
            → first_silent rules s.role now s.legs None ≡ o
            → ClosedWith why (passed_by rules (record s { now = now }) o).course
            → FallsSilent rules s now why
        found None later e h = was_going h
        found (Some one) later e h =
            let f = silent_first rules s.role now s.legs one e in
            record {
              end = f.end;
              later = later;
              first = f.first;
              cause =
                  sym h
                  ∙ ap (λ (l : Leg). cause.Silent l one.1 now) (sym f.leg)
                  ∙ ap (λ (n : ℕ). cause.Silent f.end.leg n now) (sym f.since);
            }

        by : (t : Bool) → (is_working rules s && nat_le s.now now) ≡ t
            → ClosedWith why (cond t (passed rules (record s { now = now })) s).course
            → FallsSilent rules s now why
        by true e h =
            let parts = both (is_working rules s) (nat_le s.now now) e in
            found (first_silent rules s.role now s.legs None) (leb-true s.now now parts.1) refl h
        by false e h = was_going h

    -- ---- bytes

    comes_is : (leg : Leg) (piece : List ℕ)
        → ClosedWith why (bytes_by rules s leg piece s.course).course
        → ComesAmiss rules s leg piece why
    comes_is leg piece h =
        by (end_at s leg) refl
        (subst (λ (c : Course). ClosedWith why (bytes_by rules s leg piece c).course) is h)
      where
        stop_is : (t : Shell S) (stop : Stop) (o : Option Refusal)
            → ClosedWith why (stop_by t leg stop.cause o).course → stop.cause ≡ why
        stop_is t stop None h = h
        stop_is t stop (Some refusal) h = h

        stops : (end : NearEnd) (t : Turn S) (o : Option Stop) → t.stop ≡ o
            → ((first : Stop) → t.stop ≡ Some first
            → IsStop end.leg (end.intake.stage ≡ stage.Head)
            (RefusesHead rules s.role end piece) first)
            → ClosedWith why (stopped (with_end s leg t.end t.role) leg o).course
            → IsOfPiece end.leg (RefusesHead rules s.role end piece) why
        stops end t None e all h = was_going h
        stops end t (Some first) e all h =
            subst (IsOfPiece end.leg (RefusesHead rules s.role end piece))
            (stop_is (with_end s leg t.end t.role) first first.refusal h) (all first e).cause

        by : (o : Option NearEnd) → end_at s leg ≡ o
            → ClosedWith why (bytes_at rules s leg piece o).course
            → ComesAmiss rules s leg piece why
        by None e h = was_going h
        by (Some end) e h =
            let t = hear rules s.now (goes end s.role) piece in
            let same = end_leg leg s.legs end e in
            record {
              end = end;
              at = e;
              same = same;
              cause =
                  subst (λ (l : Leg). IsOfPiece l (RefusesHead rules s.role end piece) why) same
                  (stops end t t.stop refl (piece_stops rules s.now end s.role piece) h);
            }

-- ---- each event

pub closes : {S : Type 0} (rules : Rules S) (s : Shell S) (event : Event) (why : Cause)
    → ClosesWith rules s event why → MayClose rules s event why
closes rules s (Comes leg piece) why h =
    let t = told_is rules s why (happens rules s (Comes leg piece)).0 h in
    comes_is rules s why t.0 leg piece t.1
closes rules s (Ends leg) why h =
    let t = told_is rules s why (happens rules s (Ends leg)).0 h in
    ends_is rules s why t.0 leg t.1
closes rules s (Breaks leg) why h =
    let t = told_is rules s why (happens rules s (Breaks leg)).0 h in
    breaks_is rules s why t.0 leg t.1
closes rules s (Passes now) why h =
    let t = told_is rules s why (happens rules s (Passes now)).0 h in
    passes_is rules s why t.0 now t.1

-- ---- each cause

module _ {S : Type 0} (rules : Rules S) (s : Shell S) where
  refused_there : (leg l : Leg) (piece : List ℕ) (end : NearEnd) (status : ℕ)
      → end_at s leg ≡ Some end → l ≡ leg → RefusesHead rules s.role end piece status
      → IsRefusal rules s (Comes leg piece) l status
  refused_there leg l piece end status at same refuses =
      subst (λ (x : Leg). IsRefusal rules s (Comes leg piece) x status) (sym same)
      (record { piece = piece; is = refl; end = end; at = at; refuses = refuses })

  of_piece : (leg : Leg) (piece : List ℕ) (end : NearEnd) (why : Cause) → end_at s leg ≡ Some end
      → IsOfPiece leg (RefusesHead rules s.role end piece) why
      → ComesFrom rules s (Comes leg piece) why
  of_piece leg piece end (cause.LegBroken l) at h = absurd h
  of_piece leg piece end (cause.LegEnded l partial) at h = absurd h
  of_piece leg piece end (cause.Silent l since now) at h = absurd h
  of_piece leg piece end (cause.HttpRefused l status) at h =
      refused_there leg l piece end status at h.0 h.1
  of_piece leg piece end why at h = record { leg = leg; piece = piece; is = refl }

  comes_from : (event : Event) (why : Cause) → MayClose rules s event why
      → ComesFrom rules s event why
  comes_from (Comes leg piece) why h = of_piece leg piece h.end why h.at h.cause
  comes_from (Ends leg) why h = subst (ComesFrom rules s (Ends leg)) (sym h.cause) refl
  comes_from (Breaks leg) why h = subst (ComesFrom rules s (Breaks leg)) (sym h) refl
  comes_from (Passes now) why h = subst (ComesFrom rules s (Passes now)) (sym h.cause) refl

  pub from_event : (event : Event) (why : Cause) → ClosesWith rules s event why
      → ComesFrom rules s event why
  from_event event why h = comes_from event why (closes rules s event why h)
