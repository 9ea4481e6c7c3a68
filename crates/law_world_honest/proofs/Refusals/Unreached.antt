-- a node that a broken leg made refuse wanted that leg, so it had never come up there
use Rattle.law_order.proofs.Vocabulary.{◌≡◌, ℕ, List, Bool, true, false, Some, None, if◌then◌else◌, refl, sym, ◌∙◌, subst, ⊎_elim, Option, true≢false, cases_Bool}
use Rattle.rh_line.specs.declared.cause.Cause.TheVariants as cause
use Rattle.law_moves.proofs.Vocabulary.{Cause, Leg, Course, Going, Closed, Refusing, NearEnd, is_ended, is_finished, marked, Rules, Shell, broken_at, broken_by, close, end_at, lose, lost, unreached, wants, with_end, Event, Breaks, after_event, after_events}
use Rattle.law_node_history.proofs.Vocabulary.{AreAccepted, ComesUpOnce, came_up}

abbrev Refuses : Course → Type 0
Refuses Going = ⊥
Refuses (Closed why) = ⊥
Refuses (Refusing why client rest) = Unit {0}

module _ {S : Type 0} (rules : Rules S) (s : Shell S) (leg : Leg) (going : s.course ≡ Going) where
  still : Refuses s.course → ⊥
  still h = subst Refuses going h

  neither : (t : Bool) (a b : Shell S) → (Refuses a.course → ⊥) → (Refuses b.course → ⊥)
      → Refuses (if t then a else b).course → ⊥
  neither true a b x y = x
  neither false a b x y = y

  -- a leg that is lost makes no node refuse
  lost_closes : (end : NearEnd) (why : Cause) → Refuses (lost rules s leg end why).course → ⊥
  lost_closes end why =
      let end_marked = with_end s leg (marked end) s.role in
      let role_marked = with_end s leg (marked end) (rules.mark s.role leg) in
      neither (is_finished rules s.role end) s (lose rules s leg end why) still
      (neither (is_ended (rules.phase s.role)) end_marked
      (if rules.only_marks s.role leg then role_marked else close s why) still
      (neither (rules.only_marks s.role leg) role_marked (close s why) still (λ h. h)))

  by_want : (t : Bool) → wants rules s leg ≡ t
      → Refuses (if t then unreached rules s leg else s).course → wants rules s leg ≡ true
  by_want true e h = e
  by_want false e h = absurd (still h)

  by_end : (o : Option NearEnd) → Refuses (broken_at rules s leg o).course
      → wants rules s leg ≡ true
  by_end None h = by_want (wants rules s leg) refl h
  by_end (Some end) h = absurd (lost_closes end (cause.LegBroken leg) h)

  wants_lost : Refuses (broken_by rules s leg s.course).course → wants rules s leg ≡ true
  wants_lost h =
      by_end (end_at s leg)
      (subst (λ (c : Course). Refuses (broken_by rules s leg c).course) going h)

module _ {S : Type 0} (rules : Rules S) (first : Shell S) (once : ComesUpOnce rules first)
    (before : List Event) (leg : Leg) (accepted : AreAccepted rules first before) where
  abbrev node : Shell S
  node = after_events rules first before

  pub never_up : node.course ≡ Going → (why : Cause) (client : Leg) (rest : List ℕ)
      → (after_event rules node (Breaks leg)).course ≡ Refusing why client rest
      → came_up leg before ≡ false
  never_up going why client rest refuses =
      let may =
      once.wanted before leg accepted
      (wants_lost rules node leg going (subst Refuses (sym refuses) tt)) in
      ⊎_elim (λ up. absurd (true≢false (sym may ∙ once.once before leg accepted up))) (λ down. down)
      (cases_Bool (came_up leg before))
