-- a leg that a node has finished, of which it was not told that it is lost, is of no more use to it
use Rattle.law_order.proofs.Vocabulary.{◌≡◌, ◌⊎◌, inl, inr, List, Bool, true, false, true≢false, not, ◌&&◌, ◌||◌, refl, sym, ap, ◌∙◌, subst, and_parts}
use Rattle.rh_shell.specs.NearEnds.{is_empty}
use Rattle.rh_shell.specs.declared.answers.Phase.TheVariants as phase
use Rattle.rh_company.specs.Places as places
use Rattle.law_moves.proofs.Vocabulary.{Leg, Phase, Course, Going, is_ended, is_finished, is_marked, is_useless, Rules, Shell, finished, finished_at, finished_by, is_working_by, state_by, is_in_use, Event, after_events}
use Rattle.law_node_history.proofs.Vocabulary.{Place, Absent, Here, Gone, IsRun}
use Rattle.law_world_ways.proofs.ExactWays.LegGoes.{unused}
use Rattle.law_world_ways.specs.ExactWays.Keeping.{KeepsEnd}

useless_if : (marked useless empty : Bool) → marked ≡ false
    → (marked || (useless && empty)) ≡ true → useless ≡ true
useless_if true useless empty m e = absurd (true≢false m)
useless_if false useless empty m e = (and_parts useless empty e).0

module _ {S : Type 0} (rules : Rules S) (node : Shell S) (leg : Leg)
    (going : node.course ≡ Going) where
  -- it keeps an end, or has no use for the leg
  pub finished_unused : finished rules node leg ≡ true
      → KeepsEnd node leg ⊎ (is_in_use rules node.role leg ≡ false)
      → is_in_use rules node.role leg ≡ false
  finished_unused done (inr none) = none
  finished_unused done (inl k) =
      unused rules node leg k.end k.at
      (useless_if (is_marked k.end.standing) (is_useless rules k.end node.role)
      (is_empty k.end.begun) k.unmarked at)
    where
      at : is_finished rules node.role k.end ≡ true
      at =
          sym (ap (finished_by rules node leg) going
          ∙ ap (finished_at rules node leg) k.at)
          ∙ done

  -- its work is done
  pub stopped_unused : is_working_by (state_by node.course (rules.phase node.role)) ≡ false
      → is_in_use rules node.role leg ≡ false
  stopped_unused stopped =
      by (rules.phase node.role) refl
      (sym (ap (λ (c : Course). is_working_by (state_by c (rules.phase node.role))) going)
      ∙ stopped)
    where
      by : (p : Phase) → rules.phase node.role ≡ p → is_working_by (state_by Going p) ≡ false
          → is_in_use rules node.role leg ≡ false
      by phase.Opening is e = absurd (true≢false e)
      by phase.Open is e = absurd (true≢false e)
      by phase.Ended is e =
          ap (λ (p : Phase). not (is_ended p) && not (rules.is_done node.role leg)) is

-- so it is of a proxy, also of one that was let go
pub place_unused : {S : Type 0} (rules : Rules S) (made : Shell S) (events : List Event)
    (leg : Leg) → (after_events rules made events).course ≡ Going
    → KeepsEnd (after_events rules made events) leg
    ⊎ (is_in_use rules (after_events rules made events).role leg ≡ false)
    → (place : Place S) → IsRun rules made events place
    → places.finished rules leg place ≡ true
    → is_in_use rules (after_events rules made events).role leg ≡ false
place_unused rules made events leg going kept Absent run done = absurd (true≢false (sym done))
place_unused rules made events leg going kept (Here node legs) run done =
    finished_unused rules (after_events rules made events) leg going
    (subst (λ x. finished rules x leg ≡ true) run done) kept
place_unused rules made events leg going kept (Gone now) run done =
    stopped_unused rules (after_events rules made events) leg going run.stopped
