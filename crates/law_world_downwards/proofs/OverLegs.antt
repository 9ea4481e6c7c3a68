-- a leg that a node has finished, and of which it was not told that it is lost: it drew all that it
-- put there, and its role has no use for it
use Rattle.rh_shell.specs.NearEnds.{is_empty}
use Rattle.rh_company.specs.Places as places
use Rattle.law_order.proofs.Vocabulary.{◌≡◌, ◌⊎◌, inl, inr, ◌&&◌, ◌||◌, ◌∙◌, ℕ, List, Bool, true, false, true≢false, not, Some, sym, ap, refl, subst, and_parts}
use Rattle.law_moves.proofs.Vocabulary.{Leg, Going, NearEnd, is_ended, is_finished, is_marked, is_useless, Rules, Shell, end_at, ended, finished, finished_at, finished_by, is_in_use, Event, after_events}
use Rattle.law_moves.proofs.Lemmas.{empty_is as none_begun}
use Rattle.law_node_history.proofs.Vocabulary.{Place, Absent, Here, Gone, IsRun}
use Rattle.law_node_marks.specs.Losing.{DrewAll, MayLose}
use Rattle.law_world_ways.proofs.ExactWays.LegGoes.{unused}
use Rattle.law_world_ways.specs.ExactWays.Keeping.{KeepsEnd}

parts_if : (marked useless empty : Bool) → marked ≡ false
    → (marked || (useless && empty)) ≡ true → (useless ≡ true) × (empty ≡ true)
parts_if true useless empty m e = absurd (true≢false m)
parts_if false useless empty m e = and_parts useless empty e

module _ {S : Type 0} (rules : Rules S) (node : Shell S) (leg : Leg)
    (going : node.course ≡ Going)
    (unmarked : (end : NearEnd) → end_at node leg ≡ Some end → is_marked end.standing ≡ false)
    (done : finished rules node leg ≡ true) where
  parts : (end : NearEnd) → end_at node leg ≡ Some end
      → (is_useless rules end node.role ≡ true) × (is_empty end.begun ≡ true)
  parts end at =
      parts_if (is_marked end.standing) (is_useless rules end node.role) (is_empty end.begun)
      (unmarked end at) is
    where
      is : is_finished rules node.role end ≡ true
      is =
          sym (ap (finished_by rules node leg) going ∙ ap (finished_at rules node leg) at)
          ∙ done

  pub drew_all : DrewAll node leg
  drew_all end at = none_begun end.begun (parts end at).1

  pub left : KeepsEnd node leg ⊎ (is_in_use rules node.role leg ≡ false)
      → is_in_use rules node.role leg ≡ false
  left (inr none) = none
  left (inl k) = unused rules node leg k.end k.at (parts k.end k.at).0

-- so it is at the place of a proxy that was not let go
pub finished_there : {S : Type 0} (rules : Rules S) (made : Shell S) (events : List Event)
    (leg : Leg) (place : Place S) → IsRun rules made events place
    → ((now : ℕ) → place ≡ Gone now → ⊥) → places.finished rules leg place ≡ true
    → finished rules (after_events rules made events) leg ≡ true
finished_there rules made events leg Absent run stays done = absurd (true≢false (sym done))
finished_there rules made events leg (Here node legs) run stays done =
    subst (λ x. finished rules x leg ≡ true) run done
finished_there rules made events leg (Gone now) run stays done = absurd (stays now refl)

-- ---- a node that loses a leg for which its role has no use

done_with : (ended done : Bool) → (not ended && not done) ≡ false → not ended ≡ true
    → done ≡ true
done_with true done e work = absurd (true≢false (sym work))
done_with false true e work = refl
done_with false false e work = absurd (true≢false e)

pub goes_unused : {S : Type 0} (rules : Rules S) (node : Shell S) (leg : Leg)
    → (MayLose rules node leg → (ended rules node leg).0.course ≡ node.course)
    → is_in_use rules node.role leg ≡ false → DrewAll node leg
    → (ended rules node leg).0.course ≡ node.course
goes_unused rules node leg loses none drew =
    loses (λ work. inr (
      done_with (is_ended (rules.phase node.role)) (rules.is_done node.role leg) none work,
      drew,
    ))
