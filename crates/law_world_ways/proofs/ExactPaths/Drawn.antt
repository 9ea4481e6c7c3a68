-- on a leg that a node has finished and of which it was not told that it is lost, nothing is begun
use Rattle.law_order.proofs.Vocabulary.{◌≡◌, ℕ, List, [], Bool, true, false, true≢false, ◌&&◌, ◌||◌, Some, None, refl, sym, ap, ◌∙◌, subst, Option, and_parts}
use Rattle.rh_shell.specs.NearEnds.{is_empty}
use Rattle.rh_company.specs.Places as places
use Rattle.law_moves.proofs.Vocabulary.{Leg, Going, NearEnd, is_finished, is_marked, is_useless, Rules, Shell, end_at, finished, finished_at, finished_by, Event, after_events}
use Rattle.law_moves.proofs.Lemmas.{empty_is as none_begun}
use Rattle.law_node_history.proofs.Vocabulary.{Place, Absent, Here, Gone, IsRun}
use Rattle.law_world_ways.specs.OnPaths.OnWay.{left_on}

-- it keeps no end on which bytes are begun
abbrev pub NoneBegun : {S : Type 0} → Shell S → Leg → Type 0
NoneBegun node leg = (end : NearEnd) → end_at node leg ≡ Some end → end.begun ≡ []

pub nothing_left : {S : Type 0} (node : Shell S) (leg : Leg) (up told : Bool)
    → node.course ≡ Going → told ≡ false → NoneBegun node leg
    → left_on node leg up told ≡ Some []
nothing_left node leg up told going untold none = by (end_at node leg) refl up refl
  where
    by : (o : Option NearEnd) → end_at node leg ≡ o → (u : Bool) → up ≡ u
        → left_on node leg up told ≡ Some []
    by (Some end) at u is =
        let kept : left_on node leg up told ≡ Some end.begun = rw (going, at) refl in
        kept ∙ ap (λ (bytes : List ℕ). Some bytes) (none end at)
    by None at true is = rw (going, at, is, untold) refl
    by None at false is = rw (going, at, is) refl

empty_if : (marked useless empty : Bool) → marked ≡ false
    → (marked || (useless && empty)) ≡ true → empty ≡ true
empty_if true useless empty m e = absurd (true≢false m)
empty_if false useless empty m e = (and_parts useless empty e).1

-- what is known of a leg: no end of it is marked
abbrev pub IsUnmarked : {S : Type 0} → Shell S → Leg → Type 0
IsUnmarked node leg =
    (end : NearEnd) → end_at node leg ≡ Some end → is_marked end.standing ≡ false

pub finished_empty : {S : Type 0} (rules : Rules S) (node : Shell S) (leg : Leg)
    → node.course ≡ Going → IsUnmarked node leg → finished rules node leg ≡ true
    → NoneBegun node leg
finished_empty rules node leg going unmarked done end at =
    none_begun end.begun
    (empty_if (is_marked end.standing) (is_useless rules end node.role) (is_empty end.begun)
    (unmarked end at) is)
  where
    is : is_finished rules node.role end ≡ true
    is =
        sym (ap (finished_by rules node leg) going ∙ ap (finished_at rules node leg) at) ∙ done

-- so it is at the place of a proxy that was not let go
pub place_empty : {S : Type 0} (rules : Rules S) (made : Shell S) (events : List Event)
    (leg : Leg) → (after_events rules made events).course ≡ Going
    → IsUnmarked (after_events rules made events) leg
    → (place : Place S) → IsRun rules made events place
    → ((now : ℕ) → place ≡ Gone now → ⊥)
    → places.finished rules leg place ≡ true → NoneBegun (after_events rules made events) leg
place_empty rules made events leg going unmarked Absent run stays done =
    absurd (true≢false (sym done))
place_empty rules made events leg going unmarked (Here node legs) run stays done =
    finished_empty rules (after_events rules made events) leg going unmarked
    (subst (λ x. finished rules x leg ≡ true) run done)
place_empty rules made events leg going unmarked (Gone now) run stays done =
    absurd (stays now refl)
