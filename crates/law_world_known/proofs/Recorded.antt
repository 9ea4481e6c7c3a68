-- so it is in a recording whose last settling was quiet
use Rattle.law_order.proofs.Vocabulary.{◌≡◌, ◌++◌, ℕ, List, [], ◌∷◌, refl, subst}
use Rattle.law_node_history.proofs.Vocabulary.{Line, Settle}
use Rattle.law_world_reports.proofs.Bounded.Reached.{IsRecorded, behind_lines}
use Rattle.law_world_reports.proofs.Vocabulary.{AnyWorld, Before, Direct, Settings, Roles, after, step}
use Rattle.law_world_rest.proofs.Recorded.{Laws as RestLaws, BothIn, both_behind}
use Rattle.law_world_rest.specs.Recordings.{RestsIn, RestsWhereQuiet}
use Rattle.law_world_known.proofs.Hops.{Counting, Telling, are_known}
use Rattle.law_world_known.proofs.Worlds.{Laws}
use Rattle.law_world_known.specs.Recordings.{AreKnownIn, KnownWhereQuiet}

pub at_last : (world : AnyWorld) (lines : List Line) (line : Line)
    → after world (lines ++ line ∷ []) ≡ (step (after world lines) line).0
at_last world [] line = refl
at_last world (first ∷ lines) line = at_last (step world first).0 lines line

module _ (law : Laws) (counts : Counting) (tells : Telling) (resting : RestLaws)
    (rests : (before : List Line) (rounds : ℕ) → RestsWhereQuiet (after Before before) rounds)
  where
    in_roles : (world : AnyWorld) → IsRecorded world → BothIn resting world → RestsIn world
        → AreKnownIn world
    in_roles Before is both rest = tt
    in_roles (Direct world) is both rest = tt
    in_roles (Settings config) is both rest = tt
    in_roles (Roles world) is both rest =
        are_known law counts tells is.config is.ranges world is.lines both rest

    pub known_where_quiet : (before : List Line) (rounds : ℕ)
        → KnownWhereQuiet (after Before before) rounds
    known_where_quiet before rounds count quiet =
        let lines = before ++ Settle rounds ∷ [] in
        let same = at_last Before before (Settle rounds) in
        in_roles (step (after Before before) (Settle rounds)).0
        (subst IsRecorded same (behind_lines Before lines tt))
        (subst (BothIn resting) same (both_behind resting Before lines tt))
        (rests before rounds count quiet)
