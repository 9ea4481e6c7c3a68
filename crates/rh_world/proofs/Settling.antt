-- a settling is its rounds, one after the other, and what is told behind them
use Rattle.std.proofs.Common.{◌≡◌, ℕ, zero, suc, ◌+◌, List, [], ◌∷◌, ◌++◌, true, refl, sym, ap}
use Rattle.rh_record.specs.declared.answer.Answer.{Answer}
use Rattle.rh_record.specs.declared.line.Line.TheVariants.{Settle}
use Rattle.rh_nodes.specs.Reports.{and_then}
use Rattle.rh_nodes.specs.Settling.{rounds_from, behind_round}
use Rattle.rh_world.specs.declared.any_world.AnyWorld.{AnyWorld}
use Rattle.rh_world.specs.declared.any_world.AnyWorld.TheVariants.{Before, Direct, Settings, Roles}
use Rattle.rh_world.specs.Roles as roles
use Rattle.rh_world.specs.Any.{as_roles, begun, settles, round, end_line, step}

-- rounds of a world of roles are those of its nodes
rounds_of_roles : (left count : ℕ) (world : roles.World)
    → rounds_from left count round (Roles world)
    ≡ as_roles (rounds_from left count roles.round world)
unfolding rounds_from
rounds_of_roles zero count world = refl
rounds_of_roles (suc left) count world =
    by (λ next. rounds_of_roles left (count + 1) next) (roles.round world)
  where
    by : ((next : roles.World) → rounds_from left (count + 1) round (Roles next)
        ≡ as_roles (rounds_from left (count + 1) roles.round next))
        → (did : roles.World × List Answer)
        → behind_round count (as_roles did)
        (λ next. rounds_from left (count + 1) round next)
        ≡ as_roles (behind_round count did
        (λ next. rounds_from left (count + 1) roles.round next))
    by same (next, []) = refl
    by same (next, a ∷ more) =
        ap (λ (x : AnyWorld × List Answer). (x.0, (a ∷ more) ++ x.1)) (same next)

pub settled_by_rounds : (world : AnyWorld) (rounds : ℕ) → settles world ≡ true
    → step world (Settle rounds)
    ≡ and_then (rounds_from rounds 0 round (begun world)) end_line
settled_by_rounds Before rounds h = absurd (cc)
settled_by_rounds (Direct world) rounds h = absurd (cc)
settled_by_rounds (Settings config) rounds h =
    sym (ap (λ (x : AnyWorld × List Answer). and_then x end_line)
    (rounds_of_roles rounds 0 (roles.begun config)))
settled_by_rounds (Roles world) rounds h =
    sym (ap (λ (x : AnyWorld × List Answer). and_then x end_line)
    (rounds_of_roles rounds 0 world))
