-- the worlds of a recording that are at rest (profile)
use Rattle.std.specs.Prelude.{ℕ}
use Rattle.rh_record.specs.declared.answer.Answer.TheVariants.{Quiet}
use Rattle.rh_record.specs.declared.line.Line.TheVariants.{Settle}
use Rattle.law_node_history.specs.Closes.{IsOneOf}
use Rattle.rh_world.specs.declared.any_world.AnyWorld.{AnyWorld}
use Rattle.rh_world.specs.declared.any_world.AnyWorld.TheVariants.{Before, Direct, Settings, Roles}
use Rattle.rh_world.specs.Any.{step}
use Rattle.rh_world.specs.Roles as roles
use Rattle.law_world_rest.specs.Rest.{IsAtRest}

-- only a world of roles settles
abbrev pub RestsIn : AnyWorld → Type 0
RestsIn Before = Unit {0}
RestsIn (Direct world) = Unit {0}
RestsIn (Settings config) = Unit {0}
RestsIn (Roles world) = IsAtRest roles.rules roles.makers roles.deeds world

-- behind a `settle` line that answers quiet
abbrev pub RestsWhereQuiet : AnyWorld → ℕ → Type 0
RestsWhereQuiet world rounds =
    (count : ℕ) → IsOneOf (Quiet count) (step world (Settle rounds)).1
    → RestsIn (step world (Settle rounds)).0
