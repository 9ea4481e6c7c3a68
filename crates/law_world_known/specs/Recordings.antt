-- the hops of recordings at rest (MS-RPCH 3.2; profile)
use Rattle.std.specs.Prelude.{ℕ}
use Rattle.rh_record.specs.declared.answer.Answer.TheVariants.{Quiet}
use Rattle.rh_record.specs.declared.line.Line.TheVariants.{Settle}
use Rattle.law_node_history.specs.Closes.{IsOneOf}
use Rattle.rh_world.specs.declared.any_world.AnyWorld.{AnyWorld}
use Rattle.rh_world.specs.declared.any_world.AnyWorld.TheVariants.{Before, Direct, Settings, Roles}
use Rattle.rh_world.specs.Any.{step}
use Rattle.law_world_known.specs.Known.{AreKnown}

-- only a world of roles has hops
abbrev pub AreKnownIn : AnyWorld → Type 0
AreKnownIn Before = Unit {0}
AreKnownIn (Direct world) = Unit {0}
AreKnownIn (Settings config) = Unit {0}
AreKnownIn (Roles world) = AreKnown world

-- behind a `settle` line that answers quiet
abbrev pub KnownWhereQuiet : AnyWorld → ℕ → Type 0
KnownWhereQuiet world rounds =
    (count : ℕ) → IsOneOf (Quiet count) (step world (Settle rounds)).1
    → AreKnownIn (step world (Settle rounds)).0
