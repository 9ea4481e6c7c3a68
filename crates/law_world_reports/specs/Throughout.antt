-- windows hold in each state that a recording passes through, not only behind its lines (MS-RPCH
-- 3.2)
use Rattle.law_node_history.specs.Changes.{Leads}
use Rattle.rh_world.specs.declared.any_world.AnyWorld.{AnyWorld}
use Rattle.rh_world.specs.declared.any_world.AnyWorld.TheVariants.{Before, Direct, Settings, Roles}
use Rattle.rh_world.specs.Roles as roles
use Rattle.law_world_reports.specs.Bounded.{HoldWindows}

-- in each world that changes lead to from this one, as each line makes them, each round of settling
-- and each half step, and so in the midst of these
abbrev pub HoldOnwards : roles.World → Type 0
HoldOnwards world =
    (v : roles.World) → Leads roles.rules roles.makers roles.deeds world v → HoldWindows v

-- only a world of roles has nodes
abbrev pub WindowsHoldOnwards : AnyWorld → Type 0
WindowsHoldOnwards Before = Unit {0}
WindowsHoldOnwards (Direct world) = Unit {0}
WindowsHoldOnwards (Settings config) = HoldOnwards (roles.begun config)
WindowsHoldOnwards (Roles world) = HoldOnwards world
