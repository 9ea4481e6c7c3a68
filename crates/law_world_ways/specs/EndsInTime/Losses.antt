-- lines by which a leg is lost, and recordings (profile)
use Rattle.std.specs.Prelude.{◌≡◌, List, [], ◌∷◌, Bool, true, false}
use Rattle.rh_record.specs.declared.line.Line.{Line}
use Rattle.rh_record.specs.declared.line.Line.TheVariants.{BreakLeg, EndLeg}
use Rattle.rh_company.specs.Company.{Rulebook}
use Rattle.rh_nodes.specs.Breaking.{break_leg, end_leg}
use Rattle.rh_nodes.specs.World.{World}
use Rattle.rh_world.specs.declared.any_world.AnyWorld.{AnyWorld}
use Rattle.rh_world.specs.declared.any_world.AnyWorld.TheVariants.{Before, Direct, Settings, Roles}
use Rattle.rh_world.specs.declared.config.WorldConfig.{WorldConfig}
use Rattle.rh_world.specs.Any.{prepared, step}
use Rattle.rh_world.specs.Config.{AreInRange}
use Rattle.rh_world.specs.Roles as roles
use Rattle.law_world_ways.specs.EndsInTime.InTime.{EndsInTime, IsOver}

-- ---- lines

-- a `break` or `end` line that is answered ok is of a leg that is over
abbrev pub LosesInTime : {K C S I O : Type 0} → Rulebook C S I O → World K C S I O → Line → Type 0
LosesInTime r w (BreakLeg leg) = (break_leg r w leg).1 ≡ true → IsOver r w leg
LosesInTime r w (EndLeg leg dir) = (end_leg r w leg dir).1 ≡ true → IsOver r w leg
LosesInTime r w line = Unit {0}

-- so it is of each line but these two
abbrev pub loses_no_leg : Line → Bool
loses_no_leg (BreakLeg leg) = false
loses_no_leg (EndLeg leg dir) = false
loses_no_leg line = true

-- ---- recordings

-- only a world of roles has legs
abbrev pub LosesInTimeAt : AnyWorld → Line → Type 0
LosesInTimeAt Before line = Unit {0}
LosesInTimeAt (Direct world) line = Unit {0}
LosesInTimeAt (Settings config) line = Unit {0}
LosesInTimeAt (Roles world) line = LosesInTime roles.rules world line

-- each line of a recording, where it is done
abbrev pub AllLoseInTime : AnyWorld → List Line → Type 0
AllLoseInTime world [] = Unit {0}
AllLoseInTime world (line ∷ lines) =
    LosesInTimeAt (prepared world line) line × AllLoseInTime (step world line).0 lines

-- such changes lead to a world of roles from the one that settings begin, whose numbers are in
-- their ranges
pub record RolesEndInTime (world : roles.World) : Type 0 where
  pub config : WorldConfig
  pub ranges : AreInRange config
  pub ends : EndsInTime roles.rules roles.makers roles.deeds (roles.begun config) world

abbrev pub IsEndedInTime : AnyWorld → Type 0
IsEndedInTime Before = Unit {0}
IsEndedInTime (Direct world) = Unit {0}
IsEndedInTime (Settings config) = Unit {0}
IsEndedInTime (Roles world) = RolesEndInTime world
