-- the world of a recording of either form (profile)
use Rattle.std.specs.Prelude.{ℕ, ◌+◌, List, [], ◌∷◌, ◌++◌, Bool, true, false}
use Rattle.rh_record.specs.declared.answer.Answer.{Answer}
use Rattle.rh_record.specs.declared.line.Line.{Line}
use Rattle.rh_record.specs.declared.line.Line.TheVariants.{First, Set}
use Rattle.rh_nodes.specs.declared.half.Half.{Half}
use Rattle.rh_world.specs.declared.any_world.AnyWorld.{AnyWorld}
use Rattle.rh_world.specs.declared.any_world.AnyWorld.TheVariants.{Before, Direct, Settings, Roles}
use Rattle.rh_world.specs.declared.config.WorldConfig.{WorldConfig}
use Rattle.rh_world.specs.Config.{roles_config, with_number}
use Rattle.rh_world.specs.Direct as direct
use Rattle.rh_world.specs.Roles as roles

-- a world of roles that has had all its settings
abbrev pub of_roles : WorldConfig → AnyWorld
of_roles config = Roles (roles.begun config)

-- the world that a line is done to: a first line makes one, a setting changes its numbers, and the
-- first line that is no setting makes the nodes
abbrev pub prepared : AnyWorld → Line → AnyWorld
prepared Before (First false) = Direct direct.empty
prepared Before (First true) = Settings roles_config
prepared (Settings config) (Set key value) = Settings (with_number config key value)
prepared (Settings config) _ = of_roles config
prepared world _ = world

-- a world afterwards, and what is answered
abbrev pub as_direct : direct.World × List Answer → AnyWorld × List Answer
as_direct did = (Direct did.0, did.1)

abbrev pub as_roles : roles.World × List Answer → AnyWorld × List Answer
as_roles did = (Roles did.0, did.1)

abbrev pub act : AnyWorld → Line → AnyWorld × List Answer
act (Direct world) line = as_direct (direct.step world line)
act (Roles world) line = as_roles (roles.step line world)
act world line = (world, [])

abbrev pub step : AnyWorld → Line → AnyWorld × List Answer
step world line = act (prepared world line) line

-- ---- a settling, a round at a time

-- the world that a line is done to which is no first line and no setting
abbrev pub begun : AnyWorld → AnyWorld
begun Before = Before
begun (Direct world) = Direct world
begun (Settings config) = of_roles config
begun (Roles world) = Roles world

-- a world of roles settles
abbrev pub settles : AnyWorld → Bool
settles Before = false
settles (Direct world) = false
settles (Settings config) = true
settles (Roles world) = true

abbrev pub round : AnyWorld → AnyWorld × List Answer
round (Roles world) = as_roles (roles.round world)
round world = (world, [])

-- what is told behind a line's own answers
abbrev pub end_line : AnyWorld → AnyWorld × List Answer
end_line (Roles world) = as_roles (roles.tell_closed world)
end_line world = (world, [])

-- ---- half steps

abbrev pub halved : roles.World × Bool → AnyWorld × Bool
halved did = (Roles did.0, did.1)

-- only in a world of roles is a node told something by itself
abbrev pub half_at : AnyWorld → Half → AnyWorld × Bool
half_at (Roles world) one = halved (roles.half world one)
half_at world one = (world, false)

abbrev pub half : AnyWorld → Half → AnyWorld × Bool
half world one = half_at (begun world) one

-- ---- reports

-- the last lines of a report
abbrev pub last : AnyWorld → List Answer
last Before = []
last (Direct world) = direct.last world
last (Settings config) = roles.last (roles.begun config)
last (Roles world) = roles.last world

-- how many PDUs a direct world was given; one of roles counts as far as its counts go
abbrev pub given : AnyWorld → ℕ
given (Direct world) = world.up.given + world.down.given
given _ = 0

-- ---- recordings

-- the world behind lines
abbrev pub after : AnyWorld → List Line → AnyWorld
after world [] = world
after world (line ∷ lines) = after (step world line).0 lines

-- what lines are answered, one after the other
abbrev pub answers : AnyWorld → List Line → List Answer
answers world [] = []
answers world (line ∷ lines) = (step world line).1 ++ answers (step world line).0 lines

-- what lines are answered, one after the other, and the last lines of the report
abbrev pub told : AnyWorld → List Line → List Answer
told world [] = last world
told world (line ∷ lines) = (step world line).1 ++ told (step world line).0 lines

-- the report of a recording
abbrev pub run : List Line → List Answer
run lines = told Before lines
