-- what lines make of a world, and come to (profile)
use Rattle.std.specs.Prelude.{List, [], ◌∷◌}
use Rattle.rh_record.specs.declared.line.Line.{Line}
use Rattle.rh_world.specs.declared.any_world.AnyWorld.{AnyWorld}
use Rattle.rh_world.specs.declared.any_world.AnyWorld.TheVariants.{Before, Direct, Settings, Roles}
use Rattle.rh_world.specs.Any.{after, answers, step}
use Rattle.rh_made.specs.declared.tally.Tally.{Tally}
use Rattle.rh_made.specs.Tallies.{with, tally_of}

-- the world behind lines, and what their answers come to
pub record Made : Type 0 where
  pub world : AnyWorld
  pub tally : Tally

-- by lines from the first one on
unfoldable pub made_by : List Line → Made
made_by lines = record {
  world = after Before lines;
  tally = tally_of (answers Before lines);
}

-- ---- one line after the other

abbrev pub does : Made → Line → Made
does made line = record {
  world = (step made.world line).0;
  tally = with made.tally (step made.world line).1;
}

abbrev pub do_all : Made → List Line → Made
do_all made [] = made
do_all made (line ∷ lines) = do_all (does made line) lines

-- a world of roles
abbrev pub IsOfRoles : AnyWorld → Type 0
IsOfRoles Before = ⊥
IsOfRoles (Direct world) = ⊥
IsOfRoles (Settings config) = Unit {0}
IsOfRoles (Roles world) = Unit {0}
