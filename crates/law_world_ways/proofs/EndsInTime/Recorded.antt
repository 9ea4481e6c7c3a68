-- each world of roles that a recording comes to is reached by changes that end a leg only where it
-- is over
use Rattle.law_order.proofs.Vocabulary.{◌≡◌, List, [], ◌∷◌, true, false, list_all, and_parts}
use Rattle.law_node_history.proofs.Vocabulary.{Line, First, Set}
use Rattle.rh_world.specs.Roles as roles
use Rattle.law_world_reports.proofs.Vocabulary.{AnyWorld, Before, Direct, Settings, Roles, WorldConfig, act, after, prepared, step, AreInRange}
use Rattle.law_world_reports.proofs.Bounded.Reached.{prepared_is_recorded}
use Rattle.law_world_ways.proofs.EndsInTime.Behind.{NoLeg}
use Rattle.law_world_ways.proofs.EndsInTime.Both.{none_up}
use Rattle.law_world_ways.proofs.EndsInTime.Goes.{InTime, ends_in_time, goes_none, goes_then}
use Rattle.law_world_ways.proofs.EndsInTime.EachLine.{others_lose_none, step_in_time, step_keeps}
use Rattle.law_world_ways.specs.EndsInTime.Both.{AreUpAtBoth}
use Rattle.law_world_ways.specs.EndsInTime.Losses.{AllLoseInTime, IsEndedInTime, LosesInTime, LosesInTimeAt, loses_no_leg}

record IsReached (world : roles.World) : Type 0 where
  config : WorldConfig
  ranges : AreInRange config
  both : AreUpAtBoth world
  goes : InTime roles.rules roles.makers roles.deeds (roles.begun config) world

begun_reached : (config : WorldConfig) → AreInRange config → IsReached (roles.begun config)
begun_reached config ranges = record {
  config = config;
  ranges = ranges;
  both = none_up;
  goes = goes_none roles.rules roles.makers roles.deeds NoLeg (roles.begun config);
}

step_reached : (world : roles.World) (line : Line) → LosesInTime roles.rules world line
    → IsReached world → IsReached (roles.step line world).0
step_reached world line over reached = record {
  config = reached.config;
  ranges = reached.ranges;
  both = step_keeps roles.rules roles.makers roles.deeds line world reached.both;
  goes =
      goes_then roles.rules roles.makers roles.deeds NoLeg (roles.begun reached.config) world
      (roles.step line world).0 reached.goes
      (step_in_time roles.rules roles.makers roles.deeds line world reached.both over);
}

abbrev IsRecorded : AnyWorld → Type 0
IsRecorded Before = Unit {0}
IsRecorded (Direct world) = Unit {0}
IsRecorded (Settings config) = AreInRange config
IsRecorded (Roles world) = IsReached world

prepared_recorded : (world : AnyWorld) (line : Line) → IsRecorded world
    → IsRecorded (prepared world line)
prepared_recorded Before (First false) h = tt
prepared_recorded Before (First true) h = prepared_is_recorded Before (First true) tt
prepared_recorded Before line h = tt
prepared_recorded (Direct world) line h = tt
prepared_recorded (Settings config) (Set key value) h =
    prepared_is_recorded (Settings config) (Set key value) h
prepared_recorded (Settings config) line h = begun_reached config h
prepared_recorded (Roles world) line h = h

acted_recorded : (world : AnyWorld) (line : Line) → LosesInTimeAt world line
    → IsRecorded world → IsRecorded (act world line).0
acted_recorded Before line over h = h
acted_recorded (Direct world) line over h = tt
acted_recorded (Settings config) line over h = h
acted_recorded (Roles world) line over h = step_reached world line over h

behind_lines : (world : AnyWorld) (lines : List Line) → AllLoseInTime world lines
    → IsRecorded world → IsRecorded (after world lines)
behind_lines world [] all h = h
behind_lines world (line ∷ lines) all h =
    behind_lines (step world line).0 lines all.1
    (acted_recorded (prepared world line) line all.0 (prepared_recorded world line h))

in_each : (world : AnyWorld) → IsRecorded world → IsEndedInTime world
in_each Before h = tt
in_each (Direct world) h = tt
in_each (Settings config) h = tt
in_each (Roles world) h = record {
  config = h.config;
  ranges = h.ranges;
  ends =
      ends_in_time roles.rules roles.makers roles.deeds (roles.begun h.config) world h.goes;
}

pub recording_in_time : (before : List Line) → AllLoseInTime Before before
    → IsEndedInTime (after Before before)
recording_in_time before all =
    in_each (after Before before) (behind_lines Before before all tt)

-- ---- with no line by which a leg is lost

at_others : (world : AnyWorld) (line : Line) → loses_no_leg line ≡ true
    → LosesInTimeAt world line
at_others Before line is = tt
at_others (Direct world) line is = tt
at_others (Settings config) line is = tt
at_others (Roles world) line is = others_lose_none roles.rules world line is

pub none_lose : (world : AnyWorld) (lines : List Line) → list_all loses_no_leg lines ≡ true
    → AllLoseInTime world lines
none_lose world [] is = tt
none_lose world (line ∷ lines) is =
    let parts = and_parts (loses_no_leg line) (list_all loses_no_leg lines) is in
    (at_others (prepared world line) line parts.0, none_lose (step world line).0 lines parts.1)
