-- changes that lines make lead to each world of roles that a recording comes to, from one that
-- begins with numbers in their ranges; the cookies of the client's legs are drawn for them
use Rattle.law_order.proofs.Vocabulary.{List, [], ◌∷◌, true, false}
use Rattle.law_node_history.proofs.Vocabulary.{Line, First, Set, Give, Take, Close, Send, Move, OpenLeg, OpenSame, BreakLeg, EndLeg, Tick, RecycleIn, RecycleOut, Settle, ByLines, AreDrawnFor, DrawnByLines, all_risen}
use Rattle.law_node_history.proofs.Lemmas.{draws_none, draws_then, step_draws}
use Rattle.rh_world.specs.Roles as roles
use Rattle.law_world_reports.proofs.Vocabulary.{AnyWorld, Before, Direct, Settings, Roles, WorldConfig, act, after, prepared, step, AreInRange}
use Rattle.law_world_reports.proofs.Bounded.Numbers.{first_in_range, number_in_range}

pub record IsReached (world : roles.World) : Type 0 where
  pub config : WorldConfig
  pub ranges : AreInRange config
  pub lines : ByLines roles.rules roles.makers roles.deeds (roles.begun config) world
  pub drawn : AreDrawnFor (all_risen lines.leads.changes) (roles.begun config).cookies
      world.cookies

reached_by : (config : WorldConfig) → AreInRange config → (world : roles.World)
    → DrawnByLines roles.rules roles.makers roles.deeds (roles.begun config) world
    → IsReached world
reached_by config ranges world draws = record {
  config = config;
  ranges = ranges;
  lines = draws.works;
  drawn = draws.drawn;
}

abbrev pub reached_draws : (world : roles.World) (reached : IsReached world)
    → DrawnByLines roles.rules roles.makers roles.deeds (roles.begun reached.config) world
reached_draws world reached = record { works = reached.lines; drawn = reached.drawn }

begun_reached : (config : WorldConfig) → AreInRange config → IsReached (roles.begun config)
begun_reached config ranges =
    reached_by config ranges (roles.begun config)
    (draws_none roles.rules roles.makers roles.deeds (roles.begun config))

step_reached : (world : roles.World) (line : Line) → IsReached world
    → IsReached (roles.step line world).0
step_reached world line reached =
    reached_by reached.config reached.ranges (roles.step line world).0
    (draws_then roles.rules roles.makers roles.deeds (roles.begun reached.config) world
    (roles.step line world).0 (reached_draws world reached)
    (step_draws roles.rules roles.makers roles.deeds line world))

-- ---- the world of a recording

abbrev pub IsRecorded : AnyWorld → Type 0
IsRecorded Before = Unit {0}
IsRecorded (Direct world) = Unit {0}
IsRecorded (Settings config) = AreInRange config
IsRecorded (Roles world) = IsReached world

pub prepared_is_recorded : (world : AnyWorld) (line : Line) → IsRecorded world
    → IsRecorded (prepared world line)
prepared_is_recorded Before (First false) h = tt
prepared_is_recorded Before (First true) h = first_in_range
prepared_is_recorded Before (Set key value) h = tt
prepared_is_recorded Before (Give side pdu) h = tt
prepared_is_recorded Before (Take side) h = tt
prepared_is_recorded Before (Close side) h = tt
prepared_is_recorded Before (Send leg dir count) h = tt
prepared_is_recorded Before (Move leg dir count) h = tt
prepared_is_recorded Before (OpenLeg leg) h = tt
prepared_is_recorded Before (OpenSame leg) h = tt
prepared_is_recorded Before (BreakLeg leg) h = tt
prepared_is_recorded Before (EndLeg leg dir) h = tt
prepared_is_recorded Before (Tick now) h = tt
prepared_is_recorded Before RecycleIn h = tt
prepared_is_recorded Before RecycleOut h = tt
prepared_is_recorded Before (Settle rounds) h = tt
prepared_is_recorded (Direct world) line h = tt
prepared_is_recorded (Settings config) (First kind) h = begun_reached config h
prepared_is_recorded (Settings config) (Set key value) h = number_in_range config key value h
prepared_is_recorded (Settings config) (Give side pdu) h = begun_reached config h
prepared_is_recorded (Settings config) (Take side) h = begun_reached config h
prepared_is_recorded (Settings config) (Close side) h = begun_reached config h
prepared_is_recorded (Settings config) (Send leg dir count) h = begun_reached config h
prepared_is_recorded (Settings config) (Move leg dir count) h = begun_reached config h
prepared_is_recorded (Settings config) (OpenLeg leg) h = begun_reached config h
prepared_is_recorded (Settings config) (OpenSame leg) h = begun_reached config h
prepared_is_recorded (Settings config) (BreakLeg leg) h = begun_reached config h
prepared_is_recorded (Settings config) (EndLeg leg dir) h = begun_reached config h
prepared_is_recorded (Settings config) (Tick now) h = begun_reached config h
prepared_is_recorded (Settings config) RecycleIn h = begun_reached config h
prepared_is_recorded (Settings config) RecycleOut h = begun_reached config h
prepared_is_recorded (Settings config) (Settle rounds) h = begun_reached config h
prepared_is_recorded (Roles world) line h = h

pub acted_is_recorded : (world : AnyWorld) (line : Line) → IsRecorded world
    → IsRecorded (act world line).0
acted_is_recorded Before line h = h
acted_is_recorded (Direct world) line h = tt
acted_is_recorded (Settings config) line h = h
acted_is_recorded (Roles world) line h = step_reached world line h

pub behind_lines : (world : AnyWorld) (lines : List Line) → IsRecorded world
    → IsRecorded (after world lines)
behind_lines world [] h = h
behind_lines world (line ∷ lines) h =
    behind_lines (step world line).0 lines
    (acted_is_recorded (prepared world line) line (prepared_is_recorded world line h))
