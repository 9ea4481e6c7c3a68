-- each world of roles that a recording comes to by changes that end legs in time keeps all
use Rattle.law_node_history.proofs.Lemmas.{cast_kept}
use Rattle.rh_world.specs.Roles as roles
use Rattle.law_world_reports.proofs.Vocabulary.{AnyWorld, Before, Direct, Settings, Roles, WorldConfig, AreInRange}
use Rattle.law_world_order.proofs.Recorded.{ours}
use Rattle.law_world_order.proofs.Vocabulary.{numbers_of}
use Rattle.law_world_ways.specs.EndsInTime.InTime.{EndsInTime}
use Rattle.law_world_ways.specs.EndsInTime.Losses.{IsEndedInTime, RolesEndInTime}
use Rattle.law_world_ways.specs.OnPaths.Ways.{AreOnTheirWay}
use Rattle.law_world_ways.specs.ExactPaths.Exact.{IsExact, KeepsAll, RolesKeepAll, history_until}
use Rattle.law_world_ways.specs.ExactPaths.GoingOn.{AllGoOn}

-- what is known of the changes that lead to a world from settings in their ranges
pub record Laws : Type 0 where
  pub ways : (config : WorldConfig) → AreInRange config → (world : roles.World)
      (ends : EndsInTime roles.rules roles.makers roles.deeds (roles.begun config) world)
      → AreOnTheirWay (numbers_of (ours config)) world (history_until config world ends)
  pub exact : (config : WorldConfig) → AreInRange config → (world : roles.World)
      (ends : EndsInTime roles.rules roles.makers roles.deeds (roles.begun config) world)
      → AllGoOn (numbers_of (ours config)) (history_until config world ends)
      → (ways : AreOnTheirWay (numbers_of (ours config)) world (history_until config world ends))
      → IsExact (numbers_of (ours config)) world (history_until config world ends) ways

roles_keep : Laws → (world : roles.World) → RolesEndInTime world → RolesKeepAll world
roles_keep law world h =
    let ways = law.ways h.config h.ranges world h.ends in
    record {
      config = h.config;
      settings =
          cast_kept roles.rules roles.makers roles.deeds (roles.begun h.config) world
          h.ends.lines.leads;
      ours = ours h.config;
      ends = h.ends;
      ways = ways;
      exact = λ going. law.exact h.config h.ranges world h.ends going ways;
    }

pub each_keeps : Laws → (world : AnyWorld) → IsEndedInTime world → KeepsAll world
each_keeps law Before h = tt
each_keeps law (Direct world) h = tt
each_keeps law (Settings config) h = tt
each_keeps law (Roles world) h = roles_keep law world h
