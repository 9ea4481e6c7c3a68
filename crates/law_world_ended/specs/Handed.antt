-- in proxies that lose their newest ci leg only once IN_R1/A5 came there (profile)
use Rattle.std.specs.Prelude.{◌≡◌, ◌⊎◌, ℕ}
use Rattle.rh_inproxy.specs.Machine as in_proxy
use Rattle.rh_shell.specs.declared.answers.Phase.TheVariants as phase
use Rattle.rh_world.specs.declared.any_world.AnyWorld.{AnyWorld}
use Rattle.rh_world.specs.declared.any_world.AnyWorld.TheVariants.{Before, Direct, Settings, Roles}
use Rattle.rh_world.specs.declared.config.WorldConfig.{WorldConfig}
use Rattle.rh_world.specs.Roles as roles
use Rattle.law_node_history.specs.Histories.{History, all_noted, nothing}
use Rattle.law_role_marks.specs.Marks.{marks_handed}
use Rattle.law_node_traces.specs.Traced.Ours.{AreOurs}
use Rattle.law_node_marks.specs.Losing.{AllAgree}
use Rattle.law_world_order.specs.Flows.{Numbers, numbers_of}
use Rattle.law_world_ways.specs.EndsInTime.InTime.{EndsInTime}
use Rattle.law_world_ways.specs.OnPaths.Ways.{client_node}

-- whatever happened at each, by these rules no other ci leg may be lost while it is the newest one
abbrev pub LoseHandedOver : Numbers → History → Type 0
LoseHandedOver numbers h =
    (n : ℕ) → AllAgree in_proxy.rules marks_handed (in_proxy.first_node (numbers.ins n)) (h.ins n)

-- so it is, or the client's work is done
abbrev pub EndBehindMarks : Numbers → History → Type 0
EndBehindMarks numbers h =
    ((client_node numbers h).role.phase ≡ phase.Ended) ⊎ LoseHandedOver numbers h

-- changes that end a leg only where it is over lead to a world of roles from its settings, and there
-- it is so
pub record RolesEndBehindMarks (world : roles.World) : Type 0 where
  pub config : WorldConfig
  pub ours : AreOurs roles.makers (roles.begun config).company config
  pub ends : EndsInTime roles.rules roles.makers roles.deeds (roles.begun config) world
  pub marked : EndBehindMarks (numbers_of ours)
      (all_noted roles.rules roles.makers roles.deeds (roles.begun config) nothing
      ends.lines.leads.changes)

-- only a world of roles has legs
abbrev pub AreEndedBehindMarks : AnyWorld → Type 0
AreEndedBehindMarks Before = Unit {0}
AreEndedBehindMarks (Direct world) = Unit {0}
AreEndedBehindMarks (Settings config) = Unit {0}
AreEndedBehindMarks (Roles world) = RolesEndBehindMarks world
