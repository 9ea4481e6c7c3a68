-- a node of a recording that fell silent (profile)
use Rattle.std.specs.Prelude.{ℕ, true}
use Rattle.rh_line.specs.declared.cause.Cause.TheVariants as cause
use Rattle.rh_line.specs.declared.leg.Leg.{Leg}
use Rattle.rh_record.specs.declared.answer.Answer.TheVariants as answer
use Rattle.rh_record.specs.declared.answer.Who.{Who}
use Rattle.rh_record.specs.declared.answer.Who.TheVariants.{Client, Server, In, Out}
use Rattle.rh_record.specs.declared.line.Line.{Line}
use Rattle.rh_company.specs.declared.event.Event.{Event}
use Rattle.rh_company.specs.Cookies.{cookie_of}
use Rattle.rh_nodes.specs.Steps.{step_line}
use Rattle.law_node_history.specs.Changes.{Leads}
use Rattle.law_node_history.specs.Closes.{IsOneOf}
use Rattle.law_node_history.specs.Histories.{History, all_noted, nothing}
use Rattle.law_node_causes.specs.Watching.{ClientFellSilent, InProxyFellSilent}
use Rattle.rh_world.specs.declared.any_world.AnyWorld.{AnyWorld}
use Rattle.rh_world.specs.declared.any_world.AnyWorld.TheVariants.{Before, Direct, Settings, Roles}
use Rattle.rh_world.specs.declared.config.WorldConfig.{WorldConfig}
use Rattle.rh_world.specs.Roles as roles
use Rattle.law_world_reports.specs.Closed.Licences.{midst}
use Rattle.law_world_reports.specs.Closed.Recordings.{IsLicensedAt}

-- by what happened at the node: only a client and an in proxy fall silent
abbrev pub FellSilent : WorldConfig → History → Who → Event → Leg → ℕ → ℕ → Type 0
FellSilent config h Client event leg since now =
    ClientFellSilent (roles.client_config config (cookie_of 1) (cookie_of 2)) h.client event leg
    since now
FellSilent config h Server event leg since now = ⊥
FellSilent config h (In n) event leg since now =
    InProxyFellSilent (roles.in_config config n) (h.ins n) event leg since now
FellSilent config h (Out n) event leg since now = ⊥

-- the line told the moment, to a node at which all that happened led from a new world to where it
-- closed
pub record IsSilentAt (w : roles.World) (line : Line) (node : Who) (leg : Leg) (since now : ℕ)
    (is : IsLicensedAt w line node (cause.Silent leg since now)) : Type 0 where
  pub told : IsOneOf (answer.Tick now true)
      (step_line roles.rules roles.makers roles.deeds line w).1
  pub config : WorldConfig
  pub leads : Leads roles.rules roles.makers roles.deeds (roles.begun config)
      (midst roles.rules roles.makers roles.deeds line w node (cause.Silent leg since now) is)
  pub fell : FellSilent config
      (all_noted roles.rules roles.makers roles.deeds (roles.begun config) nothing leads.changes)
      node is.closed.closes.event leg since now

abbrev pub IsSilentIn : AnyWorld → Line → Who → Leg → ℕ → ℕ → Type 0
IsSilentIn Before line node leg since now = ⊥
IsSilentIn (Direct w) line node leg since now = ⊥
IsSilentIn (Settings config) line node leg since now = ⊥
IsSilentIn (Roles w) line node leg since now =
    (is : IsLicensedAt w line node (cause.Silent leg since now))
    × IsSilentAt w line node leg since now is
