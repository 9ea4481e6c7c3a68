-- each close that a recording reports (profile)
use Rattle.std.specs.Prelude.{◌≡◌, ℕ, Some}
use Rattle.rh_text.specs.declared.ends.Dir.TheVariants.{D}
use Rattle.rh_line.specs.declared.cause.Cause.{Cause}
use Rattle.rh_line.specs.declared.cause.Cause.TheVariants as cause
use Rattle.rh_line.specs.declared.leg.Leg.{Leg}
use Rattle.rh_record.specs.declared.answer.Answer.TheVariants as answer
use Rattle.rh_record.specs.declared.answer.Who.{Who}
use Rattle.rh_record.specs.declared.answer.Who.TheVariants.{Client}
use Rattle.rh_record.specs.declared.line.Line.{Line}
use Rattle.rh_nodes.specs.Steps.{step_line}
use Rattle.law_node_history.specs.Closes.{IsOneOf}
use Rattle.law_node_causes.specs.Closings.{IsResponse}
use Rattle.rh_world.specs.declared.any_world.AnyWorld.{AnyWorld}
use Rattle.rh_world.specs.declared.any_world.AnyWorld.TheVariants.{Before, Direct, Settings, Roles}
use Rattle.rh_world.specs.Roles as roles
use Rattle.law_world_reports.specs.Closed.Licences.{IsLicensed, midst}

-- a line of a world of roles
abbrev pub IsLicensedAt : roles.World → Line → Who → Cause → Type 0
IsLicensedAt w line node why =
    IsLicensed roles.rules roles.makers roles.deeds line w node why

-- a line of a recording of roles reports a close for its reason, and any other line none
abbrev pub IsLicensedIn : AnyWorld → Line → Who → Cause → Type 0
IsLicensedIn Before line node why = ⊥
IsLicensedIn (Direct w) line node why = ⊥
IsLicensedIn (Settings config) line node why = ⊥
IsLicensedIn (Roles w) line node why = IsLicensedAt w line node why

-- the client was refused, for a response on the leg that bytes made whole which moved towards it
pub record RefusesClient (w : roles.World) (line : Line) (node : Who) (leg : Leg) (status : ℕ)
    (is : IsLicensedAt w line node (cause.HttpRefused leg status)) : Type 0 where
  pub client : node ≡ Client
  pub response : IsResponse
      (midst roles.rules roles.makers roles.deeds line w node (cause.HttpRefused leg status)
      is).company.client is.closed.closes.event leg status
  pub moved : IsOneOf (answer.Move (Some leg) D (Some response.piece))
      (step_line roles.rules roles.makers roles.deeds line w).1

abbrev pub IsRefusedIn : AnyWorld → Line → Who → Leg → ℕ → Type 0
IsRefusedIn Before line node leg status = ⊥
IsRefusedIn (Direct w) line node leg status = ⊥
IsRefusedIn (Settings config) line node leg status = ⊥
IsRefusedIn (Roles w) line node leg status =
    (is : IsLicensedAt w line node (cause.HttpRefused leg status))
    × RefusesClient w line node leg status is
