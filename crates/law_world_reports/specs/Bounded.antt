-- in a recording of roles each node holds of the RPC PDUs that came at most the receive window that
-- it advertised (MS-RPCH 3.2)
use Rattle.std.specs.Prelude.{ℕ}
use Rattle.rh_line.specs.Lines.{Line}
use Rattle.rh_inproxy.specs.State.{InProxy}
use Rattle.rh_outproxy.specs.OutProxy.{OutProxy}
use Rattle.rh_company.specs.declared.place.Place.{Place}
use Rattle.rh_company.specs.declared.place.Place.TheVariants.{Absent, Here, Gone}
use Rattle.law_node_history.specs.Histories.{in_place, out_place}
use Rattle.rh_world.specs.declared.any_world.AnyWorld.{AnyWorld}
use Rattle.rh_world.specs.declared.any_world.AnyWorld.TheVariants.{Before, Direct, Settings, Roles}
use Rattle.rh_world.specs.Roles as roles
use Rattle.law_role_windows.specs.Held.{Holds}

-- a proxy that is there holds at most this window
abbrev pub HoldsHere : {S : Type 0} → (S → Line) → ℕ → Place S → Type 0
HoldsHere line window Absent = Unit {0}
HoldsHere line window (Here node legs) = Holds window (line node.role)
HoldsHere line window (Gone now) = Unit {0}

-- each node holds at most its window, which is a number of the world
pub record HoldWindows (world : roles.World) : Type 0 where
  pub client : Holds world.cast.cwin world.company.client.role.line
  pub server : Holds world.cast.swin world.company.server.role.line
  pub ins : (number : ℕ)
      → HoldsHere (λ (proxy : InProxy). proxy.line) world.cast.iwin
      (in_place world.company number)
  pub outs : (number : ℕ)
      → HoldsHere (λ (proxy : OutProxy). proxy.line) world.cast.owin
      (out_place world.company number)

-- only a world of roles has nodes
abbrev pub WindowsHold : AnyWorld → Type 0
WindowsHold Before = Unit {0}
WindowsHold (Direct world) = Unit {0}
WindowsHold (Settings config) = Unit {0}
WindowsHold (Roles world) = HoldWindows world
