-- what laws ask of a world of roles: numbers with which those may be made, and cookies
use Rattle.std.specs.Prelude.{◌≡◌, ℕ, suc, List}
use Rattle.rh_window.specs.Sides.{IsWindow}
use Rattle.rh_rts.specs.declared.command.Cookie.{Cookie}
use Rattle.rh_line.specs.declared.leg.LegKind.{LegKind}
use Rattle.rh_inproxy.specs.State as in_state
use Rattle.rh_inproxy.specs.State.{InProxy}
use Rattle.rh_outproxy.specs.OutProxy.{OutProxy}
use Rattle.rh_client.specs.declared.state.ClientRole.{ClientRole}
use Rattle.rh_server.specs.States.{Server}
use Rattle.rh_nodes.specs.Opening.{Makers}
use Rattle.rh_nodes.specs.Settling.{leg_at}
use Rattle.rh_nodes.specs.World.{World}
use Rattle.law_moves.specs.Moving.{Event}
use Rattle.law_moves.specs.Passages.Rising.{CameUpWith}
use Rattle.law_role_inproxy.specs.Legible as in_legible
use Rattle.law_role_client.specs.Legible as client_legible
use Rattle.law_node_history.specs.Drawn.{AreLeft}
use Rattle.law_node_history.specs.Histories.{IsNew}
use Rattle.law_role_outproxy.specs.Legible as out_legible
use Rattle.rh_world.specs.declared.any_world.AnyWorld.{AnyWorld}
use Rattle.rh_world.specs.declared.any_world.AnyWorld.TheVariants.{Before, Direct, Settings, Roles}
use Rattle.law_node_traces.specs.Traced.Cookies.{ByChanges}
use Rattle.law_node_traces.specs.Traced.Ours.{AreOurs, deeds, rules}
use Rattle.law_world_order.specs.Flows.{Numbers, numbers_of}

-- each is in its range, and has its size
pub record AreInRange (numbers : Numbers) : Type 0 where
  pub client : client_legible.IsConfig numbers.client
  pub cookies : client_legible.HasCookies numbers.client
  pub window : IsWindow numbers.window
  -- in proxies are numbered from 1
  pub ins : (n : ℕ) → in_state.IsConfig (numbers.ins (suc n))
  pub sizes : (n : ℕ) → in_legible.HasSizes (numbers.ins n)
  pub outs : (n : ℕ) → out_legible.IsConfig (numbers.outs n)

-- no two legs of one kind came up under one cookie (MS-RPCH 2.2.3.1)
abbrev pub AreDistinct : List Event → Type 0
AreDistinct events =
    (kind : LegKind) (l n : ℕ) (cookie : Cookie) → CameUpWith events (leg_at kind l) cookie
    → CameUpWith events (leg_at kind n) cookie → l ≡ n

-- a world of roles has cookies left for the channels of its client until their count comes to
-- 2^64 - 1, the end of its type (MS-RPCH 2.2.3.1; profile)
abbrev pub AreLeftIn : AnyWorld → Type 0
AreLeftIn Before = Unit {0}
AreLeftIn (Direct world) = Unit {0}
AreLeftIn (Settings config) = Unit {0}
AreLeftIn (Roles world) = AreLeft world.cookies

-- ---- worlds of roles

-- in each world of new roles whose numbers are in their ranges
abbrev pub InNewWorlds : (K : Type 0)
    → ((m : Makers K InProxy OutProxy) (w : World K ClientRole Server InProxy OutProxy)
    → AreOurs m w.company w.cast → Type 0) → Type 0
InNewWorlds K Holds =
    (m : Makers K InProxy OutProxy) (w : World K ClientRole Server InProxy OutProxy) → IsNew w
    → (ours : AreOurs m w.company w.cast) → AreInRange (numbers_of ours) → Holds m w ours

-- at every moment to which changes of lines and half steps lead from there
abbrev pub AtEachMoment : {K : Type 0} (m : Makers K InProxy OutProxy)
    (w : World K ClientRole Server InProxy OutProxy)
    → ((v : World K ClientRole Server InProxy OutProxy) → ByChanges rules m deeds w v → Type 0)
    → Type 0
AtEachMoment {K} m w Holds =
    (v : World K ClientRole Server InProxy OutProxy) (by : ByChanges rules m deeds w v)
    → Holds v by
