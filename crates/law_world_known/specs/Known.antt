-- the hops that lie on one leg, in a world at rest: from an in proxy to the server, and from the
-- server to an out proxy (MS-RPCH 3.2)
use Rattle.std.specs.Prelude.{◌≡◌, ◌^◌, ◌<◌, ℕ, false, true, Some}
use Rattle.rh_window.specs.Receiving.{edge_of}
use Rattle.rh_window.specs.Sides.{Receiver}
use Rattle.rh_inproxy.specs.Opening.{is_unknown}
use Rattle.rh_inproxy.specs.State.{InProxy}
use Rattle.rh_outproxy.specs.declared.state.ServerLeg.TheVariants as servers
use Rattle.rh_outproxy.specs.OutProxy.{OutProxy}
use Rattle.rh_client.specs.declared.state.ClientRole.{ClientRole}
use Rattle.rh_server.specs.States.{Server, out_leg}
use Rattle.rh_server.specs.declared.state.OutLeg.{OutLeg}
use Rattle.rh_shell.specs.declared.course.Course.TheVariants.{Going}
use Rattle.rh_shell.specs.Shells.{Shell}
use Rattle.rh_company.specs.declared.place.Place.TheVariants.{Here}
use Rattle.rh_nodes.specs.Breaking.{is_up}
use Rattle.rh_nodes.specs.World.{World}
use Rattle.law_node_begins.specs.ProxiesBegin.Pipes.{is, os}
use Rattle.law_node_history.specs.Histories.{in_place, out_place}
use Rattle.law_world_free.specs.Drained.{IsKnown}

-- of a receiver whose window was told, and reaches no further than 32 bits
pub record IsTold (r : Receiver) : Type 0 where
  pub opened : 0 < r.told
  pub fits : edge_of r < 2 ^ 32

-- ---- up

-- the in proxy of the server's current leg is there, both nodes go on, and the leg is up
pub record IsHopUp {K : Type 0} (w : World K ClientRole Server InProxy OutProxy) : Type 0 where
  pub node : Shell InProxy
  pub legs : ℕ
  pub there : in_place w.company w.company.server.role.current.leg ≡ Here node legs
  pub goes : node.course ≡ Going
  pub server_goes : w.company.server.course ≡ Going
  pub up : is_up w (is w.company.server.role.current.leg) ≡ true

-- the proxy knows of a window of the server, and that was told
pub record IsToldUp {K : Type 0} (w : World K ClientRole Server InProxy OutProxy)
    (hop : IsHopUp w) : Type 0 where
  pub known : is_unknown hop.node.role.edge ≡ false
  pub told : IsTold w.company.server.role.line.current.window

-- ---- down

-- the out proxy of this number is there, both nodes go on, the server keeps the leg, and it is up
pub record IsHopDown {K : Type 0} (n : ℕ) (w : World K ClientRole Server InProxy OutProxy)
    : Type 0 where
  pub node : Shell OutProxy
  pub legs : ℕ
  pub there : out_place w.company n ≡ Here node legs
  pub goes : node.course ≡ Going
  pub server_goes : w.company.server.course ≡ Going
  pub leg : OutLeg
  pub kept : out_leg n w.company.server.role.outs ≡ Some leg
  pub up : is_up w (os n) ≡ true

-- the proxy put its first packet there, and its window was told
pub record IsToldDown {K : Type 0} (n : ℕ) (w : World K ClientRole Server InProxy OutProxy)
    (hop : IsHopDown n w) : Type 0 where
  pub begun : hop.node.role.server ≡ servers.Up
  pub told : IsTold hop.node.role.line.current.window

-- ---- a world

-- all that was sent on such a hop came; and once the window was told, the sender knows all that was
pub record AreKnown {K : Type 0} (w : World K ClientRole Server InProxy OutProxy) : Type 0 where
  pub up_came : (hop : IsHopUp w)
      → w.company.server.role.line.current.window.received ≡ hop.node.role.window.sent
  pub up : (hop : IsHopUp w) → IsToldUp w hop
      → IsKnown hop.node.role.window w.company.server.role.line.current.window
  pub down_came : (n : ℕ) (hop : IsHopDown n w)
      → hop.node.role.line.current.window.received ≡ hop.leg.window.sent
  pub down : (n : ℕ) (hop : IsHopDown n w) → IsToldDown n w hop
      → IsKnown hop.leg.window hop.node.role.line.current.window
