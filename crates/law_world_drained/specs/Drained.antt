-- worlds whose hops are drained: each sender knows all that its receiver told (MS-RPCH 3.2; that
-- the ends of a direction are at one channel is this profile's)
use Rattle.std.specs.Prelude.{◌≡◌, ℕ, true, Some}
use Rattle.rh_rts.specs.declared.command.Cookie.{Cookie}
use Rattle.rh_inproxy.specs.State.{InProxy}
use Rattle.rh_outproxy.specs.OutProxy.{OutProxy, joined}
use Rattle.rh_client.specs.State as client
use Rattle.rh_client.specs.declared.channels.Opening.TheVariants.{Put}
use Rattle.rh_client.specs.declared.state.ClientRole.{ClientRole}
use Rattle.rh_server.specs.States as server
use Rattle.rh_server.specs.States.{Server}
use Rattle.rh_server.specs.declared.state.InLeg.{InLeg}
use Rattle.rh_server.specs.declared.state.OutLeg.{OutLeg}
use Rattle.rh_shell.specs.Shells.{Shell}
use Rattle.rh_company.specs.declared.place.Place.TheVariants.{Here}
use Rattle.rh_nodes.specs.Breaking.{is_up}
use Rattle.rh_nodes.specs.World.{World}
use Rattle.law_node_begins.specs.ProxiesBegin.Pipes.{ci, co, is, os}
use Rattle.law_node_history.specs.Histories as histories
use Rattle.law_world_free.specs.Drained.{IsKnown, IsShort}

-- the client's writing channel is up, behind what that begins with
pub record Writes {K : Type 0} (w : World K ClientRole Server InProxy OutProxy) : Type 0 where
  pub up : is_up w (ci w.company.client.role.writing.number) ≡ true
  pub begun : w.company.client.role.writing.opening ≡ Put

-- down: the out proxy of the client's current channel is there, on whose leg the server writes, and
-- both its legs are up; both its hops are known
pub record IsKnownDown {K : Type 0} (w : World K ClientRole Server InProxy OutProxy) : Type 0
  where
    pub writes : Writes w
    pub node : Shell OutProxy
    pub legs : ℕ
    pub there : histories.out_place w.company w.company.client.role.current.number
        ≡ Here node legs
    pub same : w.company.server.role.writing ≡ w.company.client.role.current.number
    pub to_client : is_up w (co w.company.client.role.current.number) ≡ true
    pub from_server : is_up w (os w.company.client.role.current.number) ≡ true
    pub cookie : Cookie
    pub begun : joined node.role.channel ≡ Some cookie
    pub is_open : server.is_open w.company.server.role.stage ≡ true
    pub leg : OutLeg
    pub kept : server.out_leg w.company.server.role.writing w.company.server.role.outs ≡ Some leg
    pub far : IsKnown node.role.window w.company.client.role.line.current.window
    pub near : IsKnown leg.window node.role.line.current.window
    pub short : IsShort w.company.server.role.queue

-- up: the in proxy of the server's current leg is there, and reads the client's writing channel
pub record IsKnownUp {K : Type 0} (w : World K ClientRole Server InProxy OutProxy) : Type 0
  where
    pub writes : Writes w
    pub node : Shell InProxy
    pub legs : ℕ
    pub there : histories.in_place w.company w.company.server.role.current.leg ≡ Here node legs
    pub reads : node.role.current.number ≡ w.company.client.role.writing.number
    pub to_server : is_up w (is w.company.server.role.current.leg) ≡ true
    pub is_open : client.is_open w.company.client.role.phase ≡ true
    pub leg : InLeg
    pub kept : server.in_leg w.company.server.role.current.leg w.company.server.role.ins
        ≡ Some leg
    pub far : IsKnown node.role.window w.company.server.role.line.current.window
    pub near : IsKnown w.company.client.role.writing.window node.role.line.current.window
    pub short : IsShort w.company.client.role.queue
