-- what holds up the PDUs that wait in a world of roles (MS-RPCH 3.2; profile)
use Rattle.std.specs.Prelude.{◌≡◌, ℕ, true, Some, slice_get}
use Rattle.rh_inproxy.specs.State.{InProxy}
use Rattle.rh_outproxy.specs.OutProxy.{OutProxy}
use Rattle.rh_client.specs.declared.channels.Opening.TheVariants.{Put}
use Rattle.rh_client.specs.declared.state.ClientRole.{ClientRole}
use Rattle.rh_server.specs.States.{Server, in_leg, is_open, out_place}
use Rattle.rh_server.specs.declared.state.InLeg.{InLeg}
use Rattle.rh_server.specs.declared.state.OutLeg.{OutLeg}
use Rattle.rh_shell.specs.declared.course.Course.TheVariants.{Going}
use Rattle.rh_shell.specs.Shells.{Shell}
use Rattle.rh_company.specs.declared.place.Place.TheVariants.{Here}
use Rattle.rh_nodes.specs.Breaking.{is_up}
use Rattle.rh_nodes.specs.World.{World}
use Rattle.law_node_begins.specs.ProxiesBegin.Pipes.{ci, co, is, os}
use Rattle.law_node_history.specs.Histories as histories
use Rattle.law_world_waits.specs.HeldUp.{AcksNone, AcksNoneOut, HoldsUpClient, HoldsUpIn, HoldsUpOut, HoldsUpServer}

-- of nodes that go on: each in proxy whose leg to the server is up, each out proxy whose leg to the
-- client is up and whose leg to the server is up, the client on its writing channel and the server
-- on each of its legs
pub record AreHeldUp {K : Type 0} (w : World K ClientRole Server InProxy OutProxy) : Type 0 where
  pub ins : (n : ℕ) (node : Shell InProxy) (legs : ℕ)
      → histories.in_place w.company n ≡ Here node legs → node.course ≡ Going
      → is_up w (is n) ≡ true → HoldsUpIn node.role
  pub outs : (n : ℕ) (node : Shell OutProxy) (legs : ℕ)
      → histories.out_place w.company n ≡ Here node legs → node.course ≡ Going
      → is_up w (co n) ≡ true → HoldsUpOut node.role
  pub out_acks : (n : ℕ) (node : Shell OutProxy) (legs : ℕ)
      → histories.out_place w.company n ≡ Here node legs → node.course ≡ Going
      → is_up w (os n) ≡ true → AcksNoneOut node.role
  pub client : (let s = w.company.client.role in
      w.company.client.course ≡ Going → is_up w (ci s.writing.number) ≡ true
      → s.writing.opening ≡ Put → HoldsUpClient s)
  pub server : (let s = w.company.server.role in
      w.company.server.course ≡ Going → is_open s.stage ≡ true → (n place : ℕ) (leg : OutLeg)
      → out_place n s.outs ≡ Some place → slice_get s.outs place ≡ Some leg
      → is_up w (os n) ≡ true → HoldsUpServer s leg)
  pub server_acks : (let s = w.company.server.role in
      w.company.server.course ≡ Going → (n : ℕ) (leg : InLeg) → in_leg n s.ins ≡ Some leg
      → is_up w (is n) ≡ true → AcksNone s leg)
