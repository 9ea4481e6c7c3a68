use Rattle.law_world_waits.proofs.HeldUp.Clients.{client_held_up}
use Rattle.law_world_waits.proofs.HeldUp.InProxies.{in_held_up}
use Rattle.law_world_waits.proofs.HeldUp.OutProxies.{out_acks_none, out_held_up}
use Rattle.law_world_waits.proofs.HeldUp.Servers.{server_acks_none, server_held_up}
use Rattle.law_world_waits.proofs.held_up.what_is_not_put_is_held_up.Goals as goal

pub returns : goal.returns
returns c = record {
  in_proxy = in_held_up;
  out_proxy = out_held_up;
  out_acks = out_acks_none;
  client = client_held_up;
  server = λ s number place leg is at goes none. server_held_up s place leg at number is goes none;
  server_acks = server_acks_none;
}
