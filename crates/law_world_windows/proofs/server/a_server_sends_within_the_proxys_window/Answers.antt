use Rattle.law_world_windows.proofs.ServerSends.{server_sends}
use Rattle.law_world_windows.proofs.server.a_server_sends_within_the_proxys_window.Goals as goal

pub returns : goal.returns
returns c = server_sends
