use Rattle.law_world_free.proofs.Ends.{client_waits, server_waits}
use Rattle.law_world_free.proofs.due.free_ends_wait_for_windows.Goals as goal

pub returns : goal.returns
returns c = record { client = client_waits; server = server_waits }
