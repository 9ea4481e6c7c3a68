use Rattle.law_role_server_edges.proofs.Telling.{tells_each}
use Rattle.law_role_server_edges.proofs.windows.a_server_tells_each_window.Goals as goal

pub returns : goal.returns
returns c = tells_each
