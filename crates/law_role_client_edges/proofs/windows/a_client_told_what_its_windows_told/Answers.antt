use Rattle.law_role_client_edges.proofs.Laws.{client_told}
use Rattle.law_role_client_edges.proofs.windows.a_client_told_what_its_windows_told.Goals as goal

pub returns : goal.returns
returns c = client_told
