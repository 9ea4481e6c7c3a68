use Rattle.law_role_edges.proofs.InTellsPuts.{in_tells}
use Rattle.law_role_edges.proofs.windows.an_in_proxy_told_what_its_windows_told.Goals as goal

pub returns : goal.returns
returns c = in_tells
