use Rattle.law_moves.proofs.Vocabulary.{all_end_moved, end_started}
use Rattle.law_role_server.proofs.Vocabulary.{acts, first, rules}
use Rattle.law_role_server_rows.proofs.Refusing.FirstLeg.{first_so}
use Rattle.law_role_server_edges.proofs.KnowsSteps.{knows_out}
use Rattle.law_role_server_edges.proofs.Opened.{opened_once}
use Rattle.law_role_server_edges.proofs.windows.a_server_knows_what_out_proxies_told.Goals as goal

pub returns : goal.returns
returns c = λ window moves may n.
    knows_out window moves may n
    (opened_once (all_end_moved rules acts (end_started (first window)) moves).passage
    (c.a_server_opens_once.ensures window moves)
    (c.a_server_replaces_out_channels_one_by_one.ensures.legs window moves)
    (first_so window moves) n)
