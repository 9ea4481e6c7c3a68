use Rattle.law_moves.proofs.Vocabulary.{all_end_moved, end_started}
use Rattle.law_role_server.proofs.Vocabulary.{acts, first, rules}
use Rattle.law_role_server_rows.proofs.Refusing.FirstLeg.{first_so}
use Rattle.law_role_server_edges.proofs.Opened.{opened_once}
use Rattle.law_role_server_edges.proofs.PassesPuts.{passes_so}
use Rattle.law_role_server_edges.proofs.passing.a_server_passes_edges_on.Goals as goal

pub returns : goal.returns
returns c = λ window moves cookie.
    passes_so c.edges_never_fall.ensures cookie window moves
    (opened_once (all_end_moved rules acts (end_started (first window)) moves).passage
    (c.a_server_opens_once.ensures window moves)
    (c.a_server_replaces_out_channels_one_by_one.ensures.legs window moves)
    (first_so window moves))
