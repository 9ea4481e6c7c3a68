use Rattle.law_role_server.proofs.Vocabulary.{acts, first, rules}
use Rattle.law_moves.proofs.Vocabulary.{all_end_moved, end_started}
use Rattle.law_role_marks.proofs.ServerMarks.{only_marks_handed}
use Rattle.law_role_marks.proofs.server.a_server_only_marks_what_it_handed_over.Goals as goal

pub returns : goal.returns
returns c = λ window moves n.
    only_marks_handed (all_end_moved rules acts (end_started (first window)) moves) n
    (c.a_server_gives_in_order.ensures window moves)
