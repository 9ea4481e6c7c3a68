use Rattle.law_role_marks.proofs.InMarks.{only_marks_left}
use Rattle.law_role_marks.proofs.server.a_server_only_marks_what_was_handed_over.Goals as goal

pub returns : goal.returns
returns c = λ window moves may n handed used. only_marks_left window moves may n handed used
