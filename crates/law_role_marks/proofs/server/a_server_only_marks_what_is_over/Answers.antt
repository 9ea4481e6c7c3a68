use Rattle.law_role_marks.proofs.InEnds.{only_marks_over}
use Rattle.law_role_marks.proofs.server.a_server_only_marks_what_is_over.Goals as goal

pub returns : goal.returns
returns c = λ window is moves may n came put used.
    only_marks_over window is moves may
    (c.a_server_takes_in_order.ensures window moves may) n came put used
