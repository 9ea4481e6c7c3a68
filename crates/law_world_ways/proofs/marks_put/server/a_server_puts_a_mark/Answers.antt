use Rattle.law_world_ways.proofs.MarksPut.ServerMarks.{behind_used, marked, over_marked}
use Rattle.law_world_ways.proofs.marks_put.server.a_server_puts_a_mark.Goals as goal

pub returns-clause-marks : goal.returns-clause-marks
returns-clause-marks c = λ window moves may.
    marked window moves may (c.a_server_gives_in_order.ensures window moves)

pub returns-clause-behind : goal.returns-clause-behind
returns-clause-behind c = behind_used

pub returns-clause-over : goal.returns-clause-over
returns-clause-over c = λ window moves may.
    over_marked window moves (c.a_server_gives_in_order.ensures window moves)
