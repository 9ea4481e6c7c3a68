use Rattle.law_node_marks.proofs.ServerGoesOn.{goes_behind_end}
use Rattle.law_node_marks.proofs.server.no_end_of_a_leg_that_is_over_closes_a_server.Goals as goal

pub returns : goal.returns
returns c = λ window is pipe events stream n.
    goes_behind_end window pipe events stream n
    (c.a_server_only_marks_what_is_over.ensures window is stream.leads.moves
    stream.leads.allowed n)
