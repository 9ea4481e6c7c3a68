use Rattle.law_node_marks.proofs.ServerGoesOn.{goes_behind_a6}
use Rattle.law_node_marks.proofs.server.no_end_of_a_leg_that_was_handed_over_closes_a_server.Goals as goal

pub returns : goal.returns
returns c = λ window pipe events stream n.
    goes_behind_a6 window pipe events stream n
    (c.a_server_only_marks_what_was_handed_over.ensures window stream.leads.moves
    stream.leads.allowed n)
