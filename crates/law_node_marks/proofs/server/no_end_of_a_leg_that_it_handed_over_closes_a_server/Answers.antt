use Rattle.law_node_marks.proofs.NodesGoOn.{server_goes_on}
use Rattle.law_node_marks.proofs.server.no_end_of_a_leg_that_it_handed_over_closes_a_server.Goals as goal

pub returns : goal.returns
returns c = λ window pipe events stream n.
    server_goes_on window pipe events stream n
    (c.a_server_only_marks_what_it_handed_over.ensures window stream.leads.moves n)
