use Rattle.law_node_marks.proofs.NodesGoOn.{in_goes_on}
use Rattle.law_node_marks.proofs.in_proxy.no_end_of_a_ci_leg_closes_an_in_proxy_behind_a_mark.Goals as goal

pub returns : goal.returns
returns c = λ config pipe events stream heads n passed going.
    in_goes_on config pipe events stream n
    (c.an_in_proxy_only_marks_behind_a_mark.ensures config stream.leads.moves
    stream.leads.allowed n)
    (c.an_in_proxy_puts_nothing_to_its_client.ensures config stream.leads.moves
    stream.leads.allowed heads n) going passed
