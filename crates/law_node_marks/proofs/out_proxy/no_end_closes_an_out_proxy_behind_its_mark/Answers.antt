use Rattle.law_node_marks.proofs.NodesGoOn.{out_goes_on}
use Rattle.law_node_marks.proofs.out_proxy.no_end_closes_an_out_proxy_behind_its_mark.Goals as goal

pub returns : goal.returns
returns c = λ config pipe events stream.
    out_goes_on config pipe events stream
    (c.an_out_proxy_only_marks_behind_a_mark.ensures config stream.leads.moves
    stream.leads.allowed)
