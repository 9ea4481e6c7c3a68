use Rattle.law_node_causes.proofs.StaysClosed.{run_keeps_at_end}
use Rattle.law_node_causes.proofs.closings.an_end_closes_once.Goals as goal

pub returns : goal.returns
returns g c = λ node why later h.
    run_keeps_at_end g.R.Role.rules why g.R.EndRole.acts node later h
