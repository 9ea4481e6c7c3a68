use Rattle.law_node_causes.proofs.StaysClosed.{closes_with, run_keeps, tells_none}
use Rattle.law_node_causes.proofs.closings.a_node_closes_once.Goals as goal

pub returns : goal.returns
returns g c =
    let rules = g.R.Role.rules in
    record {
      closed = closes_with rules;
      kept = λ node why later h. run_keeps rules why node later h;
      again = λ node why event h. tells_none rules why node h event;
    }
