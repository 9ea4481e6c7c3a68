use Rattle.law_node_history.proofs.Closed.{tell_closes, tell_silent, closed_stays, closed_for_ever}
use Rattle.law_node_history.proofs.closes.a_node_closes_once.Goals as goal

pub returns : goal.returns
returns g c = record {
  closes = λ r company node event why. tell_closes r why company node event;
  change = closed_stays;
  ever = closed_for_ever;
  once = λ r company node event why. tell_silent r why company node event;
}
