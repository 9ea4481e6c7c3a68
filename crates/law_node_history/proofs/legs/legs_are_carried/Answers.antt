use Rattle.law_node_history.proofs.Recordings.{traced_first, changes_are_traced}
use Rattle.law_node_history.proofs.Tracing.{change_is_traced}
use Rattle.law_node_history.proofs.legs.legs_are_carried.Goals as goal

pub returns : goal.returns
returns g c = record {
  begins = traced_first;
  change = change_is_traced;
  changes = changes_are_traced;
}
