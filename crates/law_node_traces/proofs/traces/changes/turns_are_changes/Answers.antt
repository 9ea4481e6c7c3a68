use Rattle.law_node_traces.proofs.Traced.ByChanges.{half_by_changes, lines_by_changes, turns_by_changes}
use Rattle.law_node_traces.proofs.traces.changes.turns_are_changes.Goals as goal

pub returns : goal.returns
returns g c = record {
  lines = lines_by_changes;
  half = half_by_changes;
  turns = turns_by_changes;
}
