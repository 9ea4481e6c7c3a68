use Rattle.law_node_traces.proofs.Traced.InTurn.{new_in_turn, change_in_turn, changes_in_turn}
use Rattle.law_node_traces.proofs.traces.turns.nodes_hear_in_turn.Goals as goal

pub returns : goal.returns
returns g c = record { new = new_in_turn; change = change_in_turn; changes = changes_in_turn }
