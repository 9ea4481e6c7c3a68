use Rattle.law_node_traces.proofs.Traced.Led.{reached_by_lines}
use Rattle.law_node_traces.proofs.Traced.Openings.{reached_in_order}
use Rattle.law_node_traces.proofs.traces.numbers.channels_come_up_in_order.Goals as goal

pub returns : goal.returns
returns g c = record { changes = reached_in_order; lines = reached_by_lines }
