use Rattle.law_node_traces.proofs.Traced.Readers.{reached_read, change_read, reader_came_up}
use Rattle.law_node_traces.proofs.traces.numbers.proxies_are_numbered.Goals as goal

pub returns : goal.returns
returns g c = record { reached = reached_read; change = change_read; up = reader_came_up }
