use Rattle.law_node_streams.proofs.Streams.Nodes.{node_stream}
use Rattle.law_node_streams.proofs.events.a_nodes_stream.Goals as goal

pub returns : goal.returns
returns g c first rooms pipe events has unused once accepted turn =
    node_stream g.R.Role.rules first rooms pipe has unused once events accepted turn
