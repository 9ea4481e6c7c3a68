use Rattle.law_node_streams.proofs.Grown.Nodes.{node_grows}
use Rattle.law_node_streams.proofs.growing.a_nodes_stream_grows.Goals as goal

pub returns : goal.returns
returns g c first rooms pipe events has unused once accepted turn =
    node_grows g.R.Role.rules first rooms pipe has unused once events accepted turn
