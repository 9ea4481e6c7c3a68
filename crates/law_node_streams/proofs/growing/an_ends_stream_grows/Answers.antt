use Rattle.law_node_streams.proofs.Grown.Ends.{end_grows}
use Rattle.law_node_streams.proofs.growing.an_ends_stream_grows.Goals as goal

pub returns : goal.returns
returns g c first rooms pipe events piped never unused once accepted turn =
    end_grows g.R.Role.rules g.R.EndRole.acts first rooms pipe piped never unused once events
    accepted turn
