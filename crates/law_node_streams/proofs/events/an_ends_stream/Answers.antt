use Rattle.law_node_streams.proofs.Streams.AtEnds.{end_stream}
use Rattle.law_node_streams.proofs.events.an_ends_stream.Goals as goal

pub returns : goal.returns
returns g c first rooms pipe events piped never unused once accepted turn =
    end_stream g.R.Role.rules g.R.EndRole.acts first rooms pipe piped never unused once events
    accepted turn
