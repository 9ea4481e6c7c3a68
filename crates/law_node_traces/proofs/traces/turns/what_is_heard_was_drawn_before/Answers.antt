use Rattle.law_node_traces.proofs.Traced.HeardBefore.{heard_before}
use Rattle.law_node_traces.proofs.traces.turns.what_is_heard_was_drawn_before.Goals as goal

pub returns : goal.returns
returns g c = heard_before
