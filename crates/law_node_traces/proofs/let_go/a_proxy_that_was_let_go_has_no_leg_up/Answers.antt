use Rattle.law_node_traces.proofs.LetGo.NoneUp.{none_up}
use Rattle.law_node_traces.proofs.let_go.a_proxy_that_was_let_go_has_no_leg_up.Goals as goal

pub returns : goal.returns
returns g c = none_up
