use Rattle.law_node_streams.proofs.events.what_refuses_first_refuses_in_turn.Goals as goal

pub returns : goal.returns
returns g c first pipe leg refuses = record {
  asked = λ moves text fault allowed turn. refuses.asked moves text fault allowed;
  unreached = λ moves wanted allowed turn. refuses.unreached moves wanted allowed;
}
