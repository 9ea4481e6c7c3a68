-- each take is one call more
use Rattle.std.proofs.Common.{◌++◌, ap, rules, ◌∙◌}
use Rattle.std.specs.Arc.{arc_value}
use Rattle.rh_turn.specs.Values.{TurnValue}
use Rattle.rh_streams.proofs.TakerCalls.{took-none, took-pdu}
use Rattle.rh_streams.proofs.taking.take_batch.Goals as goal

pub returns-in_default-clause-took : goal.returns-in_default-clause-took
returns-in_default-clause-took g c =
    took-none _ _ _ _ _ _ _ _ _ _ _
    (ap (λ t. (arc_value {X = TurnValue _} t).first) c.takes.invariant.turn)
    c.takes.invariant.took c.take_pdu-taken.ensures.acts.1 c.in_default.is
    c.take_pdu-taken.ensures.acts.2

pub returns-in-Empty-clause-took : goal.returns-in-Empty-clause-took
returns-in-Empty-clause-took g c =
    took-pdu _ _ _ _ _ _ _ _ _ _ _ _ _ _
    (ap (λ t. (arc_value {X = TurnValue _} t).first) c.takes.invariant.turn)
    c.takes.invariant.took c.take_pdu-taken.ensures.acts.1 c.in-Some.is
    c.take_pdu-taken.ensures.acts.2
    (c.push.ensures ∙ ap (λ bs. c.takes.batch ++ bs) c.bytes.ensures.bytes)

pub returns-in-Ended-clause-took : goal.returns-in-Ended-clause-took
returns-in-Ended-clause-took g c =
    took-pdu _ _ _ _ _ _ _ _ _ _ _ _ _ _
    (ap (λ t. (arc_value {X = TurnValue _} t).first) c.takes.invariant.turn)
    c.takes.invariant.took c.take_pdu-taken.ensures.acts.1 c.in-Some.is
    c.take_pdu-taken.ensures.acts.2
    (c.push.ensures ∙ ap (λ bs. c.takes.batch ++ bs) c.bytes.ensures.bytes)

pub returns-in-Closed-clause-took : goal.returns-in-Closed-clause-took
returns-in-Closed-clause-took g c =
    took-pdu _ _ _ _ _ _ _ _ _ _ _ _ _ _
    (ap (λ t. (arc_value {X = TurnValue _} t).first) c.takes.invariant.turn)
    c.takes.invariant.took c.take_pdu-taken.ensures.acts.1 c.in-Some.is
    c.take_pdu-taken.ensures.acts.2
    (c.push.ensures ∙ ap (λ bs. c.takes.batch ++ bs) c.bytes.ensures.bytes)

pub takes-preserved : goal.takes-preserved
takes-preserved g c = record {
  took = took-pdu _ _ _ _ _ _ _ _ _ _ _ _ _ _
      (ap (λ t. (arc_value {X = TurnValue _} t).first) c.takes.invariant.turn)
      c.takes.invariant.took c.take_pdu-taken.ensures.acts.1 c.in-Some.is
      c.take_pdu-taken.ensures.acts.2
      (c.push.ensures ∙ ap (λ bs. c.takes.batch ++ bs) c.bytes.ensures.bytes);
  turn = search rules;
}
